use Rattle.std.proofs.Common.{◌≡◌, ◌++◌, map, take}
use Rattle.lrat.specs.Shared.{unit_clauses}
use Rattle.cnf.specs.Clauses.{literal}
use Rattle.cnf.proofs.push.push_constraints.Given as goal

abbrev pub invariant-loop-lit : goal.invariant-loop-lit
invariant-loop-lit g l = g.C.AddClause.clauses l.clauses ≡ g.C.AddClause.clauses l.initial.clauses ++ unit_clauses (map (literal l.time.max_var l.time.offset) (take l.lit-index l.lits))
