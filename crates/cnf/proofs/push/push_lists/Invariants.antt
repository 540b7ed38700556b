use Rattle.std.proofs.Common.{◌≡◌, ◌++◌, map, take}
use Rattle.cnf.specs.Clauses.{literal}
use Rattle.cnf.proofs.push.push_lists.Given as goal

abbrev pub invariant-loop-k : goal.invariant-loop-k
invariant-loop-k g l = g.C.AddClause.clauses l.clauses ≡ g.C.AddClause.clauses l.initial.clauses ++ map (map (literal l.time.max_var l.time.offset)) (take l.k l.invariant')
