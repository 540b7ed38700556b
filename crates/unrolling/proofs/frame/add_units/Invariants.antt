use Rattle.std.proofs.Common.{◌≡◌, ◌++◌, map, take}
use Rattle.lrat.specs.Shared.{unit_clauses}
use Rattle.unrolling.specs.Unrollings.{literal_of}
use Rattle.unrolling.proofs.frame.add_units.Given as goal

abbrev pub invariant-loop-lit : goal.invariant-loop-lit
invariant-loop-lit g l = record {
  vars : g.S.Sat.vars l.solver ≡ g.S.Sat.vars l.initial.solver;
  clauses : g.S.Sat.clauses l.solver ≡ g.S.Sat.clauses l.initial.solver ++ unit_clauses (map (literal_of l.table) (take l.lit-index l.lits));
}
