use Rattle.std.proofs.Common.{◌≡◌, ◌++◌, map, take}
use Rattle.unrolling.specs.Demands.{cube_clause}
use Rattle.unrolling.proofs.demand.add_cover.Given as goal

abbrev pub invariant-loop-cube : goal.invariant-loop-cube
invariant-loop-cube g l = record {
  vars : g.S.Sat.vars l.solver ≡ g.S.Sat.vars l.initial.solver;
  clauses : g.S.Sat.clauses l.solver ≡ g.S.Sat.clauses l.initial.solver ++ map (cube_clause l.literal l.leaves) (take l.cube-index l.cubes);
}
