use Rattle.std.proofs.Common.{◌≡◌, ◌+◌, ◌-◌, length, sum_by, All, unsigned_abs}
use Rattle.cones.specs.Marks.{IsMarked}
use Rattle.cones.specs.Reach.{idle}
use Rattle.unrolling.specs.Unrollings.{literal_of}
use Rattle.unrolling.proofs.Demanded.{IsGiving}
use Rattle.unrolling.proofs.demand.give.Given as goal

abbrev pub invariant-giving : goal.invariant-giving
invariant-giving g l = record {
  vars : g.S.Sat.vars l.solver ≡ g.S.Sat.vars l.initial.solver;
  giving : IsGiving l.encoder l.marks (g.S.Sat.clauses l.initial.solver) (g.S.Sat.clauses l.solver) l.list.items l.next;
  constraints : All (λ a. IsMarked l.marks (unsigned_abs (literal_of l.table a))) l.constraints;
  bad : All (λ a. IsMarked l.marks (unsigned_abs (literal_of l.table a))) l.bad;
}

abbrev pub decreases-giving : goal.decreases-giving
decreases-giving g l = sum_by idle l.marks + (length l.list.items - l.next)
