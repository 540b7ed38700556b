use Rattle.std.proofs.Common.{map, take, unsigned_abs}
use Rattle.cones.specs.Reach.{Grows, IsFrom}
use Rattle.unrolling.proofs.demand.want_each.Given as goal

abbrev pub invariant-loop-literal : goal.invariant-loop-literal
invariant-loop-literal l = record {
  grows : Grows (map unsigned_abs (take l.literal-index l.literals)) l.initial.marks l.initial.list.items l.marks l.list.items;
  from : IsFrom (map unsigned_abs (take l.literal-index l.literals)) l.initial.marks l.marks;
}
