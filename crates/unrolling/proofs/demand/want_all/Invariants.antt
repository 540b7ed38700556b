use Rattle.std.proofs.Common.{map, take, unsigned_abs}
use Rattle.cones.specs.Reach.{Grows, IsFrom}
use Rattle.unrolling.specs.Unrollings.{literal_of}
use Rattle.unrolling.proofs.demand.want_all.Given as goal

abbrev pub invariant-loop-lit : goal.invariant-loop-lit
invariant-loop-lit l = record {
  grows : Grows (map (λ a. unsigned_abs (literal_of l.table a)) (take l.lit-index l.lits)) l.initial.marks l.initial.list.items l.marks l.list.items;
  from : IsFrom (map (λ a. unsigned_abs (literal_of l.table a)) (take l.lit-index l.lits)) l.initial.marks l.marks;
}
