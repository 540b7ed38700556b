use Rattle.std.proofs.Common.{◌<◌, ℕ, ℤ, List, All, Contains, length, get_or}
use Rattle.inductive_subset.specs.Guards.{guard_of, IsAssumed}
use Rattle.inductive_subset.proofs.asking.push_needed.Given as goal

abbrev pub invariant-pushing : goal.invariant-pushing
invariant-pushing l = record {
  guards : (k : ℕ) → k < l.place-index → Contains l.literals.items (guard_of l.circuit (get_or l.needed.order.items k 0));
  assumed : (units : List ℤ) → All (IsAssumed l.circuit (length l.needed.marks.items) units) l.initial.literals.items → All (IsAssumed l.circuit (length l.needed.marks.items) units) l.literals.items;
}
