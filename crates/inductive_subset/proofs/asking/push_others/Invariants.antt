use Rattle.std.proofs.Common.{◌≡◌, ◌<◌, false, ℕ, ℤ, List, All, Contains, length, get_or}
use Rattle.inductive_subset.specs.Guards.{guard_of, IsAssumed}
use Rattle.inductive_subset.proofs.asking.push_others.Given as goal

abbrev pub invariant-pushing : goal.invariant-pushing
invariant-pushing l = record {
  kept : (x : ℤ) → Contains l.initial.literals.items x → Contains l.literals.items x;
  others : (i : ℕ) → i < l.place → get_or l.needed.marks.items i false ≡ false → Contains l.literals.items (guard_of l.circuit i);
  assumed : (units : List ℤ) → All (IsAssumed l.circuit (length l.needed.marks.items) units) l.initial.literals.items → All (IsAssumed l.circuit (length l.needed.marks.items) units) l.literals.items;
}
