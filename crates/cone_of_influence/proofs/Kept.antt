-- What is kept of a list.
use Rattle.std.proofs.Common.{◌≤◌, Bool, List, [], ◌∷◌, filter, length, inl, inr, arith}
use Rattle.std.proofs.lemmas.Bool.{cases_Bool}

pub few_kept : {X : Type 0} (p : X → Bool) (xs : List X) → length (filter p xs) ≤ length xs
few_kept p [] = omega arith
few_kept p (x ∷ xs) =
    let rest = few_kept p xs in
    elim (cases_Bool (p x)) [
      | inl on ↦ rw on (omega (arith, rest))
      | inr off ↦ rw off (omega (arith, rest))
    ]
