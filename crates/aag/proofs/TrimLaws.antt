-- Counts without the zeros at their end.
use Rattle.std.proofs.Common.{◌≡◌, ◌≢◌, ℕ, ◌+◌, ◌-◌, ◌<◌, ◌≤◌, eqb, false, List, [], ◌∷◌, ◌++◌, length, get_or, take, refl, sym, ap, ◌∙◌, arith, inl, inr}
use Rattle.std.proofs.lemmas.Bool.{cases_Bool, eqb-true}
use Rattle.std.proofs.lemmas.List.{length-append, take_all, take_more}
use Rattle.aag.specs.Writing.{trimmed}

-- a 0 at the end changes nothing
pub trimmed-zero : (ns : List ℕ) → trimmed (ns ++ 0 ∷ []) ≡ trimmed ns
unfolding trimmed
trimmed-zero [] = refl
trimmed-zero (n ∷ ns) = rw (trimmed-zero ns) refl

apart : (n m : ℕ) → n ≢ m → eqb n m ≡ false
apart n m other = elim (cases_Bool (eqb n m)) [
  | inl y ↦ absurd (other (eqb-true n m y))
  | inr z ↦ z
]

-- what ends in another number stays whole
pub trimmed-last : (ns : List ℕ) (n : ℕ) → n ≢ 0 → trimmed (ns ++ n ∷ []) ≡ ns ++ n ∷ []
unfolding trimmed
trimmed-last [] n some = rw (apart n 0 some) refl
trimmed-last (m ∷ ns) n some =
    let long : length (ns ++ n ∷ []) ≢ 0 = λ none. omega (arith, none, length-append ns (n ∷ [])) in
    elim (cases_Bool (eqb m 0)) [
      | inl y ↦ rw (trimmed-last ns n some, apart (length (ns ++ n ∷ [])) 0 long, y) refl
      | inr z ↦ rw (trimmed-last ns n some, z) refl
    ]

-- a list by its last number
with_last : (ns : List ℕ) → 1 ≤ length ns → ns ≡ take (length ns - 1) ns ++ get_or ns (length ns - 1) 0 ∷ []
with_last ns some =
    let next : length ns - 1 + 1 ≡ length ns = omega (arith, some) in
    let lt : length ns - 1 < length ns = omega (arith, some) in
    sym (take_all (length ns - 1 + 1) ns (omega (arith, next))) ∙ take_more ns (length ns - 1) 0 lt

pub trimmed_shorter : (ns : List ℕ) → 1 ≤ length ns → get_or ns (length ns - 1) 0 ≡ 0 → trimmed (take (length ns - 1) ns) ≡ trimmed ns
trimmed_shorter ns some zero =
    let front = take (length ns - 1) ns in
    sym (ap trimmed (with_last ns some) ∙ ap (λ (n : ℕ). trimmed (front ++ n ∷ [])) zero ∙ trimmed-zero front)

pub trimmed_whole : (ns : List ℕ) → 1 ≤ length ns → get_or ns (length ns - 1) 0 ≢ 0 → ns ≡ trimmed ns
trimmed_whole ns some other =
    let front = take (length ns - 1) ns in
    let last = get_or ns (length ns - 1) 0 in
    with_last ns some ∙ sym (trimmed-last front last other) ∙ sym (ap trimmed (with_last ns some))

pub trimmed_none : (ns : List ℕ) → length ns < 1 → ns ≡ trimmed ns
unfolding trimmed
trimmed_none [] none = refl
trimmed_none (n ∷ ns) none = absurd (omega (arith, none))
