-- Looking a literal up by its number.
use Rattle.std.proofs.Common.{◌≡◌, ℕ, IsTrue, ◌↔◌, inl, inr, List, map, get_or, Contains, Result, Ok, Err, is_ok, refl, ◌∙◌, ap, subst, arith}
use Rattle.std.specs.List.Sorted.{IsPermutation, IsNonDecreasing, IsBinarySearchResult}
use Rattle.std.specs.Ordering.{nat_cmp}
use Rattle.std.proofs.lemmas.Bool.{cases_lt}
use Rattle.std.proofs.lemmas.List.{get_or_default}
use Rattle.std.proofs.lemmas.List.Sorted.{searched, Contains-permutation, IsPermutation-sym}
use Rattle.graph.specs.declared.circuit.Lit.{Lit}
use Rattle.ic3_step.proofs.Latched.{from_map, to_map}

-- what a search in ordered numbers says
pub found_or_not : (xs : List ℕ) (x : ℕ) (r : Result ℕ ℕ) → IsBinarySearchResult (λ y. nat_cmp y x) xs r → IsNonDecreasing xs → IsTrue (is_ok r) ↔ Contains xs x
found_or_not xs x (Ok i) h up =
    let s = searched xs x (Ok i) h (λ a b le b_in. up a b 0 le b_in) in
    (λ _. (i, s.0, get_or_default xs i x 0 s.0 ∙ s.1), λ _. refl)
found_or_not xs x (Err i) h up =
    let s = searched xs x (Err i) h (λ a b le b_in. up a b 0 le b_in) in (
      λ e. cc,
      λ found.
          let at : get_or xs found.0 0 ≡ x = get_or_default xs found.0 0 x found.1 ∙ found.2 in
          elim (cases_lt found.0 i) [
            | inl below ↦ let less = s.1 found.0 below in absurd (omega (arith, at, less))
            | inr above ↦ let more = s.2 found.0 above found.1 in absurd (omega (arith, at, more))
          ],
    )

-- the same numbers in another order
pub same_numbers : (xs ys : List ℕ) (n : ℕ) → IsPermutation xs ys → Contains ys n ↔ Contains xs n
same_numbers xs ys n h = (Contains-permutation ys xs n (IsPermutation-sym xs ys h), Contains-permutation xs ys n h)

-- a literal is known by its number
pub numbered : (lits : List Lit) (a : Lit) → Contains (map (λ (b : Lit). b.0) lits) a.0 ↔ Contains lits a
numbered lits a = (
  λ found.
      let b = from_map (λ (b : Lit). b.0) lits a a.0 found in
      let same : b.0 ≡ a = ap (λ (n : ℕ). record { 0 = n }) b.2 in
      subst (Contains lits) same b.1,
  to_map (λ (b : Lit). b.0) lits a,
)
