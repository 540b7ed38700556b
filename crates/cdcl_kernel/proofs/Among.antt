-- What a binary search in a sorted list says.
use Rattle.std.proofs.Common.{◌≡◌, ◌∙◌, ◌≤◌, ◌<◌, ℕ, List, length, get_or, Contains, IsTrue, true, false, Result, Ok, Err, is_ok, ◌↔◌, sym, ap, refl, arith, nat_lt, Ordering}
use Rattle.std.proofs.lemmas.Bool.Decides.{nat_tests}
use Rattle.std.specs.List.Sorted.{IsBinarySearchResult, IsSorted, IsSearchInRange}
use Rattle.std.specs.declared.cmp.Ordering.TheVariants.{Less, Equal, Greater}
use Rattle.std.specs.Ordering.{ordering_reverse}
use Rattle.std.specs.Cmp.{IsTotalOrder}
use Rattle.std.proofs.lemmas.List.Sorted.{searchable_from_sorted}
use Rattle.std.proofs.lemmas.Map.Lookups.{CmpEqualImpliesEq}

own_turn : (r : Ordering) → r ≡ ordering_reverse r → r ≡ Equal
own_turn Less e = absurd (let f : Less ≡ Greater = e in cc)
own_turn Equal e = refl
own_turn Greater e = absurd (let f : Greater ≡ Less = e in cc)

pub by_lt : {P : Type 0} (a b : ℕ) → (a < b → P) → (b ≤ a → P) → P
by_lt {P = P} a b y n = elim (nat_lt a b) as (λ r. nat_lt a b ≡ r → P) [ true ↦ λ e. y (grind (arith, nat_tests)) | false ↦ λ e. n (grind (arith, nat_tests)) ] refl

-- an element is found exactly where it is in the list
pub found_where : {K : Type 0} {R : K → K → Ordering} → IsTotalOrder R → CmpEqualImpliesEq R → (xs : List K) (x : K) (r : Result ℕ ℕ) → IsSearchInRange r (length xs) → IsBinarySearchResult (λ y. R y x) xs r → IsSorted R xs → IsTrue (is_ok r) ↔ Contains xs x
found_where o exact xs x (Ok i) lt at sorted = (λ h. (i, lt, exact (get_or xs i x) x (at x)), λ h. refl)
found_where {R = R} o exact xs x (Err i) le at sorted =
    let parts = at (searchable_from_sorted o (λ y. y) xs x sorted) in
    let own : R x x ≡ Equal = own_turn (R x x) (o.antisymm x x) in (
      λ h. absurd (let f : false ≡ true = h in cc),
      λ h. by_lt h.0 i
          (λ lt. absurd (let e : R x x ≡ Less = sym (ap (λ y. R y x) h.2) ∙ parts.0 h.0 x (omega arith) lt in cc))
          (λ ge. absurd (let e : R x x ≡ Greater = sym (ap (λ y. R y x) h.2) ∙ parts.1 h.0 x ge h.1 in cc)),
    )
