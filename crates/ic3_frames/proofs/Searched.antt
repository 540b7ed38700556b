-- What a binary search by latch in a rising clause says.
use Rattle.std.proofs.Common.{◌≡◌, ℕ, ◌<◌, ◌≤◌, ◌∙◌, ◌&&◌, true, nat_eq, List, length, get_or, inl, inr, arith, Contains, Err, sym, ap}
use Rattle.std.specs.Bool.{beq}
use Rattle.std.specs.Cmp.{booleans_Decides}
use Rattle.std.specs.List.Sorted.{IsBinarySearchResult, IsNonDecreasingBy}
use Rattle.std.specs.Ordering.{nat_cmp, ordering_index}
use Rattle.std.specs.declared.cmp.Ordering.TheVariants.{Equal}
use Rattle.std.proofs.lemmas.Bool.{cases_lt, eq-eqb}
use Rattle.std.proofs.lemmas.Bool.Decides.{nat_tests}
use Rattle.std.proofs.lemmas.Cmp.{ranked}
use Rattle.std.proofs.lemmas.List.{get_or_default}
use Rattle.states.specs.declared.state_lit.StateLit.{StateLit}
use Rattle.ic3_frames.specs.Frames.{IsRising}

-- the comparisons with a latch rise along the clause, as a binary search asks
comparisons_rise : (clause : List StateLit) (n : ℕ) → IsRising clause → IsNonDecreasingBy (λ (a : StateLit). ordering_index (nat_cmp a.latch n)) clause
comparisons_rise clause n rising i j d le j_in =
    let latches_rise : (get_or clause i d).latch ≤ (get_or clause j d).latch = grind (arith, rising i j d, λ (same : i ≡ j). ap (λ k. (get_or clause k d).latch) same) in
    grind (arith, nat_tests)

-- one latch stands at one place
one_place : (clause : List StateLit) (i j : ℕ) (d : StateLit) → IsRising clause → i < length clause → j < length clause → (get_or clause i d).latch ≡ (get_or clause j d).latch → i ≡ j
one_place clause i j d rising i_in j_in same = elim (cases_lt i j) [
  | inl below ↦ let order = rising i j d below j_in in absurd (omega (arith, order, same))
  | inr past ↦ elim (cases_lt j i) [
    | inl above ↦ let order = rising j i d above i_in in absurd (omega (arith, order, same))
    | inr equal ↦ omega arith
  ]
]

-- what the comparison of a literal with itself finds
alike : (a b : StateLit) → a ≡ b → (nat_eq a.latch b.latch && beq a.value b.value) ≡ true
alike a b same =
    let latch : nat_eq a.latch b.latch ≡ true = eq-eqb a.latch b.latch (ap (λ (x : StateLit). x.latch) same) in
    let value : beq a.value b.value ≡ true = (booleans_Decides a.value b.value).1 (ap (λ (x : StateLit). x.value) same) in
    ap (λ t. t && beq a.value b.value) latch ∙ ap (λ t. true && t) value

-- what stands where the search ended is the literal, if the clause has it
pub found_there : (clause : List StateLit) (lit : StateLit) (place : ℕ) (d : StateLit) → IsRising clause → Contains clause lit → place < length clause → nat_cmp (get_or clause place lit).latch lit.latch ≡ Equal →
    (nat_eq (get_or clause place d).latch lit.latch && beq (get_or clause place d).value lit.value) ≡ true
found_there clause lit place d rising has place_in equal =
    let there : (get_or clause place lit).latch ≡ lit.latch = ranked _ _ _ (sym equal) in
    let here : (get_or clause has.0 lit).latch ≡ lit.latch = ap (λ (a : StateLit). a.latch) has.2 in
    let same : place ≡ has.0 = one_place clause place has.0 lit rising place_in has.1 (there ∙ sym here) in
    alike (get_or clause place d) lit (get_or_default clause place d lit place_in ∙ ap (λ k. get_or clause k lit) same ∙ has.2)

-- a clause that has the literal has its latch
pub not_missed : (clause : List StateLit) (lit : StateLit) (place : ℕ) → IsRising clause → Contains clause lit → IsBinarySearchResult (λ (a : StateLit). nat_cmp a.latch lit.latch) clause (Err place) → ⊥
not_missed clause lit place rising has at =
    let parts = at (comparisons_rise clause lit.latch rising) in
    let here : (get_or clause has.0 lit).latch ≡ lit.latch = ap (λ (a : StateLit). a.latch) has.2 in
    elim (cases_lt has.0 place) [
      | inl below ↦ let less : (get_or clause has.0 lit).latch < lit.latch = ranked _ _ _ (sym (parts.0 has.0 lit (omega arith) below)) in omega (arith, less, here)
      | inr past ↦ let more : lit.latch < (get_or clause has.0 lit).latch = ranked _ _ _ (sym (parts.1 has.0 lit past has.1)) in omega (arith, more, here)
    ]
