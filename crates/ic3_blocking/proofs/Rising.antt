-- Clauses whose latches are in rising order.
use Rattle.std.proofs.Common.{◌≡◌, ℕ, zero, suc, ◌+◌, ◌-◌, ◌<◌, ◌≤◌, ◌↔◌, IsTrue, true, false, List, [], ◌∷◌, ◌++◌, take, length, get_or, arith, All, AllPairs, refl, sym, ap, subst, ◌∙◌}
use Rattle.std.proofs.lemmas.Bool.{false≢true}
use Rattle.std.proofs.lemmas.List.{take_more, take_all, get_or_default}
use Rattle.std.proofs.lemmas.List.Elements.{All-push}
use Rattle.std.proofs.lemmas.List.Quantifiers.{all_pairs_push}
use Rattle.states.specs.declared.state_lit.StateLit.{StateLit}
use Rattle.ic3_frames.specs.Frames.{IsRising}

-- the first literals are in rising order, each below a latch, which is behind that of the last of them
pub record RisesBelow (clause : List StateLit) (i next : ℕ) : Type 0 where
  pub below : All (λ a. a.latch < next) (take i clause)
  pub rising : IsRising (take i clause)
  pub last : (d : StateLit) → 0 < i → next ≡ (get_or clause (i - 1) d).latch + 1
  pub first : i ≡ 0 → next ≡ 0

-- one literal more
pub rises_more : (clause : List StateLit) (i next n : ℕ) (d : StateLit) → RisesBelow clause i next → i < length clause → n ≡ (get_or clause i d).latch → next ≤ n → RisesBelow clause (i + 1) (n + 1)
rises_more clause i next n d h i_in is fits =
    let a : StateLit = get_or clause i d in
    let are : take (i + 1) clause ≡ take i clause ++ a ∷ [] = take_more clause i d i_in in
    record {
      below = subst (All (λ (b : StateLit). b.latch < n + 1)) (sym are)
          (All-push (λ (b : StateLit). b.latch < n + 1) (take i clause) a (λ k e k_in. let below = h.below k e k_in in omega (arith, below, fits)) (omega (arith, is)));
      rising = subst (AllPairs (λ (b e : StateLit). b.latch < e.latch)) (sym are)
          (all_pairs_push (λ (b e : StateLit). b.latch < e.latch) (take i clause) a h.rising (λ k e k_in. let below = h.below k e k_in in omega (arith, below, fits, is)));
      last = λ e pos. let back : i + 1 - 1 ≡ i = omega arith in rw back (ap (λ k. k + 1) (is ∙ ap (λ (b : StateLit). b.latch) (get_or_default clause i d e i_in)));
      first = λ zero. absurd (omega (arith, zero));
    }

-- a literal that is not above the last one
not_rising : (clause : List StateLit) (i next n : ℕ) (d : StateLit) → RisesBelow clause i next → i < length clause → n ≡ (get_or clause i d).latch → n < next → IsRising clause → ⊥
not_rising clause zero next n d h i_in is short rises = let none = h.first refl in omega (arith, none, short)
not_rising clause (suc k) next n d h i_in is short rises =
    let back : suc k - 1 ≡ k = omega arith in
    let last : next ≡ (get_or clause k d).latch + 1 = subst (λ j. next ≡ (get_or clause j d).latch + 1) back (h.last d (omega arith)) in
    let above = rises k (suc k) d (omega arith) i_in in
    omega (arith, last, above, short, is)

-- the answer before the end
pub is_not_rising : (clause : List StateLit) (i next n : ℕ) (d : StateLit) → RisesBelow clause i next → i < length clause → n ≡ (get_or clause i d).latch → n < next →
    IsTrue false ↔ IsRising clause
is_not_rising clause i next n d h i_in is short = (λ yes. absurd (false≢true yes), λ rises. absurd (not_rising clause i next n d h i_in is short rises))

-- the answer at the end
pub is_rising_all : (clause : List StateLit) (i next : ℕ) → RisesBelow clause i next → length clause ≤ i → IsTrue true ↔ IsRising clause
is_rising_all clause i next h end = (λ yes. subst IsRising (take_all i clause end) h.rising, λ rises. refl)
