-- Literals that are among others, by the set of these.
use Rattle.std.proofs.Common.{◌≡◌, ℕ, ◌+◌, ◌<◌, Bool, true, ◌&&◌, ◌||◌, eqb, List, [], ◌∷◌, length, get_or, Option, None, refl, sym, ◌∙◌, inl, inr, arith}
use Rattle.std.proofs.lemmas.List.{get_or_default}
use Rattle.std.specs.List.{list_all}
use Rattle.std.proofs.lemmas.Bool.{and_parts, cases_lt}
use Rattle.graph.specs.declared.circuit.Lit.{Lit}
use Rattle.graph.specs.declared.circuit.Latch.{Latch}
use Rattle.witness_additions.specs.Agreements.{AreSameLatches, IsSameLatch, are_among, is_among, number_in}

pub among_by : (names lits same others : List Lit) (has : ℕ → Bool) → ((n : ℕ) → has n ≡ is_among same others n) →
    list_all (λ a. eqb (number_in names a) 1 || has (number_in names a)) lits ≡ are_among names lits same others
among_by names [] same others has is = refl
among_by names (a ∷ lits) same others has is = rw (is (number_in names a), among_by names lits same others has is) refl

-- what holds below a number and there
pub below_more : (P : ℕ → Type 0) (n : ℕ) → ((k : ℕ) → k < n → P k) → P n → (k : ℕ) → k < n + 1 → P k
below_more P n before here k k_in =
    elim (cases_lt k n) [
      | inl lt ↦ before k lt
      | inr le ↦ let same : n ≡ k = omega arith in rw (← same) here
    ]

-- the latch at a position and what is given of it, by any default
pub same_here : (names same : List Lit) (latches own : List Latch) (given : List (Option Lit)) (k : ℕ) (d e : Latch) (g : Option Lit) → k < length own → g ≡ get_or given k None → IsSameLatch names same latches (get_or own k d) g →
    IsSameLatch names same latches (get_or own k e) (get_or given k None)
same_here names same latches own given k d e g k_in is h = rw (← is, get_or_default own k e d k_in) h

pub parts_of : (b : Bool) (names names2 lits lits2 same same2 others others2 : List Lit) → names ≡ names2 → lits ≡ lits2 → same ≡ same2 → others ≡ others2 →
    b ≡ (are_among names lits same others && are_among same others names lits) → b ≡ true → (are_among names2 lits2 same2 others2 ≡ true) × (are_among same2 others2 names2 lits2 ≡ true)
parts_of b names names2 lits lits2 same same2 others others2 e1 e2 e3 e4 is on =
    rw (← e1, ← e2, ← e3, ← e4) (and_parts (are_among names lits same others) (are_among same others names lits) (sym is ∙ on))

pub latches_of : (names same : List Lit) (latches latches2 own own2 : List Latch) (given given2 : List (Option Lit)) → latches ≡ latches2 → own ≡ own2 → given ≡ given2 → AreSameLatches names same latches own given → AreSameLatches names same latches2 own2 given2
latches_of names same latches latches2 own own2 given given2 e1 e2 e3 h = rw (← e1, ← e2, ← e3) h
