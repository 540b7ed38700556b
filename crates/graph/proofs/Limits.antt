-- The counts and their limits.
use Rattle.std.proofs.Common.{◌≡◌, ℕ, ◌-◌, ◌^◌, ◌<◌, ◌≤◌, List, [], ◌∷◌, ◌++◌, length, All, arith, sym, subst, length-append}
use Rattle.std.specs.Prelude.{sum_by, min}
use Rattle.std.proofs.Math.ListN.{get_or-append}
use Rattle.graph.specs.declared.parts.Parts.{Parts}
use Rattle.graph.specs.WellFormed.{IsInLimits}
use Rattle.graph.specs.Faults.{IsFirstOver, counts_of}

-- the header's counts
abbrev pub header_of : Parts → List ℕ
header_of m =
    m.max_var ∷ length m.inputs ∷ length m.latches ∷ length m.outputs ∷ length m.gates ∷ length m.bad
    ∷ length m.constraints ∷ length m.justice ∷ length m.fairness ∷ []

pub IsFirstOver-append : (xs ys : List ℕ) (k : ℕ) → IsFirstOver xs k → IsFirstOver (xs ++ ys) k
IsFirstOver-append xs ys k h = record {
  inside = let i = h.inside in omega (arith, i, length-append xs ys);
  over = subst (λ n. 4194303 < n) (sym (get_or-append xs ys 0 k h.inside)) h.over;
  before = λ i i_k. subst (λ n. n ≤ 4194303) (sym (get_or-append xs ys 0 i (let k_in = h.inside in omega (arith, k_in)))) (h.before i i_k);
}

-- a count of the header is the first that is over
pub header_over : (m : Parts) (k : ℕ) → IsFirstOver (header_of m) k → IsFirstOver (counts_of m) k
header_over m k h = IsFirstOver-append (header_of m) (sum_by length m.justice ∷ []) k h

-- the justice literals in all are
pub sum_over : (m : Parts) → All (λ n. n ≤ 4194303) (header_of m) → 4194303 < sum_by length m.justice → IsFirstOver (counts_of m) 9
sum_over m fine over = record {
  inside = omega arith;
  over = over;
  before = λ i i_9. subst (λ n. n ≤ 4194303) (sym (get_or-append (header_of m) (sum_by length m.justice ∷ []) 0 i i_9)) (fine i 0 i_9);
}

-- none is
pub in_limits : (m : Parts) → All (λ n. n ≤ 4194303) (header_of m) → sum_by length m.justice ≤ 4194303 → IsInLimits m
in_limits m fine few = record {
  max_var = fine 0 0 (omega arith);
  inputs = fine 1 0 (omega arith);
  latches = fine 2 0 (omega arith);
  outputs = fine 3 0 (omega arith);
  gates = fine 4 0 (omega arith);
  bad = fine 5 0 (omega arith);
  constraints = fine 6 0 (omega arith);
  justice = fine 7 0 (omega arith);
  fairness = fine 8 0 (omega arith);
  justice_sum = few;
}

-- a sum that stays at the greatest number of 64 bits tells whether it is over the limit
pub over_min : (s n : ℕ) → s ≡ min (2 ^ 64 - 1) n → 4194303 < s → 4194303 < n
over_min s n e h = omega (arith, e, h)

pub under_min : (s n : ℕ) → s ≡ min (2 ^ 64 - 1) n → s ≤ 4194303 → n ≤ 4194303
under_min s n e h = omega (arith, e, h)

pub fine_as : (xs ys : List ℕ) → xs ≡ ys → All (λ n. n ≤ 4194303) xs → All (λ n. n ≤ 4194303) ys
fine_as xs ys same h = subst (λ l. All (λ n. n ≤ 4194303) l) same h
