-- Negations of literals.
use Rattle.std.proofs.Common.{◌≡◌, ◌≢◌, ℕ, zero, suc, ◌≤◌, Bool, true, false, not, ℤ, pos, negsuc, neg_ℤ, refl, arith}
use Rattle.lrat.specs.Literals.{is_true, IsLiteral}

pub twice : (b : Bool) → b ≡ not (not b)
twice true = refl
twice false = refl

pub negation_true : (v : ℕ → Bool) (l : ℤ) → l ≢ pos 0 → is_true v (neg_ℤ l) ≡ not (is_true v l)
negation_true v (pos zero) ne = absurd (ne refl)
negation_true v (pos (suc n)) ne = refl
negation_true v (negsuc n) ne = twice (v (suc n))

pub negation_literal : (n : ℕ) (l : ℤ) → IsLiteral n l → IsLiteral n (neg_ℤ l)
negation_literal n (pos zero) is = absurd (is.0 refl)
negation_literal n (pos (suc k)) is = (λ e. cc, is.1)
negation_literal n (negsuc k) is = (λ e. let z : suc k ≡ 0 = cc in omega (arith, z), is.1)

pub literal_up : (n k : ℕ) (l : ℤ) → IsLiteral n l → n ≤ k → IsLiteral k l
literal_up n k l is le = (is.0, omega (arith, is.1))
