-- What a core of one assumption says.
use Rattle.std.proofs.Common.{◌≡◌, ◌≢◌, ◌-ℤ◌, ◌∙◌, ℕ, zero, suc, Bool, true, false, not, List, [], ◌∷◌, get_or, All, ℤ, pos, negsuc, neg_ℤ, SFits, w32, to_z, of_z, refl, ap, subst, arith}
use Rattle.std.proofs.lemmas.Int.{ints, to_z-of_z}
use Rattle.std.proofs.lemmas.List.Elements.{All-nil, All-cons, All-contains}
use Rattle.lrat.specs.Literals.{is_true, IsSatisfied, Follows}
use Rattle.solver.specs.Answers.{IsCore}

not_not : (b : Bool) → not b ≡ false → b ≡ true
not_not true e = refl
not_not false e = cc

negation_true : (v : ℕ → Bool) (l : ℤ) → l ≢ pos 0 → is_true v l ≡ false → is_true v (neg_ℤ l) ≡ true
negation_true v (pos zero) ne e = absurd (ne refl)
negation_true v (pos (suc n)) ne e = ap not e
negation_true v (negsuc n) ne e = not_not (v (suc n)) e

-- the literal whose negation was assumed is true wherever the clauses are
follows_from_core : (cs : List (List ℤ)) (l : ℤ) (core : List ℤ) → l ≢ pos 0 → IsCore cs (neg_ℤ l ∷ []) core → Follows cs (l ∷ [])
follows_from_core cs l core ne is v sat =
    elim (is_true v l) as (λ x. is_true v l ≡ x → IsSatisfied v (l ∷ [])) [
      | true ↦ λ e. (l, (0, omega arith, refl), e)
      | false ↦ λ e.
          let one : All (λ a. is_true v a ≡ true) (neg_ℤ l ∷ []) = All-cons (λ a. is_true v a ≡ true) (neg_ℤ l) [] (negation_true v l ne e) (All-nil (λ a. is_true v a ≡ true)) in
          absurd (is.refuted v sat (λ k d h. All-contains (λ a. is_true v a ≡ true) (neg_ℤ l ∷ []) (get_or core k d) one (is.among k d h)))
    ] refl

zero_minus : (l : ℤ) → pos 0 -ℤ l ≡ neg_ℤ l
zero_minus l = omega (arith, ints)

-- the assumption, as code negates it
negated_is : (l : ℤ) → SFits w32 l → SFits w32 (neg_ℤ l) → to_z w32 (of_z w32 (pos 0 -ℤ to_z w32 (of_z w32 l))) ≡ neg_ℤ l
negated_is l f g =
    ap (λ (x : ℤ). to_z w32 (of_z w32 (pos 0 -ℤ x))) (to_z-of_z w32 l f) ∙ ap (λ (x : ℤ). to_z w32 (of_z w32 x)) (zero_minus l) ∙ to_z-of_z w32 (neg_ℤ l) g

pub follows_negated : (cs : List (List ℤ)) (l : ℤ) (core : List ℤ) → l ≢ pos 0 → SFits w32 l → SFits w32 (neg_ℤ l) → IsCore cs (to_z w32 (of_z w32 (pos 0 -ℤ to_z w32 (of_z w32 l))) ∷ []) core → Follows cs (l ∷ [])
follows_negated cs l core ne f g is = follows_from_core cs l core ne (subst (λ (x : ℤ). IsCore cs (x ∷ []) core) (negated_is l f g) is)
