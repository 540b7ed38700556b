-- The denials of a clause's literals.
use Rattle.std.proofs.Common.{◌≡◌, ℕ, suc, zero, ◌+◌, ◌<◌, ◌≤◌, ◌≢◌, List, [], ◌∷◌, ◌++◌, length, take, get_or, map, Contains, ℤ, pos, negsuc, neg_ℤ, unsigned_abs, refl, sym, ◌∙◌, ap, subst}
use Rattle.std.proofs.lemmas.List.{length-map, get_or-map, map-append}
use Rattle.std.proofs.lemmas.List.Elements.{All-push, Contains-get_or}
use Rattle.std.proofs.lemmas.List.Quantifiers.{all_pairs_push}
use Rattle.lrat.specs.Literals.{IsProper}
use Rattle.lrat.proofs.Looks.{take_more}

pub neg_neg : (l : ℤ) → neg_ℤ (neg_ℤ l) ≡ l
neg_neg (pos zero) = refl
neg_neg (pos (suc n)) = refl
neg_neg (negsuc n) = refl

pub abs_neg : (l : ℤ) → unsigned_abs (neg_ℤ l) ≡ unsigned_abs l
abs_neg (pos zero) = refl
abs_neg (pos (suc n)) = refl
abs_neg (negsuc n) = refl

pub neg_not_zero : (l : ℤ) → l ≢ pos 0 → neg_ℤ l ≢ pos 0
neg_not_zero l ne e = ne (sym (neg_neg l) ∙ ap neg_ℤ e)

-- the denial of a literal of the clause is among the denials
pub denial_of : (c : List ℤ) (l : ℤ) → Contains c l → Contains (map neg_ℤ c) (neg_ℤ l)
denial_of c l (k, lt, e) = (k, rw length-map lt, get_or-map neg_ℤ c k l (neg_ℤ l) lt ∙ ap neg_ℤ e)

pub from_denial : (c : List ℤ) (l : ℤ) → Contains (map neg_ℤ c) l → Contains c (neg_ℤ l)
from_denial c l (k, lt, e) =
    let lt' : k < length c = rw length-map at lt in
    (k, lt', sym (neg_neg _) ∙ ap neg_ℤ (sym (get_or-map neg_ℤ c k (neg_ℤ l) l lt') ∙ e))

pub proper_more : (n : ℕ) (c : List ℤ) (l : ℤ) → IsProper n c → unsigned_abs l ≤ n → (Contains (map neg_ℤ c) l → ⊥) → (Contains (map neg_ℤ c) (neg_ℤ l) → ⊥) → IsProper n (c ++ l ∷ [])
proper_more n c l proper le not_opposed not_repeated = (
  All-push (λ a. unsigned_abs a ≤ n) c l proper.0 le,
  all_pairs_push (λ a b. (a ≢ b) × (a ≢ neg_ℤ b)) c l proper.1 (λ k d lt. (
    λ e. not_repeated (denial_of c l (subst (Contains c) e (Contains-get_or c k d lt))),
    λ e. not_opposed (subst (Contains (map neg_ℤ c)) (neg_neg l) (denial_of c (neg_ℤ l) (subst (Contains c) e (Contains-get_or c k d lt)))),
  )),
)

-- at the next place of the clause
pub proper_at : (n : ℕ) (c : List ℤ) (i : ℕ) (s : List ℤ) → i < length c → IsProper n (take i c) → s ≡ map neg_ℤ (take i c) → unsigned_abs (get_or c i (pos 0)) ≤ n → (Contains s (get_or c i (pos 0)) → ⊥) → (Contains s (neg_ℤ (get_or c i (pos 0))) → ⊥) → IsProper n (take (i + 1) c)
proper_at n c i s lt proper same le op re =
    rw (take_more c i lt) (proper_more n (take i c) _ proper le (subst (λ u. Contains u (get_or c i (pos 0)) → ⊥) same op) (subst (λ u. Contains u (neg_ℤ (get_or c i (pos 0))) → ⊥) same re))

pub denials_at : (c : List ℤ) (i : ℕ) (s : List ℤ) → i < length c → s ≡ map neg_ℤ (take i c) → s ++ neg_ℤ (get_or c i (pos 0)) ∷ [] ≡ map neg_ℤ (take (i + 1) c)
denials_at c i s lt same = rw (take_more c i lt, map-append, same) refl
