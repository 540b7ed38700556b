-- What has been written into a valuation so far.
use Rattle.std.proofs.Common.{◌≡◌, ℕ, ◌+◌, ◌<◌, ◌≢◌, ◌⊎◌, Bool, false, List, length, map, set, get_or, inl, inr, arith, get_or-set_other, get_or-set_same, AllPairs, Contains, ◌∙◌, sym, below_more, subst}
use Rattle.std.proofs.lemmas.Bool.Decides.{eqb_tells}
use Rattle.std.proofs.lemmas.List.Elements.{Contains-get_or}
use Rattle.std.proofs.lemmas.List.{get_or-map}
use Rattle.graph.specs.Circuits.{place}

-- the first n variables have their values, and every other place is as it was
pub record Written (vars : List ℕ) (values before w : List Bool) (n : ℕ) : Type 0 where
  pub written : (k : ℕ) → k < n → place w (get_or vars k 0) ≡ place values k
  pub kept : (v : ℕ) → ((k : ℕ) × (k < n) × (get_or vars k 0 ≡ v)) ⊎ (place w v ≡ place before v)

pub same_or_not : (a b : ℕ) → (a ≡ b) ⊎ (a ≢ b)
same_or_not a b = elim (eqb_tells a b) [ inl h ↦ inl (h.1) | inr h ↦ inr (h.1) ]

pub place-set_same : (w : List Bool) (v : ℕ) (b : Bool) → v < length w → place (set w v b) v ≡ b
place-set_same w v b h = get_or-set_same w v b false h

pub place-set_other : (w : List Bool) (u v : ℕ) (b : Bool) → u ≢ v → place (set w v b) u ≡ place w u
place-set_other w u v b h = get_or-set_other w v u b false h

pub Written-more : (vars : List ℕ) (values before w : List Bool) (n v : ℕ) (b : Bool) → n < length vars → AllPairs (λ u v. u ≢ v) vars →
    get_or vars n 0 ≡ v → v < length w → place values n ≡ b → Written vars values before w n → Written vars values before (set w v b) (n + 1)
Written-more vars values before w n v b n_in once is_v in_range is_b h = record {
  written = below_more _ _
      (λ k k_in. let apart : get_or vars k 0 ≢ v = λ e. once k n 0 k_in n_in (e ∙ sym is_v) in place-set_other w (get_or vars k 0) v b apart ∙ h.written k k_in)
      (rw (is_v, is_b) (place-set_same w v b in_range));
  kept = λ u. elim (same_or_not v u) [
    | inl same ↦ inl (n, omega arith, is_v ∙ same)
    | inr apart ↦ elim (h.kept u) [ inl found ↦ inl (found.0, omega (arith, found.1), found.2) | inr as_before ↦ inr (place-set_other w u v b (λ e. apart (sym e)) ∙ as_before) ]
  ];
}

pub Written-all : (vars : List ℕ) (values before w : List Bool) (n : ℕ) → n ≡ length vars → Written vars values before w n →
    (v : ℕ) → Contains vars v ⊎ (place w v ≡ place before v)
Written-all vars values before w n is_n h v = elim (h.kept v) [
  | inl found ↦ inl (subst (Contains vars) found.2 (Contains-get_or vars found.0 0 (omega (arith, found.1))))
  | inr as_before ↦ inr as_before
]

pub Written-at : {X : Type 0} (f : X → ℕ) (xs : List X) (values before w : List Bool) (n : ℕ) → n ≡ length xs → Written (map f xs) values before w n →
    (k : ℕ) (d : X) → k < length xs → place w (f (get_or xs k d)) ≡ place values k
Written-at f xs values before w n is_n h k d k_in = rw (← get_or-map f xs k d 0 k_in) (h.written k (omega arith))
