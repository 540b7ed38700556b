-- What has been written into values that may be open so far.
use Rattle.std.proofs.Common.{◌≡◌, ℕ, ◌+◌, ◌<◌, ◌≢◌, ◌⊎◌, Bool, List, length, map, set, get_or, inl, inr, arith, AllPairs, Contains, Option, None, refl, ◌∙◌, sym, ap, below_more, subst}
use Rattle.std.proofs.lemmas.List.Elements.{Contains-get_or}
use Rattle.std.proofs.lemmas.List.{get_or-map, get_or-set_same, get_or-set_other}
use Rattle.graph.specs.declared.circuit.Gate.{Gate}
use Rattle.graph.specs.declared.circuit.Lit.{Lit}
use Rattle.graph.specs.Circuits.{variable}
use Rattle.graph.proofs.Evaluation.{Contains-map}
use Rattle.graph.proofs.Filled.{same_or_not}
use Rattle.graph.proofs.Gates.{left}
use Rattle.wave_signals.specs.OpenValues.{open_place}

-- the first n variables have their values, and every other place is as it was
pub record OpenWritten (vars : List ℕ) (values before w : List (Option Bool)) (n : ℕ) : Type 0 where
  pub written : (k : ℕ) → k < n → open_place w (get_or vars k 0) ≡ open_place values k
  pub kept : (v : ℕ) → ((k : ℕ) × (k < n) × (get_or vars k 0 ≡ v)) ⊎ (open_place w v ≡ open_place before v)

pub open_written_none : (vars : List ℕ) (values before : List (Option Bool)) → OpenWritten vars values before before 0
open_written_none vars values before = record { written = λ k k_in. absurd (omega (arith, k_in)); kept = λ v. inr refl }

pub open_written_more : (vars : List ℕ) (values before w : List (Option Bool)) (n v : ℕ) (x : Option Bool) → n < length vars → AllPairs (λ u v. u ≢ v) vars →
    get_or vars n 0 ≡ v → v < length w → x ≡ open_place values n → OpenWritten vars values before w n → OpenWritten vars values before (set w v x) (n + 1)
open_written_more vars values before w n v x n_in once is_v in_range is_x h = record {
  written = below_more (λ k. open_place (set w v x) (get_or vars k 0) ≡ open_place values k) n
      (λ k k_in. let apart : get_or vars k 0 ≢ v = λ e. once k n 0 k_in n_in (e ∙ sym is_v) in get_or-set_other w v (get_or vars k 0) x None apart ∙ h.written k k_in)
      (ap (λ (q : ℕ). open_place (set w v x) q) is_v ∙ get_or-set_same w v x None in_range ∙ is_x);
  kept = λ u. elim (same_or_not v u) [
    | inl same ↦ inl (n, omega arith, is_v ∙ same)
    | inr apart ↦ elim (h.kept u) [ inl found ↦ inl (found.0, omega (arith, found.1), found.2) | inr as_before ↦ inr (get_or-set_other w v u x None (λ e. apart (sym e)) ∙ as_before) ]
  ];
}

pub open_written_kept : (vars : List ℕ) (values before w : List (Option Bool)) (n : ℕ) → n ≡ length vars → OpenWritten vars values before w n → (v : ℕ) → Contains vars v ⊎ (open_place w v ≡ open_place before v)
open_written_kept vars values before w n is_n h v = elim (h.kept v) [
  | inl found ↦ inl (subst (Contains vars) found.2 (Contains-get_or vars found.0 0 (omega (arith, found.1, is_n))))
  | inr as_before ↦ inr as_before
]

pub open_written_at : (lits : List Lit) (values before w : List (Option Bool)) (n : ℕ) → n ≡ length lits → OpenWritten (map variable lits) values before w n →
    (k : ℕ) (d : Lit) → k < length lits → open_place w (variable (get_or lits k d)) ≡ open_place values k
open_written_at lits values before w n is_n h k d k_in = ap (λ (v : ℕ). open_place w v) (sym (get_or-map variable lits k d 0 k_in)) ∙ h.written k (omega (arith, is_n, k_in))

-- what is kept outside of some variables is kept at one that is not among them
pub open_kept_apart : (vars : List ℕ) (before w : List (Option Bool)) (v : ℕ) → Contains vars v ⊎ (open_place w v ≡ open_place before v) → (Contains vars v → ⊥) → open_place w v ≡ open_place before v
open_kept_apart vars before w v h apart = elim h [ inl found ↦ absurd (apart found) | inr same ↦ same ]

-- one gate more
pub open_kept_more : (gates : List Gate) (i : ℕ) (e : Gate) (before w : List (Option Bool)) (v : ℕ) (x : Option Bool) → i < length gates → left (get_or gates i e) ≡ v →
    ((u : ℕ) → Contains (map left gates) u ⊎ (open_place w u ≡ open_place before u)) → (u : ℕ) → Contains (map left gates) u ⊎ (open_place (set w v x) u ≡ open_place before u)
open_kept_more gates i e before w v x i_in is_v h u = elim (same_or_not v u) [
  | inl same ↦ inl (subst (Contains (map left gates)) (is_v ∙ same) (Contains-map left gates i e i_in))
  | inr apart ↦ elim (h u) [ inl found ↦ inl found | inr as_before ↦ inr (get_or-set_other w v u x None (λ q. apart (sym q)) ∙ as_before) ]
]
