-- The literals of the first state.
use Rattle.std.proofs.Common.{◌≡◌, ◌≢◌, ℕ, ◌+◌, ◌<◌, ◌≤◌, List, map, set, length, get_or, All, ℤ, pos, negsuc, inl, inr, refl, sym, ◌∙◌, ap, subst, arith, below_more, length-set, get_or-set_same, get_or-set_other}
use Rattle.std.proofs.lemmas.Bool.{cases_eq, ne_eqb}
use Rattle.std.proofs.lemmas.List.{get_or-map, length-map}
use Rattle.std.proofs.lemmas.List.Elements.{All-map}
use Rattle.graph.specs.declared.circuit.Latch.{Latch}
use Rattle.graph.specs.declared.parts.Parts.{Parts}
use Rattle.lrat.specs.Literals.{IsLiteral}
use Rattle.unrolling.specs.declared.cone.Cone.{Cone}
use Rattle.unrolling.specs.Cones.{IsConeOf, latch_at, no_latch}
use Rattle.unrolling.specs.Unrollings.{AreInitial, constant_of, literal_at}
use Rattle.unrolling.proofs.Tabled.{literals_set, positive_literal}

-- the first i latches of the cone have their literals
pub record IsOpening (m : Parts) (c : Cone) (initial : List ℤ) (i : ℕ) : Type 0 where
  pub whole : length initial ≡ length m.latches
  pub literals : All (IsLiteral (length c.latches.items + 1)) initial
  pub low : (k : ℕ) → k < length m.latches → (latch_at m.latches k).reset.0 ≡ 0 → literal_at initial k ≡ negsuc 0
  pub high : (k : ℕ) → k < length m.latches → (latch_at m.latches k).reset.0 ≡ 1 → literal_at initial k ≡ pos 1
  pub opened : (k : ℕ) → k < i → 1 < (latch_at m.latches (get_or c.latches.items k 0)).reset.0 → literal_at initial (get_or c.latches.items k 0) ≡ pos (k + 2)

low_constant : (l : Latch) → l.reset.0 ≡ 0 → constant_of l ≡ negsuc 0
low_constant l low = rw low refl

high_constant : (l : Latch) → l.reset.0 ≡ 1 → constant_of l ≡ pos 1
high_constant l high = rw high refl

other_constant : (l : Latch) → l.reset.0 ≢ 1 → constant_of l ≡ negsuc 0
other_constant l other = rw (ne_eqb l.reset.0 1 other) refl

constant_literal : (n : ℕ) (l : Latch) → IsLiteral (n + 1) (constant_of l)
constant_literal n l = elim (cases_eq l.reset.0 1) [
  | inl high ↦ subst (IsLiteral (n + 1)) (sym (high_constant l high)) (positive_literal (n + 1) 1 (omega arith) (omega arith))
  | inr other ↦ subst (IsLiteral (n + 1)) (sym (other_constant l other)) (λ z. cc, omega arith)
]

pub opening_begins : (m : Parts) (c : Cone) (initial : List ℤ) → initial ≡ map constant_of m.latches → IsOpening m c initial 0
opening_begins m c initial is =
    let at : (k : ℕ) → k < length m.latches → literal_at initial k ≡ constant_of (latch_at m.latches k) = λ k k_in. ap (λ xs. literal_at xs k) is ∙ get_or-map constant_of m.latches k no_latch (negsuc 0) k_in in
    record {
      whole = ap length is ∙ length-map m.latches constant_of;
      literals = subst (All (IsLiteral (length c.latches.items + 1))) (sym is) (All-map (IsLiteral (length c.latches.items + 1)) constant_of m.latches (λ k d k_in. constant_literal (length c.latches.items) (get_or m.latches k d)));
      low = λ k k_in reset. at k k_in ∙ low_constant (latch_at m.latches k) reset;
      high = λ k k_in reset. at k k_in ∙ high_constant (latch_at m.latches k) reset;
      opened = λ k k_in. absurd (omega (arith, k_in));
    }

pub opening_more : (m : Parts) (c : Cone) (initial : List ℤ) (i : ℕ) → IsConeOf m c → i < length c.latches.items → IsOpening m c initial i → 1 < (latch_at m.latches (get_or c.latches.items i 0)).reset.0 →
    IsOpening m c (set initial (get_or c.latches.items i 0) (pos (i + 2))) (i + 1)
opening_more m c initial i cone i_in h free =
    let n : ℕ = length c.latches.items in
    let p : ℕ = get_or c.latches.items i 0 in
    let p_in : p < length initial = (let q = cone.latches i 0 i_in in omega (arith, q, h.whole)) in
    record {
      whole = length-set initial p (pos (i + 2)) ∙ h.whole;
      literals = literals_set (n + 1) (n + 1) initial p (pos (i + 2)) h.literals (omega arith) p_in (positive_literal (n + 1) (i + 2) (omega arith) (omega (arith, i_in)));
      low = λ k k_in reset. let apart : k ≢ p = λ e. (let r : (latch_at m.latches p).reset.0 ≡ 0 = subst (λ q. (latch_at m.latches q).reset.0 ≡ 0) e reset in omega (arith, r, free)) in
          get_or-set_other initial p k (pos (i + 2)) (negsuc 0) apart ∙ h.low k k_in reset;
      high = λ k k_in reset. let apart : k ≢ p = λ e. (let r : (latch_at m.latches p).reset.0 ≡ 1 = subst (λ q. (latch_at m.latches q).reset.0 ≡ 1) e reset in omega (arith, r, free)) in
          get_or-set_other initial p k (pos (i + 2)) (negsuc 0) apart ∙ h.high k k_in reset;
      opened = below_more _ _
          (λ k k_in free_k.
          let apart : get_or c.latches.items k 0 ≢ p = cone.latches_once k i 0 k_in i_in in
          get_or-set_other initial p (get_or c.latches.items k 0) (pos (i + 2)) (negsuc 0) apart ∙ h.opened k k_in free_k)
          (λ free_i. get_or-set_same initial p (pos (i + 2)) (negsuc 0) p_in);
    }

pub opening_same : (m : Parts) (c : Cone) (initial : List ℤ) (i : ℕ) → IsOpening m c initial i → (latch_at m.latches (get_or c.latches.items i 0)).reset.0 ≤ 1 → IsOpening m c initial (i + 1)
opening_same m c initial i h constant = record {
  whole = h.whole;
  literals = h.literals;
  low = h.low;
  high = h.high;
  opened = below_more _ _ h.opened (λ free. absurd (omega (arith, free, constant)));
}

pub opening_ends : (m : Parts) (c : Cone) (initial : List ℤ) (i : ℕ) → i ≡ length c.latches.items → IsOpening m c initial i → AreInitial m c initial
opening_ends m c initial i last h = record {
  whole = h.whole;
  literals = h.literals;
  low = h.low;
  high = h.high;
  opened = λ k k_in. h.opened k (omega (arith, k_in, last));
}
