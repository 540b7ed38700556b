-- The gates that have been evaluated in three values so far.
use Rattle.std.proofs.Common.{◌≡◌, ℕ, ◌+◌, ◌%◌, ◌==◌, ◌<◌, ◌≢◌, Bool, if◌then◌else◌, List, length, map, set, get_or, inl, inr, arith, All, AllPairs, Contains, Option, None, ◌∙◌, sym, ap, below_more, subst}
use Rattle.std.proofs.lemmas.List.{get_or_default, get_or-set_same, get_or-set_other}
use Rattle.graph.specs.declared.circuit.Lit.{Lit}
use Rattle.graph.specs.declared.circuit.Gate.{Gate}
use Rattle.graph.specs.Circuits.{variable}
use Rattle.graph.specs.WellFormed.{gate_in, Reads, IsOrder}
use Rattle.graph.proofs.Gates.{apart_at, left}
use Rattle.wave_signals.specs.OpenValues.{OpenFires, open_and, open_not, open_place, open_value_of}

value_other : (w : List (Option Bool)) (a : Lit) (v : ℕ) (x : Option Bool) → variable a ≢ v → open_value_of (set w v x) a ≡ open_value_of w a
value_other w a v x apart = ap (λ (o : Option Bool). if a.0 % 2 == 1 then open_not o else o) (get_or-set_other w v (variable a) x None apart)

value_same : (w : List (Option Bool)) (a : Lit) (v : ℕ) (x : Option Bool) → a.0 % 2 ≡ 0 → variable a ≡ v → v < length w → open_value_of (set w v x) a ≡ x
value_same w a v x even is_v v_in = rw even (ap (λ (q : ℕ). open_place (set w v x) q) is_v ∙ get_or-set_same w v x None v_in)

fires_kept : (w : List (Option Bool)) (g : Gate) (v : ℕ) (x : Option Bool) → left g ≢ v → (Reads g v → ⊥) → OpenFires w g → OpenFires (set w v x) g
fires_kept w g v x lhs_apart unread fires =
    rw (value_other w g.lhs v x lhs_apart, value_other w g.rhs0 v x (λ e. unread (inl e)), value_other w g.rhs1 v x (λ e. unread (inr e))) fires

fires_made : (w : List (Option Bool)) (g : Gate) (v : ℕ) (x : Option Bool) → g.lhs.0 % 2 ≡ 0 → left g ≡ v → v < length w → (Reads g v → ⊥) → x ≡ open_and (open_value_of w g.rhs0) (open_value_of w g.rhs1) → OpenFires (set w v x) g
fires_made w g v x even is_v v_in unread is_x =
    value_same w g.lhs v x even is_v v_in ∙ is_x ∙ sym (ap (λ (o : Option Bool). open_and o (open_value_of (set w v x) g.rhs1)) (value_other w g.rhs0 v x (λ e. unread (inl e)))
    ∙ ap (λ (o : Option Bool). open_and (open_value_of w g.rhs0) o) (value_other w g.rhs1 v x (λ e. unread (inr e))))

-- the first n gates of the order are evaluated
abbrev pub OpenEvaluated : List Gate → List ℕ → List (Option Bool) → ℕ → Type 0
OpenEvaluated gates order w n = (k : ℕ) → k < n → (d : Gate) → OpenFires w (gate_in gates order k d)

pub open_evaluated_more : (gates : List Gate) (order : List ℕ) (w : List (Option Bool)) (n : ℕ) (e : Gate) (v : ℕ) (x : Option Bool) → IsOrder gates order → n < length order →
    All (λ g. g.lhs.0 % 2 ≡ 0) gates → AllPairs (λ u v. u ≢ v) (map left gates) → v < length w →
    left (gate_in gates order n e) ≡ v → x ≡ open_and (open_value_of w (gate_in gates order n e).rhs0) (open_value_of w (gate_in gates order n e).rhs1) →
    OpenEvaluated gates order w n → OpenEvaluated gates order (set w v x) (n + 1)
open_evaluated_more gates order w n e v x ordered n_in even once in_range is_v is_x h =
    let g : Gate = gate_in gates order n e in
    let at_n : get_or order n 0 < length gates = ordered.in_range n 0 n_in in
    let unread : (k : ℕ) (d : Gate) → k < n + 1 → Reads (gate_in gates order k d) v → ⊥ = λ k d k_in reads.
    let again : Reads (gate_in gates order k e) (left g) =
    subst (Reads (gate_in gates order k e)) (sym is_v) (subst (λ q. Reads q v) (get_or_default gates (get_or order k 0) d e (ordered.in_range k 0 (omega (arith, k_in, n_in)))) reads) in
    let below : n < k = ordered.after k n e (omega (arith, k_in, n_in)) n_in again in omega (arith, below, k_in) in
    below_more (λ k. (d : Gate) → OpenFires (set w v x) (gate_in gates order k d)) n
    (λ k k_in d.
    let k_order : k < length order = omega (arith, k_in, n_in) in
    let at_k : get_or order k 0 < length gates = ordered.in_range k 0 k_order in
    let lhs_apart : left (gate_in gates order k d) ≢ v = λ same.
    apart_at left gates (get_or order k 0) (get_or order n 0) e once at_k at_n (ordered.once k n 0 k_in n_in)
    (ap left (get_or_default gates (get_or order k 0) e d at_k) ∙ same ∙ sym is_v) in
    fires_kept w (gate_in gates order k d) v x lhs_apart (unread k d (omega (arith, k_in))) (h k k_in d))
    (λ d. subst (OpenFires (set w v x)) (get_or_default gates (get_or order n 0) e d at_n)
    (fires_made w g v x (even (get_or order n 0) e at_n) is_v in_range (unread n e (omega arith)) is_x))

-- each gate stands somewhere in the order
pub open_evaluated_all : (gates : List Gate) (order : List ℕ) (w : List (Option Bool)) (n : ℕ) → IsOrder gates order → length order ≡ n → OpenEvaluated gates order w n → All (OpenFires w) gates
open_evaluated_all gates order w n ordered is_n h i d i_in =
    let found : Contains order i = ordered.each i i_in in
    let same : get_or order found.0 0 ≡ i = get_or_default order found.0 0 i found.1 ∙ found.2 in
    subst (λ q. OpenFires w (get_or gates q d)) same (h found.0 (omega (arith, found.1, is_n)) d)
