-- The gates that have been evaluated so far.
use Rattle.std.proofs.Common.{◌≡◌, ℕ, ◌+◌, ◌%◌, ◌<◌, ◌≢◌, ◌⊎◌, ◌&&◌, Bool, List, length, map, set, get_or, refl, inl, inr, arith, All, AllPairs, Contains, ◌∙◌, sym, ap, below_more, subst}
use Rattle.std.proofs.lemmas.Bool.{cases_lt}
use Rattle.std.proofs.lemmas.List.Elements.{Contains-get_or}
use Rattle.std.proofs.lemmas.List.{get_or-map, length-map, get_or_default}
use Rattle.graph.specs.declared.circuit.Lit.{Lit}
use Rattle.graph.specs.declared.circuit.Gate.{Gate}
use Rattle.graph.specs.Circuits.{place, variable, value_of, Fires}
use Rattle.graph.specs.WellFormed.{gate_in, Reads, IsOrder}
use Rattle.graph.proofs.Filled.{same_or_not, place-set_same, place-set_other}

-- the variable that a gate defines
abbrev pub left : Gate → ℕ
left g = variable g.lhs

pub value_of-even : (w : List Bool) (a : Lit) → a.0 % 2 ≡ 0 → value_of w a ≡ place w (variable a)
value_of-even w a even = rw even refl

pub value_of-set_other : (w : List Bool) (a : Lit) (v : ℕ) (b : Bool) → variable a ≢ v → value_of (set w v b) a ≡ value_of w a
value_of-set_other w a v b apart = rw (place-set_other w (variable a) v b apart) refl

pub Fires-kept : (w : List Bool) (g : Gate) (v : ℕ) (b : Bool) → left g ≢ v → (Reads g v → ⊥) → Fires w g → Fires (set w v b) g
Fires-kept w g v b lhs_apart unread fires =
    rw (value_of-set_other w g.lhs v b lhs_apart, value_of-set_other w g.rhs0 v b (λ e. unread (inl e)), value_of-set_other w g.rhs1 v b (λ e. unread (inr e))) fires

pub Fires-made : (w : List Bool) (g : Gate) → g.lhs.0 % 2 ≡ 0 → left g < length w → (Reads g (left g) → ⊥) →
    Fires (set w (left g) (value_of w g.rhs0 && value_of w g.rhs1)) g
Fires-made w g even in_range unread =
    let b : Bool = value_of w g.rhs0 && value_of w g.rhs1 in
    rw (
      value_of-even (set w (left g) b) g.lhs even,
      place-set_same w (left g) b in_range,
      value_of-set_other w g.rhs0 (left g) b (λ e. unread (inl e)),
      value_of-set_other w g.rhs1 (left g) b (λ e. unread (inr e)),
    ) refl

-- two places of a list without repetitions
pub apart_at : {X : Type 0} (f : X → ℕ) (xs : List X) (i j : ℕ) (d : X) → AllPairs (λ u v. u ≢ v) (map f xs) → i < length xs → j < length xs → i ≢ j →
    f (get_or xs i d) ≢ f (get_or xs j d)
apart_at f xs i j d once i_in j_in differ same =
    let one_way : (a b : ℕ) → a < b → b < length xs → f (get_or xs a d) ≡ f (get_or xs b d) → ⊥ = λ a b a_b b_in e.
    once a b (f d) a_b (omega (arith, length-map xs f)) (get_or-map f xs a d (f d) (omega arith) ∙ e ∙ sym (get_or-map f xs b d (f d) b_in)) in
    elim (cases_lt i j) [ inl below ↦ one_way i j below j_in same | inr above ↦ one_way j i (omega arith) i_in (sym same) ]

-- the first n gates of the order are evaluated
pub record Evaluated (gates : List Gate) (order : List ℕ) (before w : List Bool) (n : ℕ) : Type 0 where
  pub fires : (k : ℕ) → k < n → (d : Gate) → Fires w (gate_in gates order k d)
  pub kept : (v : ℕ) → Contains (map left gates) v ⊎ (place w v ≡ place before v)

pub Evaluated-none : (gates : List Gate) (order : List ℕ) (before : List Bool) → Evaluated gates order before before 0
Evaluated-none gates order before = record { fires = λ k h. absurd (omega arith); kept = λ v. inr refl }

pub Evaluated-more : (gates : List Gate) (order : List ℕ) (before w : List Bool) (n : ℕ) (e : Gate) (v : ℕ) (b : Bool) → IsOrder gates order → n < length order →
    All (λ g. g.lhs.0 % 2 ≡ 0) gates → AllPairs (λ u v. u ≢ v) (map left gates) → left (gate_in gates order n e) < length w →
    left (gate_in gates order n e) ≡ v → (value_of w (gate_in gates order n e).rhs0 && value_of w (gate_in gates order n e).rhs1) ≡ b →
    Evaluated gates order before w n → Evaluated gates order before (set w v b) (n + 1)
Evaluated-more gates order before w n e v b ordered n_in even once in_range is_v is_b h =
    let g : Gate = gate_in gates order n e in
    let at_n : get_or order n 0 < length gates = ordered.in_range n 0 n_in in
    let unread : (k : ℕ) (d : Gate) → k < n + 1 → Reads (gate_in gates order k d) v → ⊥ = λ k d k_in reads.
    let again : Reads (gate_in gates order k e) (left g) =
    subst (Reads (gate_in gates order k e)) (sym is_v) (subst (λ q. Reads q v) (get_or_default gates (get_or order k 0) d e (ordered.in_range k 0 (omega arith))) reads) in
    let below : n < k = ordered.after k n e (omega arith) n_in again in omega arith in
    record {
      fires = below_more _ _
          (λ k k_in d.
          let k_order : k < length order = omega arith in
          let at_k : get_or order k 0 < length gates = ordered.in_range k 0 k_order in
          let lhs_apart : left (gate_in gates order k d) ≢ v = λ same.
          apart_at left gates (get_or order k 0) (get_or order n 0) e once at_k at_n (ordered.once k n 0 k_in n_in)
          (ap left (get_or_default gates (get_or order k 0) e d at_k) ∙ same ∙ sym is_v) in
          Fires-kept w (gate_in gates order k d) v b lhs_apart (unread k d (omega arith)) (h.fires k k_in d))
          (λ d. subst (Fires (set w v b)) (get_or_default gates (get_or order n 0) e d at_n)
          (rw (← is_v, ← is_b) (Fires-made w g (even (get_or order n 0) e at_n) in_range (λ reads. unread n e (omega arith) (subst (Reads g) is_v reads)))));
      kept = λ u. elim (same_or_not v u) [
        | inl same ↦ inl (subst (Contains (map left gates)) (is_v ∙ same)
            (subst (Contains (map left gates)) (get_or-map left gates (get_or order n 0) e 0 at_n) (Contains-get_or (map left gates) (get_or order n 0) 0 (omega (arith, length-map gates left)))))
        | inr apart ↦ elim (h.kept u) [ inl found ↦ inl found | inr as_before ↦ inr (place-set_other w u v b (λ q. apart (sym q)) ∙ as_before) ]
      ];
    }

-- each gate stands somewhere in the order
pub Evaluated-all : (gates : List Gate) (order : List ℕ) (before w : List Bool) (n : ℕ) → IsOrder gates order → length order ≡ n → Evaluated gates order before w n → All (Fires w) gates
Evaluated-all gates order before w n ordered is_n h i d i_in =
    let found : Contains order i = ordered.each i i_in in
    let same : get_or order found.0 0 ≡ i = get_or_default order found.0 0 i found.1 ∙ found.2 in
    subst (λ q. Fires w (get_or gates q d)) same (h.fires found.0 (omega (arith, found.1)) d)
