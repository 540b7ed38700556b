-- A circuit's gates in the order in which they are evaluated, and the first of them evaluated.
use Rattle.std.proofs.Common.{◌≡◌, ℕ, ◌+◌, ◌%◌, ◌<◌, ◌≢◌, ◌⊎◌, ◌&&◌, Bool, List, [], ◌∷◌, ◌++◌, length, map, set, get_or, refl, inl, inr, arith, All, AllPairs, Contains, ◌∙◌, sym, ap, below_more, subst}
use Rattle.std.proofs.lemmas.List.{get_or-map, length-map, get_or_default, get_or_append_left, get_or_push, length_push, map-set}
use Rattle.graph.specs.declared.circuit.Gate.{Gate}
use Rattle.graph.specs.Circuits.{place, value_of, Fires}
use Rattle.graph.specs.WellFormed.{gate_in, Reads, IsOrder}
use Rattle.graph.proofs.Filled.{same_or_not, place-set_other}
use Rattle.graph.proofs.Gates.{left, apart_at, Fires-kept, Fires-made}
use Rattle.graph.proofs.Evaluation.{Contains-map}
use Rattle.simulate.specs.Lanes.{value_in, row_of}
use Rattle.simulate.specs.Wides.{AreInOrder, AreAfterWhatTheyRead}

-- the first n gates of the order
pub record FirstInOrder (gates : List Gate) (order : List ℕ) (sorted : List Gate) (n : ℕ) : Type 0 where
  pub long : length sorted ≡ n
  pub each : (k : ℕ) (d : Gate) → k < n → get_or sorted k d ≡ gate_in gates order k d

pub FirstInOrder-none : (gates : List Gate) (order : List ℕ) → FirstInOrder gates order [] 0
FirstInOrder-none gates order = record { long = refl; each = λ k d h. absurd (omega (arith, h)) }

pub FirstInOrder-more : (gates : List Gate) (order : List ℕ) (sorted : List Gate) (n : ℕ) (e : Gate) → IsOrder gates order → n < length order →
    FirstInOrder gates order sorted n → FirstInOrder gates order (sorted ++ gate_in gates order n e ∷ []) (n + 1)
FirstInOrder-more gates order sorted n e ordered n_in h = record {
  long = omega (arith, length_push sorted (gate_in gates order n e), h.long);
  each = λ k d. below_more (λ q. get_or (sorted ++ gate_in gates order n e ∷ []) q d ≡ gate_in gates order q d) n
      (λ q q_in. get_or_append_left sorted (gate_in gates order n e ∷ []) d q (omega (arith, h.long)) ∙ h.each q d q_in)
      (get_or_push sorted (gate_in gates order n e) d n h.long ∙ get_or_default gates (get_or order n 0) e d (ordered.in_range n 0 n_in)) k;
}

pub in_order_all : (gates : List Gate) (order : List ℕ) (sorted : List Gate) (n : ℕ) → IsOrder gates order → n ≡ length order → FirstInOrder gates order sorted n → AreInOrder gates sorted
in_order_all gates order sorted n ordered is_n h = record { order = order; is_order = ordered; long = h.long ∙ is_n; each = λ k d k_in. h.each k d (omega (arith, is_n, k_in)) }

-- what holds of all gates in one order holds of all in the other
pub sorted_all : (P : Gate → Type 0) (gates sorted : List Gate) → AreInOrder gates sorted → All P gates → All P sorted
sorted_all P gates sorted h all k d k_in =
    let k_order : k < length h.order = omega (arith, h.long, k_in) in
    subst P (sym (h.each k d k_order)) (all (get_or h.order k 0) d (h.is_order.in_range k 0 k_order))

pub unsorted_all : (P : Gate → Type 0) (gates sorted : List Gate) → AreInOrder gates sorted → All P sorted → All P gates
unsorted_all P gates sorted h all i d i_in =
    let found : Contains h.order i = h.is_order.each i i_in in
    let at : get_or h.order found.0 0 ≡ i = get_or_default h.order found.0 0 i found.1 ∙ found.2 in
    subst (λ q. P (get_or gates q d)) at (subst P (h.each found.0 d found.1) (all found.0 d (omega (arith, h.long, found.1))))

pub sorted_lefts : (gates sorted : List Gate) (v : ℕ) → AreInOrder gates sorted → Contains (map left sorted) v → Contains (map left gates) v
sorted_lefts gates sorted v h found =
    let k : ℕ = found.0 in
    let k_in : k < length sorted = omega (arith, found.1, length-map sorted left) in
    let d : Gate = record { lhs = record { 0 = v }; rhs0 = record { 0 = v }; rhs1 = record { 0 = v } } in
    let k_order : k < length h.order = omega (arith, h.long, k_in) in
    let here : Contains (map left gates) (left (gate_in gates h.order k d)) = Contains-map left gates (get_or h.order k 0) d (h.is_order.in_range k 0 k_order) in
    subst (Contains (map left gates)) (ap left (sym (h.each k d k_order)) ∙ sym (get_or-map left sorted k d v k_in) ∙ found.2) here

pub sorted_once : (gates sorted : List Gate) → AreInOrder gates sorted → AllPairs (λ u v. u ≢ v) (map left gates) → AllPairs (λ u v. u ≢ v) (map left sorted)
sorted_once gates sorted h once i j e i_j j_in same =
    let d : Gate = record { lhs = record { 0 = e }; rhs0 = record { 0 = e }; rhs1 = record { 0 = e } } in
    let j_sorted : j < length sorted = omega (arith, j_in, length-map sorted left) in
    let i_order : i < length h.order = omega (arith, h.long, i_j, j_sorted) in
    let j_order : j < length h.order = omega (arith, h.long, j_sorted) in
    apart_at left gates (get_or h.order i 0) (get_or h.order j 0) d once (h.is_order.in_range i 0 i_order) (h.is_order.in_range j 0 j_order) (h.is_order.once i j 0 i_j j_order)
    (ap left (sym (h.each i d i_order)) ∙ sym (get_or-map left sorted i d e (omega (arith, i_j, j_sorted))) ∙ same ∙ get_or-map left sorted j d e j_sorted ∙ ap left (h.each j d j_order))

pub sorted_after : (gates sorted : List Gate) → AreInOrder gates sorted → AreAfterWhatTheyRead sorted
sorted_after gates sorted h j k d j_in k_in reads =
    let j_order : j < length h.order = omega (arith, h.long, j_in) in
    let k_order : k < length h.order = omega (arith, h.long, k_in) in
    h.is_order.after j k d j_order k_order (subst (λ g. Reads g (left (gate_in gates h.order k d))) (h.each j d j_order) (subst (λ g. Reads (get_or sorted j d) (left g)) (h.each k d k_order) reads))

-- the first n gates are evaluated
pub record Evaluated (gates : List Gate) (before w : List Bool) (n : ℕ) : Type 0 where
  pub fires : (k : ℕ) → k < n → (d : Gate) → Fires w (get_or gates k d)
  pub kept : (v : ℕ) → Contains (map left gates) v ⊎ (place w v ≡ place before v)

Evaluated-more : (gates : List Gate) (before w : List Bool) (n : ℕ) (e : Gate) (v : ℕ) (b : Bool) → n < length gates →
    All (λ g. g.lhs.0 % 2 ≡ 0) gates → AllPairs (λ a c. a ≢ c) (map left gates) → AreAfterWhatTheyRead gates → left (get_or gates n e) < length w →
    left (get_or gates n e) ≡ v → (value_of w (get_or gates n e).rhs0 && value_of w (get_or gates n e).rhs1) ≡ b →
    Evaluated gates before w n → Evaluated gates before (set w v b) (n + 1)
Evaluated-more gates before w n e v b n_in even once after in_range is_v is_b h =
    let g : Gate = get_or gates n e in
    let same_as : (k : ℕ) (d : Gate) → k < length gates → get_or gates k d ≡ get_or gates k e = λ k d k_in. get_or_default gates k d e k_in in
    let unread : (k : ℕ) → k < n + 1 → Reads (get_or gates k e) v → ⊥ = λ k k_in reads.
    let below : n < k = after k n e (omega arith) n_in (subst (Reads (get_or gates k e)) (sym is_v) reads) in omega arith in
    record {
      fires = below_more _ _
          (λ k k_in d. subst (Fires (set w v b)) (sym (same_as k d (omega arith)))
          (Fires-kept w (get_or gates k e) v b (λ same. apart_at left gates k n e once (omega arith) n_in (λ q. omega (arith, q, k_in)) (same ∙ sym is_v)) (unread k (omega arith)) (h.fires k k_in e)))
          (λ d. subst (Fires (set w v b)) (sym (same_as n d n_in))
          (rw (← is_v, ← is_b) (Fires-made w g (even n e n_in) in_range (λ reads. unread n (omega arith) (subst (Reads g) is_v reads)))));
      kept = λ u. elim (same_or_not v u) [
        | inl same ↦ inl (subst (Contains (map left gates)) (is_v ∙ same) (Contains-map left gates n e n_in))
        | inr apart ↦ elim (h.kept u) [ inl found ↦ inl found | inr as_before ↦ inr (place-set_other w u v b (λ q. apart (sym q)) ∙ as_before) ]
      ];
    }

-- the next gate, in one of many runs
pub evaluated_in : (gates : List Gate) (before out : List (List ℕ)) (r n : ℕ) (e : Gate) (v : ℕ) (x : List ℕ) → n < length gates →
    All (λ g. g.lhs.0 % 2 ≡ 0) gates → AllPairs (λ a b. a ≢ b) (map left gates) → AreAfterWhatTheyRead gates → left (get_or gates n e) < length out →
    left (get_or gates n e) ≡ v →
    value_in x r ≡ (value_of (row_of r out) (get_or gates n e).rhs0 && value_of (row_of r out) (get_or gates n e).rhs1) →
    Evaluated gates (row_of r before) (row_of r out) n → Evaluated gates (row_of r before) (row_of r (set out v x)) (n + 1)
evaluated_in gates before out r n e v x n_in even once after in_range is_v is_x h =
    rw (map-set (λ y. value_in y r) out v x)
    (Evaluated-more gates (row_of r before) (row_of r out) n e v (value_in x r) n_in even once after (omega (arith, in_range, length-map out (λ y. value_in y r))) is_v (sym is_x) h)
