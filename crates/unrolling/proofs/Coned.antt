-- Positions that are marked, cells in the order of the gates, and the cone that they make.
use Rattle.std.proofs.Common.{◌≡◌, ◌≢◌, ℕ, ◌+◌, ◌*◌, ◌%◌, ◌==◌, ◌<◌, ◌≤◌, ◌⊎◌, Bool, List, [], ◌∷◌, ◌++◌, map, length, get_or, All, AllPairs, Contains, refl, inl, inr, sym, ◌∙◌, ap, subst, arith, length-append}
use Rattle.std.proofs.lemmas.Bool.{cases_Bool, cases_lt, eqb-true}
use Rattle.std.proofs.lemmas.Bool.Decides.{Decides-eqb}
use Rattle.std.proofs.lemmas.List.{get_or_append_left, get_or_at, get_or_default, get_or-map, length-map}
use Rattle.std.proofs.lemmas.List.Elements.{All-cons, All-head, All-tail, All-push, All-contains, Contains-get_or, Contains-append_left, Contains-append_right, Contains-append_cases}
use Rattle.std.proofs.lemmas.List.Kept.{AllPairs-cons}
use Rattle.std.proofs.lemmas.Map.Made.{IsDistinct-from_AllPairs}
use Rattle.std.proofs.lemmas.Map.Steps.{length-le_from_distinct_below}
use Rattle.std.proofs.lemmas.Map.Views.{Contains-from_any}
use Rattle.graph.specs.declared.circuit.Lit.{Lit}
use Rattle.graph.specs.declared.circuit.Latch.{Latch}
use Rattle.graph.specs.declared.parts.Parts.{Parts}
use Rattle.graph.specs.Circuits.{variable, defined}
use Rattle.graph.specs.WellFormed.{IsWellFormed, IsOrder}
use Rattle.graph.proofs.Evaluation.{Contains-map, defined_nonzero, held, latches_even}
use Rattle.graph.proofs.Gates.{left}
use Rattle.graph.proofs.Tabled.{holds_of_used}
use Rattle.cnf.specs.Clauses.{next_of}
use Rattle.cnf.proofs.Formed.{defined_small}
use Rattle.unrolling.proofs.Closed.{even_sign}
use Rattle.cones.specs.Marks.{IsMarked, IsKnown}
use Rattle.cuts.specs.declared.cut.Cut.{Cut}
use Rattle.cuts.specs.Cuts.{AreCuts, IsBefore, IsCutOf, IsLeaf, cut_at, left_in, no_gate}
use Rattle.unrolling.specs.declared.cone.Cell.{Cell}
use Rattle.unrolling.specs.declared.cone.Cone.{Cone}
use Rattle.unrolling.specs.Cones.{ArePositions, AreOrdered, is_marked_input, is_marked_latch, IsLeft, IsOutside, IsFilled, IsIn, IsClosed, IsConeOf, cell_at, no_cell, input_at, latch_at, no_latch}

-- positions
pub positions_none : (P : ℕ → Type 0) → ArePositions P 0 []
positions_none P = record { inside = λ k d k_in. absurd (omega (arith, k_in)); once = λ i j d i_j j_in. absurd (omega (arith, j_in)); each = λ i i_in on. absurd (omega (arith, i_in)); only = λ k d k_in. absurd (omega (arith, k_in)); few = omega arith }

pub positions_more : (P : ℕ → Type 0) (n : ℕ) (list : List ℕ) → ArePositions P n list → P n → ArePositions P (n + 1) (list ++ n ∷ [])
positions_more P n list h on = record {
  inside = All-push (λ i. i < n + 1) list n (λ k d k_in. let p = h.inside k d k_in in omega (arith, p)) (omega arith);
  once = λ i j d i_j j_in e. elim (cases_lt j (length list)) [
    | inl old ↦ h.once i j d i_j old (sym (get_or_append_left list (n ∷ []) d i (omega (arith, i_j, old))) ∙ e ∙ get_or_append_left list (n ∷ []) d j old)
    | inr last ↦
        let j_is : length list ≡ j = omega (arith, last, j_in, length-append list (n ∷ [])) in
        let i_in : i < length list = omega (arith, i_j, j_is) in
        let p = h.inside i d i_in in
        let q : get_or list i d ≡ n = sym (get_or_append_left list (n ∷ []) d i i_in) ∙ e ∙ get_or_at list n [] d j j_is in
        omega (arith, p, q)
  ];
  each = λ i i_in here. elim (cases_lt i n) [
    | inl below ↦ Contains-append_left list (n ∷ []) i (h.each i below here)
    | inr last ↦ Contains-append_right list (n ∷ []) i (0, omega arith, omega (arith, i_in, last))
  ];
  only = All-push P list n h.only on;
  few = omega (arith, h.few, length-append list (n ∷ []));
}

pub positions_same : (P : ℕ → Type 0) (n : ℕ) (list : List ℕ) → ArePositions P n list → (P n → ⊥) → ArePositions P (n + 1) list
positions_same P n list h off = record {
  inside = λ k d k_in. let p = h.inside k d k_in in omega (arith, p);
  once = h.once;
  each = λ i i_in on. elim (cases_lt i n) [
    | inl below ↦ h.each i below on
    | inr last ↦ let is : i ≡ n = omega (arith, i_in, last) in absurd (off (subst P is on))
  ];
  only = h.only;
  few = omega (arith, h.few);
}

-- the marked ones among the first n gates of the order, as cells
pub record AreOrderedTo (m : Parts) (cuts : List Cut) (marks : List Bool) (order : List ℕ) (cells : List Cell) (n : ℕ) : Type 0 where
  pub among : All (λ c. (c.variable ≤ m.max_var) × (c.cut ≡ cut_at cuts c.variable) × IsMarked marks c.variable) cells
  pub each : (k : ℕ) → k < n → IsMarked marks (left_in m order k) → IsLeft cells (length cells) (left_in m order k)
  pub after : (k u : ℕ) → k < length cells → IsLeaf (cell_at cells k).cut u → IsMarked marks u → IsOutside m u ⊎ IsLeft cells k u
  pub few : length cells ≤ n
  pub inside : length cells ≤ length order

-- the variable with its cut
abbrev pub cell_of : List Cut → ℕ → Cell
cell_of cuts v = record { variable = v; cut = cut_at cuts v }

left_later : (cells : List Cell) (c : Cell) (n k v : ℕ) → n ≤ k → IsLeft cells n v → IsLeft (cells ++ c ∷ []) k v
left_later cells c n k v le (i, i_n, i_in, is) =
    (i, omega (arith, i_n, le), omega (arith, i_in, length-append cells (c ∷ [])), ap (λ (q : Cell). q.variable) (get_or_append_left cells (c ∷ []) no_cell i i_in) ∙ is)

left_last : (cells : List Cell) (c : Cell) (k : ℕ) → length cells < k → IsLeft (cells ++ c ∷ []) k c.variable
left_last cells c k lt = (length cells, lt, omega (arith, length-append cells (c ∷ [])), ap (λ (q : Cell). q.variable) (get_or_at cells c [] no_cell (length cells) refl))

-- a leaf that comes before is outside of the gates, or of a cell before
before_left : (m : Parts) (cuts : List Cut) (marks : List Bool) (order : List ℕ) (cells : List Cell) (n u : ℕ) → AreOrderedTo m cuts marks order cells n → IsBefore m order n u → IsMarked marks u →
    IsOutside m u ⊎ IsLeft cells (length cells) u
before_left m cuts marks order cells n u h (inl none) on = inl (inl none)
before_left m cuts marks order cells n u h (inr (inl input)) on = inl (inr (inl input))
before_left m cuts marks order cells n u h (inr (inr (inl latch))) on = inl (inr (inr latch))
before_left m cuts marks order cells n u h (inr (inr (inr (k, k_n, k_in, is)))) on = inr (subst (IsLeft cells (length cells)) is (h.each k k_n (subst (IsMarked marks) (sym is) on)))

-- what is known is outside of the gates or a gate's
known_or_gate : (m : Parts) (v : ℕ) → IsKnown m v → IsOutside m v ⊎ Contains (map left m.gates) v
known_or_gate m v (inl zero) = inl (inl zero)
known_or_gate m v (inr found) = elim (Contains-append_cases (map variable m.inputs ++ map held m.latches) (map left m.gates) v found) [
  | inl outside ↦ elim (Contains-append_cases (map variable m.inputs) (map held m.latches) v outside) [
    | inl input ↦ inl (inr (inl input))
    | inr latch ↦ inl (inr (inr latch))
  ]
  | inr gate ↦ inr gate
]

-- where a gate's variable stands in the order
order_place : (m : Parts) (order : List ℕ) (v : ℕ) → IsOrder m.gates order → Contains (map left m.gates) v → (k : ℕ) × (k < length order) × (left_in m order k ≡ v)
order_place m order v is_order gate =
    let i_in : gate.0 < length m.gates = omega (arith, gate.1, length-map m.gates left) in
    let at = is_order.each gate.0 i_in in
    let is_i : get_or order at.0 0 ≡ gate.0 = get_or_default order at.0 0 gate.0 at.1 ∙ at.2 in
    (at.0, at.1, ap (λ q. left (get_or m.gates q no_gate)) is_i ∙ sym (get_or-map left m.gates gate.0 no_gate v i_in) ∙ gate.2)

pub ordered_more : (m : Parts) (cuts : List Cut) (marks : List Bool) (order : List ℕ) (cells : List Cell) (n : ℕ) → IsOrder m.gates order → AreCuts m cuts → n < length order → left_in m order n ≤ m.max_var →
    AreOrderedTo m cuts marks order cells n → IsMarked marks (left_in m order n) → AreOrderedTo m cuts marks order (cells ++ cell_of cuts (left_in m order n) ∷ []) (n + 1)
ordered_more m cuts marks order cells n is_order are n_in range h on =
    let v : ℕ = left_in m order n in
    let c : Cell = record { variable = v; cut = cut_at cuts v } in
    let long : length (cells ++ c ∷ []) ≡ length cells + 1 = length-append cells (c ∷ []) in
    record {
      among = All-push (λ (x : Cell). (x.variable ≤ m.max_var) × (x.cut ≡ cut_at cuts x.variable) × IsMarked marks x.variable) cells c h.among (range, refl, on);
      each = λ k k_in marked. elim (cases_lt k n) [
        | inl below ↦ left_later cells c (length cells) (length (cells ++ c ∷ [])) _ (omega (arith, long)) (h.each k below marked)
        | inr last ↦
            let is : n ≡ k = omega (arith, k_in, last) in
            subst (λ q. IsLeft (cells ++ c ∷ []) (length (cells ++ c ∷ [])) (left_in m order q)) is (left_last cells c (length (cells ++ c ∷ [])) (omega (arith, long)))
      ];
      after = λ k u k_in leaf marked. elim (cases_lt k (length cells)) [
        | inl old ↦
            let same : cell_at (cells ++ c ∷ []) k ≡ cell_at cells k = get_or_append_left cells (c ∷ []) no_cell k old in
            elim (h.after k u old (subst (λ (q : Cell). IsLeaf q.cut u) same leaf) marked) [
              | inl outside ↦ inl outside
              | inr before ↦ inr (left_later cells c k k u (omega arith) before)
            ]
        | inr last ↦
            let k_is : length cells ≡ k = omega (arith, k_in, last, long) in
            let same : cell_at (cells ++ c ∷ []) k ≡ c = get_or_at cells c [] no_cell k k_is in
            let leaf_c : IsLeaf (cut_at cuts v) u = subst (λ (q : Cell). IsLeaf q.cut u) same leaf in
            elim (before_left m cuts marks order cells n u h (are.before order is_order n u n_in leaf_c) marked) [
              | inl outside ↦ inl outside
              | inr found ↦ inr (left_later cells c (length cells) k u (omega (arith, k_is)) found)
            ]
      ];
      few = omega (arith, h.few, long);
      inside = omega (arith, h.few, n_in, long);
    }

pub ordered_same : (m : Parts) (cuts : List Cut) (marks : List Bool) (order : List ℕ) (cells : List Cell) (n : ℕ) → AreOrderedTo m cuts marks order cells n →
    (IsMarked marks (left_in m order n) → ⊥) → AreOrderedTo m cuts marks order cells (n + 1)
ordered_same m cuts marks order cells n h off = record {
  among = h.among;
  each = λ k k_in marked. elim (cases_lt k n) [
    | inl below ↦ h.each k below marked
    | inr last ↦ let is : k ≡ n = omega (arith, k_in, last) in absurd (off (subst (λ q. IsMarked marks (left_in m order q)) is marked))
  ];
  after = h.after;
  few = omega (arith, h.few);
  inside = h.inside;
}

pub ordered_none : (m : Parts) (cuts : List Cut) (marks : List Bool) (order : List ℕ) → AreOrderedTo m cuts marks order [] 0
ordered_none m cuts marks order = record {
  among = λ k d k_in. absurd (omega (arith, k_in));
  each = λ k k_in. absurd (omega (arith, k_in));
  after = λ k u k_in. absurd (omega (arith, k_in));
  few = omega arith;
  inside = omega arith;
}

-- numbers below n, each once
few_below : (vs : List ℕ) (n : ℕ) → AllPairs (λ u v. u ≢ v) vs → All (λ v. v < n) vs → length vs ≤ n
few_below vs n once below =
    length-le_from_distinct_below vs n (IsDistinct-from_AllPairs Decides-eqb vs once) (λ q found. All-contains (λ v. v < n) vs q below (Contains-from_any eqb-true q vs found))

-- inputs, latches and gates have variables of their own
few_defined : (m : Parts) → IsWellFormed m → length m.inputs + length m.latches + length m.gates ≤ m.max_var
few_defined m well =
    let inputs : List ℕ = map variable m.inputs in
    let latches : List ℕ = map held m.latches in
    let gates : List ℕ = map left m.gates in
    let once : AllPairs (λ u v. u ≢ v) (0 ∷ defined m) = AllPairs-cons (λ u v. u ≢ v) 0 (defined m) (λ k d k_in e. defined_nonzero m well k d k_in (sym e)) well.defined_once in
    let below : All (λ v. v < m.max_var + 1) (0 ∷ defined m) = All-cons (λ v. v < m.max_var + 1) 0 (defined m) (omega arith)
    (λ k d k_in. let p = defined_small m (get_or (defined m) k d) well (Contains-get_or (defined m) k d k_in) in omega (arith, p)) in
    omega (arith, few_below (0 ∷ defined m) (m.max_var + 1) once below, length-append (inputs ++ latches) gates, length-append inputs latches, length-map m.inputs variable, length-map m.latches held, length-map m.gates left)

pub ordered_all : (m : Parts) (cuts : List Cut) (marks : List Bool) (order : List ℕ) (cells : List Cell) (n : ℕ) → IsOrder m.gates order → length order ≤ n → AreOrderedTo m cuts marks order cells n →
    AreOrdered m cuts marks cells
ordered_all m cuts marks order cells n is_order past h = record {
  among = h.among;
  each = λ k d k_in marked.
      let v : ℕ = left (get_or m.gates k d) in
      let there : Contains (map left m.gates) v = Contains-map left m.gates k d k_in in
      let at = order_place m order v is_order there in
      subst (IsLeft cells (length cells)) at.2 (h.each at.0 (omega (arith, at.1, past)) (subst (IsMarked marks) (sym at.2) marked));
  after = h.after;
  few = omega (arith, h.inside, few_below order (length m.gates) is_order.once is_order.in_range);
}

-- what is marked and known is of the cone
filled_outside : (m : Parts) (marks : List Bool) (c : Cone) (n v : ℕ) → ArePositions (is_marked_input marks m.inputs) (length m.inputs) c.inputs.items →
    ArePositions (is_marked_latch marks m.latches) (length m.latches) c.latches.items → IsMarked marks v → IsOutside m v → IsFilled m c (length c.inputs.items) (length c.latches.items) n v
filled_outside m marks c n v inputs latches on (inl zero) = inl zero
filled_outside m marks c n v inputs latches on (inr (inl (k, k_in, here))) =
    let k_input : k < length m.inputs = omega (arith, k_in, length-map m.inputs variable) in
    let is : input_at m.inputs k ≡ v = sym (get_or-map variable m.inputs k (record { 0 = 0 }) v k_input) ∙ here in
    let at = inputs.each k k_input (subst (IsMarked marks) (sym is) on) in
    inr (inl (at.0, at.1, ap (input_at m.inputs) (get_or_default c.inputs.items at.0 0 k at.1 ∙ at.2) ∙ is))
filled_outside m marks c n v inputs latches on (inr (inr (k, k_in, here))) =
    let k_latch : k < length m.latches = omega (arith, k_in, length-map m.latches held) in
    let is : variable (latch_at m.latches k).lit ≡ v = sym (get_or-map held m.latches k no_latch v k_latch) ∙ here in
    let at = latches.each k k_latch (subst (IsMarked marks) (sym is) on) in
    inr (inr (inl (at.0, at.1, ap (λ q. variable (latch_at m.latches q).lit) (get_or_default c.latches.items at.0 0 k at.1 ∙ at.2) ∙ is)))

filled_left : (m : Parts) (c : Cone) (n v : ℕ) → IsLeft c.cells.items n v → IsFilled m c (length c.inputs.items) (length c.latches.items) n v
filled_left m c n v (k, k_n, k_in, is) = inr (inr (inr (k, k_n, is)))

in_cone : (m : Parts) (cuts : List Cut) (marks : List Bool) (c : Cone) (v : ℕ) → ArePositions (is_marked_input marks m.inputs) (length m.inputs) c.inputs.items →
    ArePositions (is_marked_latch marks m.latches) (length m.latches) c.latches.items → AreOrdered m cuts marks c.cells.items → IsMarked marks v → IsKnown m v → IsIn m c v
in_cone m cuts marks c v inputs latches cells on known = elim (known_or_gate m v known) [
  | inl outside ↦ filled_outside m marks c (length c.cells.items) v inputs latches on outside
  | inr (k, k_in, here) ↦
      let k_gate : k < length m.gates = omega (arith, k_in, length-map m.gates left) in
      let is : left (get_or m.gates k no_gate) ≡ v = sym (get_or-map left m.gates k no_gate v k_gate) ∙ here in
      filled_left m c (length c.cells.items) v (subst (IsLeft c.cells.items (length c.cells.items)) is (cells.each k no_gate k_gate (subst (IsMarked marks) (sym is) on)))
]

next_known : (m : Parts) (ls : List Latch) (a : Lit) → All (λ l. IsKnown m (variable l.next)) ls → IsKnown m (variable a) → a.0 % 2 ≡ 0 → IsKnown m (variable (next_of ls a))
next_known m [] a all known even = known
next_known m (l ∷ ls) a all known even = elim (cases_Bool (variable l.lit == variable a)) [
  | inl same ↦ rw (same, even_sign a even) (All-head (λ (x : Latch). IsKnown m (variable x.next)) l ls all)
  | inr other ↦ rw other (next_known m ls a (All-tail (λ (x : Latch). IsKnown m (variable x.next)) l ls all) known even)
]

reads_before : (m : Parts) (cuts : List Cut) (marks : List Bool) (c : Cone) (n u : ℕ) → ArePositions (is_marked_input marks m.inputs) (length m.inputs) c.inputs.items →
    ArePositions (is_marked_latch marks m.latches) (length m.latches) c.latches.items → AreOrdered m cuts marks c.cells.items → n < length c.cells.items →
    IsLeaf (cell_at c.cells.items n).cut u → IsMarked marks u → IsFilled m c (length c.inputs.items) (length c.latches.items) n u
reads_before m cuts marks c n u inputs latches cells n_in leaf on = elim (cells.after n u n_in leaf on) [
  | inl outside ↦ filled_outside m marks c n u inputs latches on outside
  | inr before ↦ filled_left m c n u before
]

pub cone_made : (m : Parts) (cuts : List Cut) (marks : List Bool) (c : Cone) → IsWellFormed m → AreCuts m cuts → IsClosed m cuts marks → ArePositions (is_marked_input marks m.inputs) (length m.inputs) c.inputs.items →
    ArePositions (is_marked_latch marks m.latches) (length m.latches) c.latches.items → AreOrdered m cuts marks c.cells.items → IsConeOf m c
cone_made m cuts marks c well are closed inputs latches cells =
    let used = holds_of_used (λ a. IsKnown m (variable a)) m well.used_defined in
    record {
      inputs = inputs.inside;
      inputs_once = inputs.once;
      latches = latches.inside;
      latches_once = latches.once;
      few = omega (arith, inputs.few, latches.few, cells.few, few_defined m well, well.limits.max_var);
      cells = λ k d k_in.
          let among = cells.among k d k_in in
          subst (λ (q : Cut). IsCutOf m (get_or c.cells.items k d).variable q) (sym among.1) (are.each (get_or c.cells.items k d).variable among.0);
      range = λ k d k_in.
          let among = cells.among k d k_in in
          (among.0, λ u leaf. are.range (get_or c.cells.items k d).variable u among.0 (subst (λ (q : Cut). IsLeaf q u) among.1 leaf));
      reads = λ n u n_in leaf.
          let among = cells.among n no_cell n_in in
          let on : IsMarked marks u = (closed.visited (cell_at c.cells.items n).variable among.2).leaves u (subst (λ (q : Cut). IsLeaf q u) among.1 leaf) in
          reads_before m cuts marks c n u inputs latches cells n_in leaf on;
      bad = λ k d k_in. in_cone m cuts marks c _ inputs latches cells (closed.bad k d k_in) (used.bad k d k_in);
      constraints = λ k d k_in. in_cone m cuts marks c _ inputs latches cells (closed.constraints k d k_in) (used.constraints k d k_in);
      nexts = λ k k_in.
          let p : ℕ = get_or c.latches.items k 0 in
          let l : Latch = latch_at m.latches p in
          let p_in : p < length m.latches = latches.inside k 0 k_in in
          let even = (latches_even m well p no_latch p_in).1 in
          let e : 2 * variable l.lit ≡ l.lit.0 = omega (arith, even) in
          let is : record { 0 = 2 * variable l.lit } ≡ l.lit = λ i. record { 0 = e i } in
          let on : IsMarked marks (variable (next_of m.latches l.lit)) = subst (λ (a : Lit). IsMarked marks (variable (next_of m.latches a))) is (closed.visited (variable l.lit) (latches.only k 0 k_in)).next in
          let known : IsKnown m (variable l.lit) = inr (Contains-append_left (map variable m.inputs ++ map held m.latches) (map left m.gates) (held l)
          (Contains-append_right (map variable m.inputs) (map held m.latches) (held l) (Contains-map held m.latches p no_latch p_in))) in
          in_cone m cuts marks c _ inputs latches cells on (next_known m m.latches l.lit used.next known even);
    }
