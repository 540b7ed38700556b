-- What the marks say when the search has ended.
use Rattle.std.proofs.Common.{◌≡◌, ℕ, ◌+◌, ◌<◌, ◌≢◌, ◌⊎◌, List, [], length, set, get_or, refl, inl, inr, arith, Contains, ◌∙◌, sym, ap, subst, get_or-set_same, get_or-set_other}
use Rattle.std.proofs.lemmas.Bool.{cases_eq}
use Rattle.std.proofs.lemmas.List.{length-map, get_or_default}
use Rattle.std.proofs.lemmas.List.Elements.{Contains-get_or}
use Rattle.graph.specs.declared.circuit.Gate.{Gate}
use Rattle.graph.specs.Circuits.{variable}
use Rattle.graph.specs.WellFormed.{IsOrder, Reads, gate_in}
use Rattle.graph.specs.Faults.{IsLeast, LeadsIntoCycle}
use Rattle.graph.specs.declared.ordering.Mark.{Mark}
use Rattle.graph.specs.declared.ordering.Mark.TheVariants.{Waiting, Open, Ordered, Stuck}
use Rattle.graph.specs.Search.{lefts, left_in, mark_of, Says, IsSearch, IsEnded}
use Rattle.graph.proofs.Cycles.{IsOnce, IsBeginning, left_at, chain_gate, ordered_no_cycle, whole_order}
use Rattle.graph.proofs.Searching.{beginning, mark_same, mark_other}

-- a gate is ordered or stuck
settled : (gates : List Gate) (marks : List Mark) (order : List ℕ) (v : ℕ) → IsEnded gates marks order → Contains (lefts gates) v → (m : Mark) → mark_of marks v ≡ m →
    Says gates order [] v m → ((k : ℕ) × (k < length order) × (left_in gates order k ≡ v)) ⊎ (mark_of marks v ≡ Stuck)
settled gates marks order v h gate Waiting is_m says = absurd (h.none_waiting v is_m)
settled gates marks order v h gate Open is_m says = absurd (let p = says.1 in omega arith)
settled gates marks order v h gate Ordered is_m says = inl (says gate)
settled gates marks order v h gate Stuck is_m says = inr is_m

-- with no gate stuck, each is in the order
pub order_found : (gates : List Gate) (marks : List Mark) (order : List ℕ) → IsOnce (lefts gates) → IsEnded gates marks order → ((v : ℕ) → mark_of marks v ≢ Stuck) → IsOrder gates order
order_found gates marks order once h none = whole_order gates order (beginning gates marks order [] once h.search) h.search.once (λ i i_in.
    let v : ℕ = get_or (lefts gates) i 0 in
    let gate : Contains (lefts gates) v = Contains-get_or (lefts gates) i 0 (omega (arith, length-map gates (λ g. variable g.lhs))) in
    elim (settled gates marks order v h gate (mark_of marks v) refl (h.search.say v)) [ inl found ↦ found | inr is_stuck ↦ absurd (none v is_stuck) ])

-- the first variable that is stuck is the smallest that leads into a cycle
pub cycle_found : (gates : List Gate) (marks : List Mark) (order : List ℕ) (v : ℕ) → IsOnce (lefts gates) → IsEnded gates marks order → mark_of marks v ≡ Stuck →
    ((u : ℕ) → u < v → mark_of marks u ≢ Stuck) → IsLeast (LeadsIntoCycle gates) v
cycle_found gates marks order v once h is_stuck before = (
  subst (Says gates order [] v) is_stuck (h.search.say v),
  λ u u_v cycle.
      let gate : Contains (lefts gates) u = chain_gate gates u cycle.0 cycle.1.0 cycle.1.1 in
      elim (settled gates marks order u h gate (mark_of marks u) refl (h.search.say u)) [
        | inl found ↦ ordered_no_cycle gates order found.0 u (beginning gates marks order [] once h.search) h.search.once found.1 found.2 cycle
        | inr also ↦ before u u_v also
      ],
)

-- an order leaves no cycle
pub order_no_cycle : (gates : List Gate) (order : List ℕ) → IsOnce (lefts gates) → IsOrder gates order → (v : ℕ) → LeadsIntoCycle gates v → ⊥
order_no_cycle gates order once h v cycle =
    let long = length-map gates (λ g. variable g.lhs) in
    let begun : IsBeginning gates order = record {
      lefts_once = once;
      in_range = h.in_range;
      before = λ k u d k_in reads gate.
          let i_in : gate.0 < length gates = (let p = gate.1 in omega (arith, p, long)) in
          let at_i = h.each gate.0 i_in in
          let is_i : get_or order at_i.0 0 ≡ gate.0 = get_or_default order at_i.0 0 gate.0 at_i.1 ∙ at_i.2 in
          let is_u : left_in gates order at_i.0 ≡ u = ap (λ q. get_or (lefts gates) q 0) is_i ∙ get_or_default (lefts gates) gate.0 0 u gate.1 ∙ gate.2 in
          let at_u : variable (gate_in gates order at_i.0 d).lhs ≡ u = sym (left_at gates (get_or order at_i.0 0) d (h.in_range at_i.0 0 at_i.1)) ∙ is_u in
          (at_i.0, h.after k at_i.0 d k_in at_i.1 (subst (Reads (gate_in gates order k d)) (sym at_u) reads), is_u);
    } in
    let gate : Contains (lefts gates) v = chain_gate gates v cycle.0 cycle.1.0 cycle.1.1 in
    let i_in : gate.0 < length gates = (let p = gate.1 in omega (arith, p, long)) in
    let at_i = h.each gate.0 i_in in
    let is_i : get_or order at_i.0 0 ≡ gate.0 = get_or_default order at_i.0 0 gate.0 at_i.1 ∙ at_i.2 in
    ordered_no_cycle gates order at_i.0 v begun h.once at_i.1 (ap (λ q. get_or (lefts gates) q 0) is_i ∙ get_or_default (lefts gates) gate.0 0 v gate.1 ∙ gate.2) cycle

-- the variables of the first n gates are waiting, and every other one is waiting or ordered
pub record IsFirst (gates : List Gate) (marks : List Mark) (n : ℕ) : Type 0 where
  pub each : (k : ℕ) → k < n → mark_of marks (get_or (lefts gates) k 0) ≡ Waiting
  pub kinds : (v : ℕ) → ((mark_of marks v ≡ Waiting) × Contains (lefts gates) v) ⊎ (mark_of marks v ≡ Ordered)

pub first_more : (gates : List Gate) (marks : List Mark) (n u : ℕ) → n < length gates → get_or (lefts gates) n 0 ≡ u → u < length marks → IsFirst gates marks n → IsFirst gates (set marks u Waiting) (n + 1)
first_more gates marks n u n_in is_u u_in h = record {
  each = λ k k_in. elim (cases_eq (get_or (lefts gates) k 0) u) [
    | inl same ↦ rw (same, mark_same marks u Waiting u_in) refl
    | inr apart ↦ mark_other marks (get_or (lefts gates) k 0) u Waiting apart ∙ h.each k (elim (cases_eq k n) [
      | inl last ↦ absurd (apart (ap (λ q. get_or (lefts gates) q 0) last ∙ is_u))
      | inr other ↦ omega arith
    ])
  ];
  kinds = λ v. elim (cases_eq v u) [
    | inl same ↦ inl (
      rw (same, mark_same marks u Waiting u_in) refl,
      subst (Contains (lefts gates)) (is_u ∙ sym same) (Contains-get_or (lefts gates) n 0 (omega (arith, length-map gates (λ g. variable g.lhs)))),
    )
    | inr apart ↦ rw (mark_other marks v u Waiting apart) (h.kinds v)
  ];
}

says_first : (gates : List Gate) (marks : List Mark) (n v : ℕ) → n ≡ length gates → IsFirst gates marks n → (m : Mark) → mark_of marks v ≡ m → Says gates [] [] v m
says_first gates marks n v all h Waiting is_m = elim (h.kinds v) [ inl gate ↦ gate.1 | inr off ↦ let no : ⊥ = cc (off, is_m) in absurd no ]
says_first gates marks n v all h Open is_m = elim (h.kinds v) [ inl gate ↦ let e = gate.0 in let no : ⊥ = cc (e, is_m) in absurd no | inr off ↦ let no : ⊥ = cc (off, is_m) in absurd no ]
says_first gates marks n v all h Ordered is_m = λ gate.
    let k_in : gate.0 < n = (let p = gate.1 in omega (arith, p, length-map gates (λ g. variable g.lhs))) in
    let is_v : get_or (lefts gates) gate.0 0 ≡ v = get_or_default (lefts gates) gate.0 0 v gate.1 ∙ gate.2 in
    let e : mark_of marks v ≡ Waiting = rw is_v at (h.each gate.0 k_in) in
    let no : ⊥ = cc (e, is_m) in absurd no
says_first gates marks n v all h Stuck is_m = elim (h.kinds v) [ inl gate ↦ let e = gate.0 in let no : ⊥ = cc (e, is_m) in absurd no | inr off ↦ let no : ⊥ = cc (off, is_m) in absurd no ]

pub first_search : (gates : List Gate) (marks : List Mark) (n : ℕ) → n ≡ length gates → IsFirst gates marks n → IsSearch gates marks [] []
first_search gates marks n all h = record {
  say = λ v. says_first gates marks n v all h (mark_of marks v) refl;
  opened = λ k k_in. absurd (omega arith);
  gates_on = λ k k_in. absurd (omega arith);
  linked = λ k k_in. absurd (omega arith);
  distinct = λ i k d i_k k_in. absurd (omega arith);
  in_range = λ k d k_in. absurd (omega arith);
  once = λ i k d i_k k_in. absurd (omega arith);
  ordered = λ k k_in. absurd (omega arith);
  before = λ k v d k_in reads. absurd (omega arith);
}

-- one more gate's place
pub places_more : (gates : List Gate) (places : List ℕ) (n u : ℕ) → IsOnce (lefts gates) → n < length gates → get_or (lefts gates) n 0 ≡ u → u < length places →
    ((i : ℕ) → i < n → get_or places (get_or (lefts gates) i 0) 0 ≡ i) → (i : ℕ) → i < n + 1 → get_or (set places u n) (get_or (lefts gates) i 0) 0 ≡ i
places_more gates places n u once n_in is_u u_in h i i_in = elim (cases_eq i n) [
  | inl same ↦ rw (same, is_u) (get_or-set_same places u n 0 u_in)
  | inr apart ↦
      let i_n : i < n = omega arith in
      let differ : get_or (lefts gates) i 0 ≢ u = λ e. once i n 0 i_n (omega (arith, length-map gates (λ g. variable g.lhs))) (e ∙ sym is_u) in
      get_or-set_other places u (get_or (lefts gates) i 0) n 0 differ ∙ h i i_n
]

-- when every gate has been visited, nothing waits
pub all_gone : (gates : List Gate) (marks : List Mark) (order stack : List ℕ) (n : ℕ) → IsSearch gates marks order stack → stack ≡ [] → n ≡ length gates →
    ((k : ℕ) → k < n → mark_of marks (get_or (lefts gates) k 0) ≢ Waiting) → IsEnded gates marks order
all_gone gates marks order stack n h empty all gone = record {
  search = subst (IsSearch gates marks order) empty h;
  none_waiting = λ v waiting.
      let gate : Contains (lefts gates) v = subst (Says gates order stack v) waiting (h.say v) in
      let is_v : get_or (lefts gates) gate.0 0 ≡ v = get_or_default (lefts gates) gate.0 0 v gate.1 ∙ gate.2 in
      gone gate.0 (let p = gate.1 in omega (arith, p, length-map gates (λ g. variable g.lhs))) (rw is_v waiting);
}
