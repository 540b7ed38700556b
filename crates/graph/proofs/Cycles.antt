-- Gates that stand in an order lead into no cycle.
use Rattle.std.proofs.Common.{◌≡◌, ℕ, ◌<◌, ◌≢◌, List, [], ◌∷◌, ◌++◌, length, get_or, inl, inr, arith, All, AllPairs, Contains, ◌∙◌, sym, ap, subst}
use Rattle.std.proofs.lemmas.Bool.{cases_order}
use Rattle.std.proofs.lemmas.List.{get_or-map, length-map, get_or_default}
use Rattle.std.proofs.lemmas.List.Elements.{Contains-get_or}
use Rattle.graph.specs.declared.circuit.Gate.{Gate}
use Rattle.graph.specs.Circuits.{variable}
use Rattle.graph.specs.WellFormed.{Reads, IsOrder, gate_in, Needs, IsChain}
use Rattle.graph.specs.Faults.{LeadsIntoCycle}
use Rattle.graph.specs.Search.{lefts, left_in, IsOrderedBefore}

abbrev pub IsOnce : List ℕ → Type 0
IsOnce vs = AllPairs (λ u v. u ≢ v) vs

-- in a list without repetitions a value has one place
pub one_place : (xs : List ℕ) (i k : ℕ) → IsOnce xs → i < length xs → k < length xs → get_or xs i 0 ≡ get_or xs k 0 → i ≡ k
one_place xs i k once i_in k_in same = elim (cases_order i k) [
  | inl equal ↦ equal
  | inr apart ↦ elim apart [ inl below ↦ absurd (once i k 0 below k_in same) | inr above ↦ absurd (once k i 0 above i_in (sym same)) ]
]

pub left_at : (gates : List Gate) (i : ℕ) (d : Gate) → i < length gates → get_or (lefts gates) i 0 ≡ variable (get_or gates i d).lhs
left_at gates i d i_in = get_or-map (λ g. variable g.lhs) gates i d 0 i_in

-- what needs something is a gate's variable
pub needs_gate : (gates : List Gate) (u v : ℕ) → Needs gates u v → Contains (lefts gates) u
needs_gate gates u v (i, g, i_in, is_g, (is_u, reads)) =
    subst (Contains (lefts gates)) (left_at gates i g i_in ∙ ap (λ q. variable q.lhs) is_g ∙ is_u) (Contains-get_or (lefts gates) i 0 (omega (arith, length-map gates (λ q. variable q.lhs))))

pub chain_gate : (gates : List Gate) (u w : ℕ) (vs : List ℕ) → IsChain gates (u ∷ vs ++ w ∷ []) → Contains (lefts gates) u
chain_gate gates u w [] (needs, rest) = needs_gate gates u w needs
chain_gate gates u w (x ∷ xs) (needs, rest) = needs_gate gates u x needs

-- the beginning of an order: each place is a gate's, and what a gate reads stands before it
pub record IsBeginning (gates : List Gate) (order : List ℕ) : Type 0 where
  pub lefts_once : IsOnce (lefts gates)
  pub in_range : All (λ i. i < length gates) order
  pub before : (k : ℕ) (v : ℕ) (d : Gate) → k < length order → Reads (get_or gates (get_or order k 0) d) v → IsOrderedBefore gates order k v

needed_before : (gates : List Gate) (order : List ℕ) (k u v : ℕ) → IsBeginning gates order → k < length order → left_in gates order k ≡ u → Needs gates u v → IsOrderedBefore gates order k v
needed_before gates order k u v h k_in is_u (i, g, i_in, is_g, (at_u, reads)) =
    let place : ℕ = get_or order k 0 in
    let place_in : place < length gates = h.in_range k 0 k_in in
    let long = length-map gates (λ q. variable q.lhs) in
    let same : place ≡ i = one_place (lefts gates) place i h.lefts_once (omega (arith, long)) (omega (arith, long))
    (is_u ∙ sym at_u ∙ ap (λ q. variable q.lhs) (sym is_g) ∙ sym (left_at gates i g i_in)) in
    h.before k v g k_in (subst (λ q. Reads q v) (sym is_g ∙ ap (λ q. get_or gates q g) (sym same)) reads)

-- a chain leads from the order to its earlier places
pub leads_before : (gates : List Gate) (order : List ℕ) (k u w : ℕ) (vs : List ℕ) → IsBeginning gates order → k < length order → left_in gates order k ≡ u →
    IsChain gates (u ∷ vs ++ w ∷ []) → IsOrderedBefore gates order k w
leads_before gates order k u w [] h k_in is_u (needs, rest) gate = needed_before gates order k u w h k_in is_u needs gate
leads_before gates order k u w (x ∷ xs) h k_in is_u (needs, rest) gate =
    let first = needed_before gates order k u x h k_in is_u needs (chain_gate gates x w xs rest) in
    let k_first : first.0 < k = first.1 in
    let last = leads_before gates order first.0 x w xs h (omega arith) first.2 rest gate in
    let below : last.0 < first.0 = last.1 in
    (last.0, omega arith, last.2)

pub ordered_no_cycle : (gates : List Gate) (order : List ℕ) (k v : ℕ) → IsBeginning gates order → IsOnce order → k < length order → left_in gates order k ≡ v → LeadsIntoCycle gates v → ⊥
ordered_no_cycle gates order k v h once k_in is_v (u, to_u, round) =
    let gate : Contains (lefts gates) u = chain_gate gates u u round.0 round.1 in
    let first = leads_before gates order k v u to_u.0 h k_in is_v to_u.1 gate in
    let first_in : first.0 < k = first.1 in
    let again = leads_before gates order first.0 u u round.0 h (omega arith) first.2 round.1 gate in
    let below : again.0 < first.0 = again.1 in
    let long = length-map gates (λ q. variable q.lhs) in
    let a_in : get_or order again.0 0 < length gates = h.in_range again.0 0 (omega arith) in
    let f_in : get_or order first.0 0 < length gates = h.in_range first.0 0 (omega arith) in
    let same : get_or order again.0 0 ≡ get_or order first.0 0 =
    one_place (lefts gates) (get_or order again.0 0) (get_or order first.0 0) h.lefts_once (omega (arith, long)) (omega (arith, long)) (again.2 ∙ sym first.2) in
    once again.0 first.0 0 below (omega arith) same

-- a beginning with each gate in it is an order
pub whole_order : (gates : List Gate) (order : List ℕ) → IsBeginning gates order → IsOnce order → ((i : ℕ) → i < length gates → (k : ℕ) × (k < length order) × (left_in gates order k ≡ get_or (lefts gates) i 0)) →
    IsOrder gates order
whole_order gates order h once all =
    let long = length-map gates (λ q. variable q.lhs) in
    let place_in : (k : ℕ) → k < length order → get_or order k 0 < length gates = λ k k_in. h.in_range k 0 k_in in
    record {
      in_range = h.in_range;
      once = once;
      each = λ i i_in. let at_i = all i i_in in
          let k_in : at_i.0 < length order = at_i.1 in
          let p_in = place_in at_i.0 k_in in
          let same : get_or order at_i.0 0 ≡ i = one_place (lefts gates) (get_or order at_i.0 0) i h.lefts_once (omega (arith, long, p_in)) (omega (arith, long)) at_i.2 in
          (at_i.0, k_in, get_or_default order at_i.0 i 0 k_in ∙ same);
      after = λ j k d j_in k_in reads.
          let p_in = place_in k k_in in
          let v : ℕ = variable (gate_in gates order k d).lhs in
          let is_v : get_or (lefts gates) (get_or order k 0) 0 ≡ v = left_at gates (get_or order k 0) d p_in in
          let gate : Contains (lefts gates) v = subst (Contains (lefts gates)) is_v (Contains-get_or (lefts gates) (get_or order k 0) 0 (omega (arith, long, p_in))) in
          let found = h.before j v d j_in reads gate in
          let found_in : found.0 < j = found.1 in
          let f_in = place_in found.0 (omega arith) in
          let same : get_or order found.0 0 ≡ get_or order k 0 =
          one_place (lefts gates) (get_or order found.0 0) (get_or order k 0) h.lefts_once (omega (arith, long, f_in)) (omega (arith, long, p_in)) (found.2 ∙ sym is_v) in
          let place : found.0 ≡ k = one_place order found.0 k once (omega arith) k_in same in
          omega arith;
    }

abbrev pub blank : Gate
blank = record { lhs = record { 0 = 0 }; rhs0 = record { 0 = 0 }; rhs1 = record { 0 = 0 } }
