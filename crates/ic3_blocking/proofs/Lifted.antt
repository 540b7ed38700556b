-- Cubes by the latches of a justification (Een, Mishchenko, Brayton 2011).
use Rattle.std.proofs.Common.{◌≡◌, ℕ, ◌+◌, ◌<◌, Bool, true, false, not, List, [], ◌∷◌, ◌++◌, length, map, get_or, arith, All, Contains, refl, inl, inr, ◌∙◌, sym, ap, subst}
use Rattle.std.proofs.lemmas.Bool.{cases_eq, false≢true}
use Rattle.std.proofs.lemmas.List.{get_or-map, get_or_default, length-map}
use Rattle.std.proofs.lemmas.List.Elements.{All-contains, Contains-push, Contains-append_left, Contains-append_right, All-append, All-map}
use Rattle.graph.specs.declared.circuit.Lit.{Lit}
use Rattle.graph.specs.declared.circuit.Gate.{Gate}
use Rattle.graph.specs.declared.circuit.Latch.{Latch}
use Rattle.graph.specs.declared.parts.Parts.{Parts}
use Rattle.graph.specs.Circuits.{Valuation, variable, place, value_of, defined, state_of, inputs_of, Fires, next_state}
use Rattle.graph.specs.WellFormed.{IsModel, IsWellFormed}
use Rattle.graph.proofs.Evaluation.{held, Contains-map, inputs_even, latches_even, value_of-same, All-left, All-right}
use Rattle.graph.proofs.Gates.{left, value_of-even}
use Rattle.graph.proofs.Tabled.{holds_of_used}
use Rattle.cnf.proofs.Frames.{gates_in_range}
use Rattle.cones.specs.declared.reach.Reach.TheVariants.{Justification}
use Rattle.cones.specs.Marks.{IsMarked, IsKnown, AreSameAt, AgreesOn}
use Rattle.cones.specs.Reach.{IsExtended, IsInside, IsDomain}
use Rattle.cones.proofs.Lifted.{agrees_on, lifted_law}
use Rattle.cones.proofs.Assigned.{input_defined, latch_defined}
use Rattle.states.specs.declared.state_lit.StateLit.{StateLit}
use Rattle.ic3_step.specs.declared.assignment.Assignment.{Assignment}
use Rattle.states.specs.States.{IsSet, Denies, latch_at}
use Rattle.ic3_step.specs.States.{AreValues, IsAt, AllSet}
use Rattle.ic3_step.specs.Steps.{denial}
use Rattle.ic3_step.proofs.Denied.{denial_set, unset_by_denial}
use Rattle.ic3_blocking.specs.Cubes.{Justifies, ArePredecessors, HasMarked}

known_used : (m : Parts) → IsWellFormed m → (g : ℕ) (d : Gate) → g < length m.gates → IsKnown m (variable (get_or m.gates g d).rhs0) × IsKnown m (variable (get_or m.gates g d).rhs1)
known_used m well k d k_in =
    let uses = holds_of_used (λ a. IsKnown m (variable a)) m well.used_defined in
    (uses.left k d k_in, uses.right k d k_in)

left_defined : (m : Parts) (k : ℕ) (d : Gate) → k < length m.gates → Contains (defined m) (variable (get_or m.gates k d).lhs)
left_defined m k d k_in = Contains-append_right (map variable m.inputs ++ map held m.latches) (map left m.gates) (left (get_or m.gates k d)) (Contains-map left m.gates k d k_in)

-- in the cone of a time's values, these are the valuation's
same_inside : (m : Parts) (lits : List Lit) (w : Valuation) (b : List Bool) (values : AreValues m lits w b) (v : ℕ) → IsKnown m v → IsMarked values.cone v → place b v ≡ place w v
same_inside m lits w b values v known on = elim known [ inl constant ↦ values.same v (inl constant) | inr found ↦ values.same v (inr (found, on)) ]

-- so they fire the cone's gates
values_fire : (m : Parts) (lits : List Lit) (w : Valuation) (b : List Bool) → IsWellFormed m → (values : AreValues m lits w b) → All (Fires w) m.gates →
    All (λ g. IsMarked values.cone (left g) → Fires b g) m.gates
values_fire m lits w b well values fires k d k_in on =
    let g : Gate = get_or m.gates k d in
    let known = known_used m well k d k_in in
    let both = values.closed k d k_in on in
    let here_left : value_of b g.lhs ≡ value_of w g.lhs = value_of-same b w g.lhs (same_inside m lits w b values (variable g.lhs) (inr (left_defined m k d k_in)) on) in
    let first : value_of b g.rhs0 ≡ value_of w g.rhs0 = value_of-same b w g.rhs0 (same_inside m lits w b values (variable g.rhs0) known.0 both.0) in
    let second : value_of b g.rhs1 ≡ value_of w g.rhs1 = value_of-same b w g.rhs1 (same_inside m lits w b values (variable g.rhs1) known.1 both.1) in
    let here : Fires w g = fires k d k_in in
    rw (here_left, first, second) here

-- and serve to say there what gives a gate its value
pub values_serve : (m : Parts) (lits : List Lit) (w : Valuation) (b : List Bool) → IsWellFormed m → (values : AreValues m lits w b) → All (Fires w) m.gates → IsDomain m Justification b values.cone
values_serve m lits w b well values fires = record {
  cone = values.closed;
  serves = λ k d k_in on.
      let range = gates_in_range m well k d k_in in
      let long = values.places in
      (omega (arith, range.rhs0, long), omega (arith, range.rhs1, long), values_fire m lits w b well values fires k d k_in on);
}

-- no mark is set
pub none_inside : (t cone : List Bool) → ((v : ℕ) → place t v ≡ false) → IsInside t cone
none_inside t cone clear v on = absurd (false≢true (sym (clear v) ∙ on))

-- the targets and the constraints: the circuit knows them, and they are true in the time's values
pub wanted_known : (m : Parts) (targets : List Lit) → IsWellFormed m → All (λ a. IsKnown m (variable a)) targets → All (λ a. IsKnown m (variable a)) (targets ++ m.constraints)
wanted_known m targets well known =
    All-append (λ (a : Lit). IsKnown m (variable a)) targets m.constraints known (holds_of_used (λ a. IsKnown m (variable a)) m well.used_defined).constraints

wanted_true : (m : Parts) (targets : List Lit) (w : Valuation) (b : List Bool) (values : AreValues m targets w b) (lits : List Lit) → All (λ a. IsMarked values.cone (variable a)) lits →
    All (λ a. IsKnown m (variable a)) lits → All (λ a. value_of w a ≡ true) lits → All (λ a. value_of b a ≡ true) lits
wanted_true m targets w b values lits asked known true_in k d k_in =
    let a : Lit = get_or lits k d in
    value_of-same b w a (same_inside m targets w b values (variable a) (known k d k_in) (asked k d k_in)) ∙ true_in k d k_in

same_by_denial : (x y : Bool) → (x ≡ not y → ⊥) → x ≡ y
same_by_denial true true h = refl
same_by_denial true false h = absurd (h refl)
same_by_denial false true h = absurd (h refl)
same_by_denial false false h = refl

-- inputs that are the same in the lists are the same in the valuations
same_input : (m : Parts) (w x : Valuation) (k : ℕ) (d : Lit) → IsWellFormed m → k < length m.inputs → inputs_of m w ≡ inputs_of m x →
    place w (variable (get_or m.inputs k d)) ≡ place x (variable (get_or m.inputs k d))
same_input m w x k d well k_in same =
    let a : Lit = get_or m.inputs k d in
    let even = inputs_even m well k d k_in in
    sym (value_of-even w a even.1) ∙ sym (get_or-map (value_of w) m.inputs k d false k_in) ∙ ap (λ (q : List Bool). get_or q k false) same
    ∙ get_or-map (value_of x) m.inputs k d false k_in ∙ value_of-even x a even.1

-- so is a latch
same_latch : (m : Parts) (w x : Valuation) (k : ℕ) (d : Latch) → IsWellFormed m → k < length m.latches → latch_at (state_of m w) k ≡ latch_at (state_of m x) k →
    place w (held (get_or m.latches k d)) ≡ place x (held (get_or m.latches k d))
same_latch m w x k d well k_in same =
    let a : Lit = (get_or m.latches k d).lit in
    let even = latches_even m well k d k_in in
    sym (value_of-even w a even.1) ∙ sym (get_or-map (λ (l : Latch). value_of w l.lit) m.latches k d false k_in) ∙ same
    ∙ get_or-map (λ (l : Latch). value_of x l.lit) m.latches k d false k_in ∙ value_of-even x a even.1

-- the states of the cube, with the time's inputs, have the time's values at the leaves of the justification
leaves_same : (m : Parts) (targets : List Lit) (w x : Valuation) (t : Assignment) (u : List Bool) (c : List StateLit) → IsWellFormed m → (at : IsAt m targets w t) → IsInside u at.values.cone →
    HasMarked m.latches t.state u c → Denies (state_of m x) c → inputs_of m x ≡ t.inputs → AreSameAt m (IsMarked u) t.values x
leaves_same m targets w x t u c well at inside has denies inputs = record {
  inputs = λ k d k_in on.
      let v : ℕ = variable (get_or m.inputs k d) in
      at.values.same v (inr (input_defined m k d k_in, inside v on)) ∙ same_input m w x k d well k_in (at.inputs ∙ sym inputs);
  latches = λ k d k_in on.
      let lit : StateLit = record { latch = k; value = not (latch_at t.state k) } in
      let unset : latch_at (state_of m x) k ≡ not (latch_at t.state k) → ⊥ = All-contains (λ (a : StateLit). IsSet (state_of m x) a → ⊥) c lit denies (has k d k_in on) in
      let same : latch_at (state_of m x) k ≡ latch_at t.state k = same_by_denial (latch_at (state_of m x) k) (latch_at t.state k) unset in
      at.values.same (held (get_or m.latches k d)) (inr (latch_defined m k d k_in, inside (held (get_or m.latches k d)) on))
      ∙ same_latch m w x k d well k_in (ap (λ (s : List Bool). latch_at s k) at.state ∙ sym same);
}

-- the cube of the marked latches justifies what is wanted
pub cube_justifies : (m : Parts) (order : List ℕ) (w : Valuation) (t : Assignment) (targets wanted : List Lit) (before u : List Bool) (list : List ℕ) (c : List StateLit) → IsModel m order → IsAt m targets w t →
    AllSet w targets → All (λ a. IsKnown m (variable a)) targets → wanted ≡ targets ++ m.constraints → ((v : ℕ) → place before v ≡ false) →
    IsExtended m Justification t.values wanted before u list → HasMarked m.latches t.state u c → Justifies m c t.inputs targets
cube_justifies m order w t targets wanted before u list c model at set known are clear ext has x agrees denies inputs =
    let well = model.well_formed in
    let values : AreValues m targets w t.values = at.values in
    let asked : All (λ (a : Lit). IsMarked values.cone (variable a)) wanted = subst (All (λ (a : Lit). IsMarked values.cone (variable a))) (sym are) values.asked in
    let inside : IsInside u values.cone = ext.inside values.cone values.closed (none_inside before values.cone clear) asked in
    let on_t : AgreesOn m (IsMarked u) t.values = record {
      constant = values.same 0 (inl refl) ∙ at.is_time.agrees.valuation.constant;
      gates = λ k d k_in on. values_fire m targets w t.values well values at.is_time.agrees.gates k d k_in (inside (variable (get_or m.gates k d).lhs) on);
    } in
    let all_known : All (λ (a : Lit). IsKnown m (variable a)) wanted = subst (All (λ (a : Lit). IsKnown m (variable a))) (sym are) (wanted_known m targets well known) in
    let holds : All (λ (a : Lit). value_of w a ≡ true) wanted =
    subst (All (λ (a : Lit). value_of w a ≡ true)) (sym are) (All-append (λ (a : Lit). value_of w a ≡ true) targets m.constraints set at.is_time.keeps) in
    let after : All (λ (a : Lit). value_of x a ≡ true) wanted =
    lifted_law m order model u t.values x wanted ext.closed on_t (agrees_on m (IsMarked u) x agrees) (leaves_same m targets w x t u c well at inside has denies inputs)
    (λ k d k_in. (all_known k d k_in, ext.marked k d k_in)) (wanted_true m targets w t.values values wanted asked all_known holds) in
    let split : All (λ (a : Lit). value_of x a ≡ true) (targets ++ m.constraints) = subst (All (λ (a : Lit). value_of x a ≡ true)) are after in
    (All-right (λ (a : Lit). value_of x a ≡ true) targets m.constraints split, All-left (λ (a : Lit). value_of x a ≡ true) targets m.constraints split)

-- the clause has the marked latches as far as some latch
abbrev pub HasBelow : List Latch → List Bool → List Bool → ℕ → List StateLit → Type 0
HasBelow latches state marks n c = (i : ℕ) (d : Latch) → i < n → i < length latches → IsMarked marks (variable (get_or latches i d).lit) →
    Contains c (record { latch = i; value = not (latch_at state i) })

-- one marked latch more
pub has_more : (latches : List Latch) (state marks : List Bool) (n : ℕ) (c more : List StateLit) → more ≡ c ++ record { latch = n; value = not (latch_at state n) } ∷ [] →
    HasBelow latches state marks n c → HasBelow latches state marks (n + 1) more
has_more latches state marks n c more are has i d below inside on =
    let a : ℕ → StateLit = λ k. record { latch = k; value = not (latch_at state k) } in
    subst (λ (q : List StateLit). Contains q (a i)) (sym are) (elim (cases_eq i n) [
      | inl same ↦ subst (λ k. Contains (c ++ a n ∷ []) (a k)) (sym same) (Contains-push c (a n))
      | inr apart ↦ Contains-append_left c (a n ∷ []) (a i) (has i d (omega (arith, below, apart)) inside on)
    ])

-- a latch that is not marked
pub has_past : (latches : List Latch) (state marks : List Bool) (n : ℕ) (c : List StateLit) (e : Latch) → n < length latches → (IsMarked marks (variable (get_or latches n e).lit) → ⊥) →
    HasBelow latches state marks n c → HasBelow latches state marks (n + 1) c
has_past latches state marks n c e n_in off has i d below inside on = elim (cases_eq i n) [
  | inl same ↦ absurd (off (subst (λ (l : Latch). IsMarked marks (variable l.lit)) (ap (λ k. get_or latches k d) same ∙ get_or_default latches n d e n_in) on))
  | inr apart ↦ has i d (omega (arith, below, apart)) inside on
]

-- a clause that is denied after the step: the denials of its literals are true
pub denials_set : (m : Parts) (w : Valuation) (clause : List StateLit) → All (λ a. a.latch < length m.latches) clause → Denies (next_state m w) clause → AllSet w (map (denial m.latches) clause)
denials_set m w clause inside denies = All-map (λ (a : Lit). value_of w a ≡ true) (denial m.latches) clause (λ k d k_in. denial_set m w (get_or clause k d) (inside k d k_in) (denies k d k_in))

-- and where they are true, each state of the cube is a predecessor
pub predecessors_by : (m : Parts) (c : List StateLit) (inputs : List Bool) (clause : List StateLit) (lits : List Lit) → All (λ a. a.latch < length m.latches) clause → lits ≡ map (denial m.latches) clause →
    Justifies m c inputs lits → ArePredecessors m c inputs clause
predecessors_by m c inputs clause lits inside are justifies x agrees denies same =
    let h = justifies x agrees denies same in (
      h.0,
      λ k d k_in. unset_by_denial m x (get_or clause k d) (inside k d k_in)
          (sym (ap (value_of x) (get_or-map (denial m.latches) clause k d (record { 0 = 0 }) k_in))
          ∙ subst (AllSet x) are h.1 k (record { 0 = 0 }) (omega (arith, length-map clause (denial m.latches)))),
    )
