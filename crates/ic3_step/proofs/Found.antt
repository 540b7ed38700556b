-- What satisfies a loaded solver's clauses is a time.
use Rattle.std.proofs.Common.{◌≡◌, ℕ, ◌+◌, ◌%◌, ◌<◌, ◌≤◌, inl, inr, arith, length, Bool, true, false, not, List, [], ◌∷◌, ◌++◌, map, get_or, All, Contains, ℤ, refl, sym, ◌∙◌, ap, subst}
use Rattle.std.proofs.lemmas.List.Elements.{All-head, All-tail, Contains-append_left, Contains-append_right}
use Rattle.base.specs.Budget.{Steps}
use Rattle.graph.specs.declared.circuit.Lit.{Lit}
use Rattle.graph.specs.declared.circuit.Latch.{Latch}
use Rattle.graph.specs.declared.parts.Parts.{Parts}
use Rattle.graph.specs.Circuits.{variable, place, value_of, defined, state_of}
use Rattle.graph.specs.WellFormed.{IsWellFormed, IsModel as IsCircuit}
use Rattle.graph.proofs.Evaluation.{held, All-left, All-right, All-unmap, Contains-map, latches_even}
use Rattle.graph.proofs.Gates.{left, value_of-even}
use Rattle.lrat.specs.Literals.{is_true}
use Rattle.cnf.specs.Clauses.{literal}
use Rattle.cnf.specs.Meaning.{AreSatisfied}
use Rattle.cnf.proofs.Formed.{IsKnown}
use Rattle.cones.specs.Marks.{IsMarked, IsCone, AreSameAt}
use Rattle.cones.specs.Partial.{HasGates, IsCompleted}
use Rattle.cones.proofs.Assigned.{answer_law, model_law, evaluated_alike}
use Rattle.cones.proofs.Lifted.{same_at_cone, agrees_on}
use Rattle.solver.specs.Answers.{values}
use Rattle.ic3_step.specs.declared.reply.Reply.TheVariants.{Found}
use Rattle.ic3_step.specs.States.{Guarded}
use Rattle.ic3_step.specs.Queries.{IsPartFor}
use Rattle.solver.specs.declared.part.Part.{Part}
use Rattle.solver.specs.Parts.{IsPartModel}
use Rattle.ic3_step.proofs.Parted.{part_clauses, part_satisfied, part_gates, part_constraints}
use Rattle.ic3_step.specs.Replies.{IsReply}
use Rattle.ic3_step.specs.Contents.{guard_literal, latch_literal}
use Rattle.ic3_step.specs.Readings.{assumptions_of, value_at, time_at}
use Rattle.states.proofs.Valued.{valuation_of, valuation_is, place_defined, literal_valued, denial_valued}
use Rattle.ic3_step.proofs.Latched.{latch_literal_known, value_latch, HasState}

-- the literals that are read off
value_same : (m : Parts) (b : List Bool) (a : Lit) → IsWellFormed m → a.0 % 2 ≡ 0 → Contains (defined m) (variable a) → value_of (valuation_of m (values b)) a ≡ value_at b a
value_same m b a well even found = value_of-even (valuation_of m (values b)) a even ∙ place_defined m (values b) (variable a) well found

maps_same : {X : Type 0} (f g : X → Bool) (xs : List X) → All (λ x. f x ≡ g x) xs → map f xs ≡ map g xs
maps_same f g [] all = refl
maps_same {X} f g (x ∷ xs) all =
    let head : f x ≡ g x = All-head (λ (y : X). f y ≡ g y) x xs all in
    let rest : map f xs ≡ map g xs = maps_same f g xs (All-tail (λ (y : X). f y ≡ g y) x xs all) in
    rw (head, rest) refl

state_same : (m : Parts) (b : List Bool) → IsWellFormed m → state_of m (valuation_of m (values b)) ≡ (time_at m b).state
state_same m b well = maps_same (λ (l : Latch). value_of (valuation_of m (values b)) l.lit) (λ (l : Latch). value_at b l.lit) m.latches
    (λ k d k_in. value_same m b (get_or m.latches k d).lit well ((latches_even m well k d k_in).1)
    (Contains-append_left (map variable m.inputs ++ map held m.latches) (map left m.gates) (held (get_or m.latches k d))
    (Contains-append_right (map variable m.inputs) (map held m.latches) (held (get_or m.latches k d)) (Contains-map held m.latches k d k_in))))

first_false : (b : List Bool) → get_or b 0 true ≡ false → get_or b 0 false ≡ false
first_false [] e = refl
first_false (x ∷ b) e = e

-- the values are those of the completed valuation, in the cone
cone_values : (m : Parts) (order : List ℕ) (t : List Bool) (b : List Bool) (cs : List (List ℤ)) (w : List Bool) → IsCircuit m order → IsCone m (IsMarked t) → HasGates m (IsMarked t) cs →
    AreSatisfied (values b) cs → get_or b 0 false ≡ false → m.max_var < length b → IsCompleted m (IsMarked t) (values b) w → (v : ℕ) → Contains (defined m) v → IsMarked t v → place b v ≡ place w v
cone_values m order t b cs w model cone has sat none long done v found on =
    let alike = evaluated_alike m (IsMarked t) (values b) w model.well_formed done.state done.inputs in
    let same : AreSameAt m (IsMarked t) b w = record { inputs = alike.inputs; latches = alike.latches } in
    same_at_cone m order (IsMarked t) b w model cone ((model_law m model.well_formed t b cs cone has sat none long).1) (agrees_on m (IsMarked t) w done.agrees) same v (inr found) on

-- the assignment has the state of its valuation
has_state : (m : Parts) (v : ℕ → Bool) → IsWellFormed m → v (0 + m.max_var + 1) ≡ true → HasState m v (state_of m (valuation_of m v))
has_state m v well on =
    let constant = (valuation_is m v well).constant in
    record {
      on = λ i. literal_valued m v (latch_literal m i) well on (latch_literal_known m i) ∙ value_latch m (valuation_of m v) i constant;
      off = λ i. denial_valued m v (latch_literal m i) well on (latch_literal_known m i) ∙ ap not (value_latch m (valuation_of m v) i constant);
    }

-- a model of a part and the assumptions is a time that was asked for
pub found : (m : Parts) (order : List ℕ) (n : ℕ) (gs : List Guarded) (part : Part) (guards : List ℕ) (lits : List Lit) (b : List Bool) (after : Steps) → IsCircuit m order →
    m.max_var + 1 ≤ n → IsPartFor m lits part → All (IsKnown m) lits → IsPartModel n part (assumptions_of m guards lits) b →
    IsReply m gs guards lits after (Found (time_at m b))
found m order n gs part guards lits b after circuit fits own known model =
    let well = circuit.well_formed in
    let v : ℕ → Bool = values b in
    let marks : List Bool = own.cone in
    let cs : List (List ℤ) = part_clauses m own.listed in
    let P : Lit → Type 0 = λ a. IsMarked marks (variable a) in
    let marked : All P lits = All-left P lits m.constraints own.asked in
    let sat : AreSatisfied v cs = part_satisfied m n lits part (assumptions_of m guards lits) b own model in
    let has : HasGates m (IsMarked marks) cs = part_gates m lits part own in
    let first : List ℤ = map (guard_literal m) guards in
    let last : List ℤ = map (literal m.max_var 0) lits in
    let set : All (λ (a : Lit). is_true v (literal m.max_var 0 a) ≡ true) lits = All-unmap (λ l. is_true v l ≡ true) (literal m.max_var 0) lits (All-right (λ l. is_true v l ≡ true) first last model.assumed) in
    let h = answer_law m order circuit marks v cs lits own.closed has (part_constraints m lits part own) sat (λ k d k_in. (known k d k_in, marked k d k_in)) set in
    let w : List Bool = h.0 in
    let done : IsCompleted m (IsMarked marks) v w = h.1 in
    let none : get_or b 0 false ≡ false = first_false b model.none in
    let long : m.max_var < length b = (let places : length b ≡ n + 1 = model.places in omega (arith, places, fits)) in (
      w,
      record {
        is_time = record { agrees = done.agrees; keeps = done.keeps };
        state = done.state;
        inputs = done.inputs;
        values = record {
          cone = marks;
          closed = own.closed;
          asked = own.asked;
          places = long;
          same = λ k seen. elim seen [
            | inl constant ↦ subst (λ i. place b i ≡ place w i) (sym constant) (none ∙ sym done.agrees.valuation.constant)
            | inr inside ↦ cone_values m order marks b cs w circuit own.closed has sat none long done k inside.0 inside.1
          ];
        };
      },
      h.2,
    )
