use Rattle.std.proofs.Common.{◌≡◌, ◌≤◌, ◌+◌, ◌*◌, ◌%◌, ◌++◌, ◌∙◌, ◌≢◌, ℕ, List, AllPairs, Contains, ap, get_or, map, subst, sym, arith, All}
use Rattle.std.proofs.lemmas.Simd.{map-map}
use Rattle.std.proofs.lemmas.List.Elements.{Contains-append_left, Contains-append_right}
use Rattle.graph.specs.declared.circuit.Latch.{Latch}
use Rattle.graph.specs.Circuits.{variable}
use Rattle.graph.proofs.Gates.{left}
use Rattle.graph.proofs.Evaluation.{Contains-map, held, once-across, once-left, inputs_even, lefts_even, lefts_in_range, once-right, rights0, rights1}
use Rattle.wave_signals.proofs.BitLaws.{inputs_in_range, latch_literals_in_range}
use Rattle.wave_signals.proofs.OpenFillLaws.{open_kept_apart}
use Rattle.wave_signals.proofs.OpenLaws.{are_given, stand_open, states_given}
use Rattle.wave_signals.proofs.open_values.evaluate.Goals as goal

pub fill-requires-clause-in_range : goal.fill-requires-clause-in_range
fill-requires-clause-in_range c =
    rw c.inputs.ensures (λ k d k_in.
    let p = inputs_in_range c.args.circuit.now c.well_formed-2.ensures k d k_in in
    omega (arith, p, c.clear.ensures.places, c.fill_constant.ensures.places, c.requires.places))

pub fill-requires-2-clause-in_range : goal.fill-requires-2-clause-in_range
fill-requires-2-clause-in_range c =
    rw c.requires.latches (λ k d k_in.
    let p = latch_literals_in_range c.args.circuit.now c.well_formed-2.ensures k d k_in in
    omega (arith, p, c.clear.ensures.places, c.fill_constant.ensures.places, c.fill.ensures.places, c.requires.places))

pub fill_gates-requires-clause-in_range : goal.fill_gates-requires-clause-in_range
fill_gates-requires-clause-in_range c =
    let m = c.args.circuit.now in
    let well = c.well_formed-2.ensures in
    rw c.gates.ensures (λ k d k_in.
    let p = lefts_in_range m well k d k_in in
    let q = rights0 (λ a. a.0 ≤ 2 * m.max_var + 1) m well.used_in_range k d k_in in
    let r = rights1 (λ a. a.0 ≤ 2 * m.max_var + 1) m well.used_in_range k d k_in in (
      omega (arith, p, c.clear.ensures.places, c.fill_constant.ensures.places, c.fill.ensures.places, c.fill-2.ensures.places, c.requires.places),
      omega (arith, q, c.clear.ensures.places, c.fill_constant.ensures.places, c.fill.ensures.places, c.fill-2.ensures.places, c.requires.places),
      omega (arith, r, c.clear.ensures.places, c.fill_constant.ensures.places, c.fill.ensures.places, c.fill-2.ensures.places, c.requires.places),
    ))

pub fill_gates-requires-clause-even : goal.fill_gates-requires-clause-even
fill_gates-requires-clause-even c =
    rw c.gates.ensures (λ k d k_in. let p = lefts_even c.args.circuit.now c.well_formed-2.ensures k d k_in in p.1)

pub fill-requires-clause-once : goal.fill-requires-clause-once
fill-requires-clause-once c =
    let m = c.args.circuit.now in
    rw c.inputs.ensures (once-left (map variable m.inputs) (map held m.latches) (once-left (map variable m.inputs ++ map held m.latches) (map left m.gates) c.well_formed-2.ensures.defined_once))

pub fill-requires-2-clause-once : goal.fill-requires-2-clause-once
fill-requires-2-clause-once c =
    let m = c.args.circuit.now in
    let same : map variable c.args.latches.now ≡ map held c.args.circuit.now.latches = ap (map variable) c.requires.latches ∙ map-map variable (λ (l : Latch). l.lit) m.latches in
    subst (λ (vs : List ℕ). AllPairs (λ u v. u ≢ v) vs) (sym same) (once-right (map variable m.inputs) (map held m.latches) (once-left (map variable m.inputs ++ map held m.latches) (map left m.gates) c.well_formed-2.ensures.defined_once))

pub returns-clause-state : goal.returns-clause-state
returns-clause-state c = λ k d k_in.
    let m = c.args.circuit.now in
    let v = variable (get_or c.args.latches.now k d) in
    let same : map variable c.args.latches.now ≡ map held c.args.circuit.now.latches = ap (map variable) c.requires.latches ∙ map-map variable (λ (l : Latch). l.lit) m.latches in
    let here : Contains (map held m.latches) v = subst (λ (vs : List ℕ). Contains vs v) same (Contains-map variable c.args.latches.now k d k_in) in
    let once = c.well_formed-2.ensures.defined_once in
    open_kept_apart (map left m.gates) c.fill-2.new.out c.fill_gates.new.out v (rw c.gates.ensures at (c.fill_gates.ensures.kept v))
    (once-across (map variable m.inputs ++ map held m.latches) (map left m.gates) v once (Contains-append_right (map variable m.inputs) (map held m.latches) v here)) ∙ c.fill-2.ensures.written k d k_in

pub returns-clause-inputs : goal.returns-clause-inputs
returns-clause-inputs c = λ k d k_in.
    let m = c.args.circuit.now in
    let v = variable (get_or m.inputs k d) in
    let same : map variable c.args.latches.now ≡ map held c.args.circuit.now.latches = ap (map variable) c.requires.latches ∙ map-map variable (λ (l : Latch). l.lit) m.latches in
    let here : Contains (map variable m.inputs) v = Contains-map variable m.inputs k d k_in in
    let once = c.well_formed-2.ensures.defined_once in
    let written = rw c.inputs.ensures at c.fill.ensures.written in
    open_kept_apart (map left m.gates) c.fill-2.new.out c.fill_gates.new.out v (rw c.gates.ensures at (c.fill_gates.ensures.kept v))
    (once-across (map variable m.inputs ++ map held m.latches) (map left m.gates) v once (Contains-append_left (map variable m.inputs) (map held m.latches) v here))
    ∙ open_kept_apart (map variable c.args.latches.now) c.fill.new.out c.fill-2.new.out v (c.fill-2.ensures.kept v)
    (λ found. once-across (map variable m.inputs) (map held m.latches) v (once-left (map variable m.inputs ++ map held m.latches) (map left m.gates) once) here (subst (λ (vs : List ℕ). Contains vs v) same found))
    ∙ written k d k_in

pub fill_gates-requires-clause-once : goal.fill_gates-requires-clause-once
fill_gates-requires-clause-once c =
    let m = c.args.circuit.now in
    rw c.gates.ensures (once-right (map variable m.inputs ++ map held m.latches) (map left m.gates) c.well_formed-2.ensures.defined_once)

pub returns-clause-fires : goal.returns-clause-fires
returns-clause-fires c = rw c.gates.ensures at c.fill_gates.ensures.fires

pub returns-clause-stand : goal.returns-clause-stand
returns-clause-stand c = λ st line w state inputs at.
    let m = c.args.circuit.now in
    let well = c.well_formed-2.ensures in
    let nothing = stand_open c.clear.new.out w c.clear.ensures.cleared in
    let constant = c.fill_constant.ensures.stand w nothing at.agrees.valuation.constant in
    let even : All (λ a. a.0 % 2 ≡ 0) m.inputs = λ k d k_in. let p = inputs_even m well k d k_in in p.1 in
    let lines = are_given m.inputs c.args.inputs.now line w c.requires.inputs even at.has_inputs inputs in
    let filled = c.fill.ensures.stand w constant (rw c.inputs.ensures lines) in
    let states = states_given m c.args.state.now st w c.requires.state well at.has_state state in
    let whole = c.fill-2.ensures.stand w filled (rw c.requires.latches states) in
    c.fill_gates.ensures.stand w whole (rw c.gates.ensures at.agrees.gates)
