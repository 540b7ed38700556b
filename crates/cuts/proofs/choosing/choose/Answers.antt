use Rattle.std.proofs.Common.{◌≡◌, ◌/◌, ◌<◌, length, get_or, sym, ◌∙◌, ap, subst, arith}
use Rattle.std.proofs.lemmas.List.{length-set}
use Rattle.graph.specs.Circuits.{variable}
use Rattle.graph.specs.WellFormed.{gate_in}
use Rattle.graph.proofs.Evaluation.{lefts_in_range}
use Rattle.cuts.specs.Cuts.{left_in, no_gate}
use Rattle.cuts.specs.Joining.{IsChosen}
use Rattle.cuts.proofs.Chosen.{chosen_none, chosen_more, chosen_all, chosen_inside, rights_in}
use Rattle.cuts.proofs.choosing.choose.Goals as goal

pub loop-position-init : goal.loop-position-init
loop-position-init c = (c.requires.flows, chosen_none c.args.circuit.now c.order-position-items.result.now c.args.cuts.now c.requires.cuts c.requires.each)

pub cheapest-cut-requires-clause-first : goal.cheapest-cut-requires-clause-first
cheapest-cut-requires-clause-first c =
    let m = c.args.circuit.now in
    let i = get_or c.order-position-items.result.now c.loop-position.position-index 0 in
    let i_in : i < length m.gates = c.order-position-items.ensures.in_range c.loop-position.position-index 0 c.loop-position-test.true in
    let p = (rights_in m i c.well_formed-2.ensures i_in).0 in
    let is = ap (λ gs. variable (get_or gs i no_gate).rhs0) c.gates-gates.ensures in
    omega (arith, p, is, c.loop-position.invariant.1.places)

pub cheapest-cut-requires-clause-second : goal.cheapest-cut-requires-clause-second
cheapest-cut-requires-clause-second c =
    let m = c.args.circuit.now in
    let i = get_or c.order-position-items.result.now c.loop-position.position-index 0 in
    let i_in : i < length m.gates = c.order-position-items.ensures.in_range c.loop-position.position-index 0 c.loop-position-test.true in
    let p = (rights_in m i c.well_formed-2.ensures i_in).1 in
    let is = ap (λ gs. variable (get_or gs i no_gate).rhs1) c.gates-gates.ensures in
    omega (arith, p, is, c.loop-position.invariant.1.places)

pub cheapest-cut-requires-clause-inside : goal.cheapest-cut-requires-clause-inside
cheapest-cut-requires-clause-inside c =
    chosen_inside c.args.circuit.now c.order-position-items.result.now c.loop-position.cuts c.loop-position.position-index (length c.loop-position.flows) c.loop-position.invariant.0 c.loop-position.invariant.1

pub bounds-uses-variable : goal.bounds-uses-variable
bounds-uses-variable c =
    let m = c.args.circuit.now in
    let order = c.order-position-items.result.now in
    let n = c.loop-position.position-index in
    let is : c.variable-variable.result ≡ left_in m order n = c.variable-variable.ensures ∙ ap (λ gs. variable (gate_in gs order n no_gate).lhs) c.gates-gates.ensures in
    let range = lefts_in_range m c.well_formed-2.ensures (get_or order n 0) no_gate (c.order-position-items.ensures.in_range n 0 c.loop-position-test.true) in
    omega (arith, is, range, c.requires.uses)

pub bounds-flows-variable : goal.bounds-flows-variable
bounds-flows-variable c =
    let m = c.args.circuit.now in
    let order = c.order-position-items.result.now in
    let n = c.loop-position.position-index in
    let is : c.variable-variable.result ≡ left_in m order n = c.variable-variable.ensures ∙ ap (λ gs. variable (gate_in gs order n no_gate).lhs) c.gates-gates.ensures in
    let range = lefts_in_range m c.well_formed-2.ensures (get_or order n 0) no_gate (c.order-position-items.ensures.in_range n 0 c.loop-position-test.true) in
    omega (arith, is, range, c.loop-position.invariant.0)

pub bounds-cuts-variable : goal.bounds-cuts-variable
bounds-cuts-variable c =
    let m = c.args.circuit.now in
    let order = c.order-position-items.result.now in
    let n = c.loop-position.position-index in
    let is : c.variable-variable.result ≡ left_in m order n = c.variable-variable.ensures ∙ ap (λ gs. variable (gate_in gs order n no_gate).lhs) c.gates-gates.ensures in
    let range = lefts_in_range m c.well_formed-2.ensures (get_or order n 0) no_gate (c.order-position-items.ensures.in_range n 0 c.loop-position-test.true) in
    omega (arith, is, range, c.loop-position.invariant.1.places)

pub loop-position-preserved : goal.loop-position-preserved
loop-position-preserved c =
    let m = c.args.circuit.now in
    let order = c.order-position-items.result.now in
    let n = c.loop-position.position-index in
    let v = c.variable-variable.result in
    let cut = c.cheapest-cut.result in
    let cuts = c.loop-position.cuts in
    let is : v ≡ left_in m order n = c.variable-variable.ensures ∙ ap (λ gs. variable (gate_in gs order n no_gate).lhs) c.gates-gates.ensures in
    let range = lefts_in_range m c.well_formed-2.ensures (get_or order n 0) no_gate (c.order-position-items.ensures.in_range n 0 c.loop-position-test.true) in
    let v_in : v < length cuts = omega (arith, is, range, c.loop-position.invariant.1.places) in
    let chosen : IsChosen cuts (gate_in m.gates order n no_gate) cut = subst (λ gs. IsChosen cuts (gate_in gs order n no_gate) cut) c.gates-gates.ensures c.cheapest-cut.ensures.chosen in (
      length-set c.loop-position.flows v (c.cost.result / c.max.result) ∙ c.loop-position.invariant.0,
      chosen_more m order cuts n v cut c.well_formed-2.ensures c.order-position-items.ensures c.loop-position-test.true v_in (sym is) chosen c.loop-position.invariant.1,
    )

pub returns : goal.returns
returns c = chosen_all c.args.circuit.now c.order-position-items.result.now c.loop-position.cuts c.loop-position.position-index c.order-position-items.ensures (omega (arith, c.loop-position-test.false)) c.loop-position.invariant.1
