use Rattle.std.proofs.Common.{◌+◌, ◌*◌, ◌≤◌, ◌++◌, All, map, length, ap, arith}
use Rattle.graph.specs.declared.circuit.Lit.{Lit}
use Rattle.graph.specs.declared.circuit.Latch.{Latch}
use Rattle.graph.proofs.Evaluation.{All-left, latches_in_range}
use Rattle.unrolling.specs.Cones.{ArePositions, AreOrdered, IsClosed, is_marked_input, is_marked_latch}
use Rattle.unrolling.proofs.Coned.{cone_made}
use Rattle.unrolling.proofs.cone.cone_of.Goals as goal

pub marked_inputs-requires-clause-range : goal.marked_inputs-requires-clause-range
marked_inputs-requires-clause-range c = λ k d k_in.
    let m = c.args.circuit.now in
    let P = λ (a : Lit). a.0 ≤ 2 * m.max_var + 1 in
    let all : All P c.inputs.result.now = rw c.inputs.ensures (All-left P m.inputs (map (λ l. l.lit) m.latches) (All-left P (m.inputs ++ map (λ l. l.lit) m.latches) (map (λ g. g.lhs) m.gates) c.well_formed-2.ensures.defining_in_range)) in
    let p = all k d k_in in
    omega (arith, p, ap length c.as_slice-2.ensures.value, c.in_ok-marks.ensures.places)

pub marked_latches-requires-clause-range : goal.marked_latches-requires-clause-range
marked_latches-requires-clause-range c = λ k d k_in.
    let m = c.args.circuit.now in
    let all : All (λ (l : Latch). l.lit.0 ≤ 2 * m.max_var + 1) c.latches.result.now = rw c.latches.ensures (latches_in_range m c.well_formed-2.ensures) in
    let p = all k d k_in in
    omega (arith, p, ap length c.as_slice-3.ensures.value, c.in_ok-marks.ensures.places)

pub returns : goal.returns
returns c =
    let m = c.args.circuit.now in
    let cuts = c.in_ok-cuts.cuts.items in
    let marks = c.in_ok-marks.marks.items in
    let closed : IsClosed m cuts marks = rw c.as_slice.ensures.value at c.in_ok-marks.ensures in
    let inputs : ArePositions (is_marked_input marks m.inputs) (length m.inputs) c.in_ok-inputs.inputs.items = rw (c.as_slice-2.ensures.value, c.inputs.ensures) at c.in_ok-inputs.ensures in
    let latches : ArePositions (is_marked_latch marks m.latches) (length m.latches) c.in_ok-latches.latches.items = rw (c.as_slice-3.ensures.value, c.latches.ensures) at c.in_ok-latches.ensures in
    let cells : AreOrdered m cuts marks c.in_ok-cells.cells.items = rw (c.as_slice-4.ensures.value, c.as_slice-5.ensures.value) at c.in_ok-cells.ensures in
    cone_made m cuts marks (record { inputs = c.in_ok-inputs.inputs; latches = c.in_ok-latches.latches; cells = c.in_ok-cells.cells }) c.well_formed-2.ensures c.in_ok-cuts.ensures closed inputs latches cells
