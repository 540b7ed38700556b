use Rattle.std.proofs.Common.{◌+◌, ◌*◌, ◌<◌, ◌≤◌, ◌++◌, List, map, get_or, length, arith, All, ap, sym, subst}
use Rattle.graph.specs.declared.circuit.Gate.{Gate}
use Rattle.graph.specs.Circuits.{variable}
use Rattle.graph.proofs.Evaluation.{lefts_in_range, held, once-right, IsOnce}
use Rattle.graph.proofs.Gates.{left}
use Rattle.cnf.specs.Formulas.{IsGateIn}
use Rattle.cnf.proofs.Frames.{gates_in_range}
use Rattle.cones.proofs.Tabled.{blank}
use Rattle.ic3_step.specs.Queries.{IsSameAnd, and_gate}
use Rattle.ic3_step.proofs.Entered.{AreEntered, entered_more, entered_all}
use Rattle.ic3_step.proofs.part_gates.PartGates.new.Goals as goal

pub part_gate-entry-requires-clause-range : goal.part_gate-entry-requires-clause-range
part_gate-entry-requires-clause-range c =
    let m = c.args.circuit.now in
    let k = c.loop-gate.gate-index in
    let ranges : All (IsGateIn m.max_var) c.gates-gate-items.result.now = rw c.gates-gate-items.ensures (gates_in_range m c.well_formed-2.ensures) in
    subst (λ n. IsGateIn n (get_or c.gates-gate-items.result.now k blank)) (sym c.first-time.ensures.max_var) (ranges k blank c.loop-gate-test.true)

pub index_mut-requires : goal.index_mut-requires
index_mut-requires c =
    let ranges : All (λ g. g.lhs.0 ≤ 2 * c.args.circuit.now.max_var + 1) c.gates-gate-items.result.now = rw c.gates-gate-items.ensures (lefts_in_range c.args.circuit.now c.well_formed-2.ensures) in
    let range = ranges c.loop-gate.gate-index blank c.loop-gate-test.true in
    omega (arith, range, c.variable.ensures, c.loop-gate.invariant.places)

pub loop-gate-preserved : goal.loop-gate-preserved
loop-gate-preserved c =
    let gs : List Gate = c.gates-gate-items.result.now in
    let m = c.args.circuit.now in
    let k = c.loop-gate.gate-index in
    let ranges : All (λ g. g.lhs.0 ≤ 2 * m.max_var + 1) gs = rw c.gates-gate-items.ensures (lefts_in_range m c.well_formed-2.ensures) in
    let once : IsOnce (map left gs) = rw c.gates-gate-items.ensures (once-right (map variable m.inputs ++ map held m.latches) (map left m.gates) c.well_formed-2.ensures.defined_once) in
    let range = ranges k blank c.loop-gate-test.true in
    let inside : left (get_or gs k blank) < m.max_var + 1 = omega (arith, range) in
    let same = subst (λ n. IsSameAnd c.part_gate-entry.result (and_gate n (get_or gs k blank))) c.first-time.ensures.max_var c.part_gate-entry.ensures in
    rw c.variable.ensures (entered_more gs m.max_var c.loop-gate.entries.items k c.part_gate-entry.result once c.loop-gate-test.true inside same c.loop-gate.invariant)

pub returns : goal.returns
returns c =
    let m = c.args.circuit.now in
    let table = c.loop-gate.entries.items in
    entered_all m table c.loop-gate.gate-index (omega (arith, ap length c.gates-gate-items.ensures))
    (subst (λ (q : List Gate). AreEntered q m.max_var table c.loop-gate.gate-index) c.gates-gate-items.ensures c.loop-gate.invariant)
