use Rattle.std.proofs.Common.{◌+◌, ◌*◌, ◌≤◌, All, arith}
use Rattle.graph.specs.declared.circuit.Latch.{Latch}
use Rattle.graph.proofs.Evaluation.{latches_in_range}
use Rattle.ic3_step.proofs.reading.state_in.Goals as goal

pub value-requires : goal.value-requires
value-requires c =
    let blank : Latch = record { lit = record { 0 = 0 }; next = record { 0 = 0 }; reset = record { 0 = 0 } } in
    let ranges : All (λ l. l.lit.0 ≤ 2 * c.args.circuit.now.max_var + 1) c.latches-latch-items.result.now =
    rw c.latches-latch-items.ensures (latches_in_range c.args.circuit.now c.well_formed-2.ensures) in
    let range = ranges c.loop-latch.latch-index blank c.loop-latch-test.true in
    let places = c.requires in
    omega (arith, range, places)
