use Rattle.std.proofs.Common.{◌^◌}
use Rattle.graph.specs.Uses.{gate_uses}
use Rattle.graph.proofs.Blank.{blank_gate}
use Rattle.graph.proofs.Going.{GoesOn-told, GoesOn-more, GoesOn-stops, GoesOn-room}
use Rattle.graph.proofs.literals.check_gates.Goals as goal

pub check_gate-requires-clause-few : goal.check_gate-requires-clause-few
check_gate-requires-clause-few c =
    GoesOn-room _ _ _ (2 ^ 60) gate_uses c.args.gates.now c.loop-gate.gate-index blank_gate c.loop-gate-test.true c.loop-gate.invariant c.requires.few

pub returns-in_err-count : goal.returns-in_err-count
returns-in_err-count c =
    GoesOn-told _ _ _ _ _ c.from_residual.ensures.1
    (GoesOn-stops _ _ _ gate_uses c.args.gates.now c.loop-gate.gate-index blank_gate _ c.loop-gate-test.true c.loop-gate.invariant c.in_err-count.ensures)

pub loop-gate-preserved : goal.loop-gate-preserved
loop-gate-preserved c =
    GoesOn-more _ _ _ _ gate_uses c.args.gates.now c.loop-gate.gate-index blank_gate c.loop-gate-test.true c.loop-gate.invariant c.in_ok-count.ensures
