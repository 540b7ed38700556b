use Rattle.std.proofs.Common.{All, subst}
use Rattle.std.proofs.lemmas.List.{take_all}
use Rattle.certificate3.specs.Texts.{AreGateWords}
use Rattle.lrat.proofs.Numbered.{all_next}
use Rattle.certificate3.proofs.limits.gates_fit.Goals as goal

pub loop-gate-preserved : goal.loop-gate-preserved
loop-gate-preserved c = all_next AreGateWords c.args.gates.now c.loop-gate.gate-index (record { lhs = record { 0 = 0 }; rhs0 = record { 0 = 0 }; rhs1 = record { 0 = 0 } }) c.loop-gate-test.true c.loop-gate.invariant (c.gate_fits.ensures)

pub returns : goal.returns
returns c = subst (All AreGateWords) (take_all _ _ c.loop-gate-test.false) c.loop-gate.invariant
