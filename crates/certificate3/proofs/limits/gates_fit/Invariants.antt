use Rattle.std.proofs.Common.{All, take}
use Rattle.certificate3.specs.Texts.{AreGateWords}
use Rattle.certificate3.proofs.limits.gates_fit.Given as goal

abbrev pub invariant-loop-gate : goal.invariant-loop-gate
invariant-loop-gate l = All AreGateWords (take l.gate-index l.gates)
