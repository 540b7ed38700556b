use Rattle.std.proofs.Common.{take, All}
use Rattle.solver.specs.Values.{IsAndBy}
use Rattle.solver.proofs.values.fits_gates.Given as goal

abbrev pub invariant-loop-gate : goal.invariant-loop-gate
invariant-loop-gate l = All (IsAndBy l.values) (take l.gate-index l.gates)
