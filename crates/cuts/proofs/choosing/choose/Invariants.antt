use Rattle.std.proofs.Common.{◌≡◌, ◌+◌, length}
use Rattle.cuts.proofs.Chosen.{IsChosenTo}
use Rattle.cuts.proofs.choosing.choose.Given as goal

abbrev pub invariant-loop-position : goal.invariant-loop-position
invariant-loop-position l = (length l.flows ≡ l.circuit.max_var + 1) × IsChosenTo l.circuit l.position-items l.cuts l.position-index
