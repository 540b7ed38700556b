use Rattle.std.proofs.Common.{◌≡◌, ◌++◌, map, take}
use Rattle.signal_classes.specs.Paired.{at_next}
use Rattle.signal_classes.proofs.pairing.push_next.Given as goal

abbrev pub invariant-loop-lit : goal.invariant-loop-lit
invariant-loop-lit l = l.to.items ≡ l.initial.to.items ++ map (at_next l.later) (take l.lit-index l.lits)
