use Rattle.std.proofs.Common.{◌≡◌, ◌++◌, map, take}
use Rattle.graph.specs.declared.circuit.Latch.{Latch}
use Rattle.signal_classes.proofs.signal.push_latches.Given as goal

abbrev pub invariant-loop-latch : goal.invariant-loop-latch
invariant-loop-latch l = l.lits.items ≡ l.initial.lits.items ++ map (λ (x : Latch). x.lit) (take l.latch-index l.latches)
