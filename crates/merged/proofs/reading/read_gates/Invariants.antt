use Rattle.std.proofs.Common.{◌≡◌, map, take}
use Rattle.merged.specs.Merged.{merged_gate as word}
use Rattle.merged.proofs.reading.read_gates.Given as goal

abbrev pub invariant-loop-gate : goal.invariant-loop-gate
invariant-loop-gate l = l.all ≡ map (word l.table) (take l.gate-index l.gates)
