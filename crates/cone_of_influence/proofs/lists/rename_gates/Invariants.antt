use Rattle.std.proofs.Common.{◌≡◌, map, take}
use Rattle.cone_of_influence.specs.Reduced.{renamed_gate as word}
use Rattle.cone_of_influence.proofs.lists.rename_gates.Given as goal

abbrev pub invariant-loop-gate : goal.invariant-loop-gate
invariant-loop-gate l = l.all ≡ map (word l.numbers) (take l.gate-index l.gates)
