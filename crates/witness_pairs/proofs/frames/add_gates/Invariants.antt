use Rattle.std.proofs.Common.{◌≡◌, ◌++◌, map, take}
use Rattle.witness_pairs.specs.Renamed.{renamed_gate}
use Rattle.witness_pairs.proofs.frames.add_gates.Given as goal

abbrev pub invariant-loop-gate : goal.invariant-loop-gate
invariant-loop-gate l = l.draft.gates ≡ l.initial.draft.gates ++ map (renamed_gate l.names) (take l.gate-index l.gates)
