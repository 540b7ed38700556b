use Rattle.std.proofs.Common.{◌≡◌, take}
use Rattle.witness.specs.Completions.{completion}
use Rattle.witness.proofs.completion.completed.Given as goal

abbrev pub invariant-loop-position : goal.invariant-loop-position
invariant-loop-position l = l.values ≡ completion l.latches l.other (take l.position l.row)
