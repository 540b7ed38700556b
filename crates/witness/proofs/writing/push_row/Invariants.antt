use Rattle.std.proofs.Common.{◌≡◌, ◌++◌, take, map}
use Rattle.witness.specs.Texts.{character_of}
use Rattle.witness.proofs.writing.push_row.Given as goal

abbrev pub invariant-loop-value : goal.invariant-loop-value
invariant-loop-value l = l.to.items ≡ l.initial.to.items ++ map character_of (take l.value-index l.row)
