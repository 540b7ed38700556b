use Rattle.std.proofs.Common.{◌≡◌, ◌++◌, map, take}
use Rattle.wave_texts.specs.Scopes.{printable}
use Rattle.wave_texts.proofs.scopes.push_bytes.Given as goal

abbrev pub invariant-loop-byte : goal.invariant-loop-byte
invariant-loop-byte l = l.text.items ≡ l.initial.text.items ++ map printable (take l.byte-index l.part)
