use Rattle.std.proofs.Common.{◌≡◌, ◌++◌, take}
use Rattle.std.specs.List.{flat_map}
use Rattle.wave_texts.specs.Changes.{change_text}
use Rattle.wave_texts.proofs.changes.push_changes.Given as goal

abbrev pub invariant-loop-signal : goal.invariant-loop-signal
invariant-loop-signal l = l.text.items ≡ l.initial.text.items ++ flat_map (change_text l.bits l.before l.now) (take l.signal-index l.signals)
