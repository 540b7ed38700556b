use Rattle.std.proofs.Common.{◌≡◌, ◌++◌, [], map, drop}
use Rattle.wave_signals.specs.Signals.{bits_of}
use Rattle.wave_texts.specs.Variables.{variables_text}
use Rattle.wave_texts.proofs.variables.push_variables.Given as goal

abbrev pub invariant-loop-signal : goal.invariant-loop-signal
invariant-loop-signal l = l.text.items ++ variables_text l.path (map (bits_of l.bits) (drop l.signal-index l.signals)) ≡ l.initial.text.items ++ variables_text [] (map (bits_of l.bits) l.signals)
