use Rattle.std.proofs.Common.{◌≡◌, map, take}
use Rattle.wave_texts.specs.Changes.{part_of}
use Rattle.bit_numbers.specs.Numbers.{number_text}
use Rattle.trace.specs.Widths.{width_of}
use Rattle.trace.proofs.widths.row_width.Given as goal

abbrev pub invariant-loop-signal : goal.invariant-loop-signal
invariant-loop-signal l = l.width ≡ width_of (map (λ s. number_text (part_of l.row s)) (take l.signal-index l.signals))
