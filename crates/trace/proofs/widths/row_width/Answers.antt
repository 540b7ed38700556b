use Rattle.std.proofs.Common.{◌∙◌, ℕ, max, ap}
use Rattle.wave_texts.specs.Changes.{part_of}
use Rattle.bit_numbers.specs.Numbers.{number_text}
use Rattle.trace.proofs.WidthLaws.{width_more}
use Rattle.trace.proofs.widths.row_width.Goals as goal

pub loop-signal-preserved : goal.loop-signal-preserved
loop-signal-preserved c =
    width_more (λ s. number_text (part_of c.args.row.now s)) c.args.signals.now c.loop-signal.signal-index (record { first = 0; end = 0 }) c.loop-signal.width c.max-width.result c.loop-signal-test.true c.loop-signal.invariant
    (c.max-width.ensures ∙ ap (λ (n : ℕ). max c.loop-signal.width n) c.number_length.ensures)
