use Rattle.std.proofs.Common.{◌≡◌, ◌<◌, [], length, get_or, sym, ◌∙◌, arith}
use Rattle.std.proofs.lemmas.List.{get_or_default}
use Rattle.wave_signals.proofs.ColumnLaws.{values_more}
use Rattle.wave_signals.proofs.columns.play.Goals as goal

pub loop-line-preserved : goal.loop-line-preserved
loop-line-preserved c =
    let i = c.loop-line.line-index in
    let i_in : i < length c.args.lines.now = omega arith in
    let is_line : get_or c.args.lines.now i [] ≡ c.as_slice.result.now = get_or_default c.args.lines.now i [] c.line-item.result i_in ∙ sym c.line-item.is ∙ sym c.as_slice.ensures in
    values_more c.args.replay.now.circuit c.args.replay.now.state c.as_slice.result.now c.args.lines.now c.args.bits.now i c.loop-line.replay c.step.new.self c.loop-line.values.items c.push_values.new.values.items i_in is_line
    c.step.ensures (c.in_ok-push_values.ensures c.step.ensures.now c.step.ensures.is_now) c.loop-line.invariant
