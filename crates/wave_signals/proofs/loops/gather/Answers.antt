use Rattle.std.proofs.Common.{◌≡◌, ◌<◌, [], length, get_or, refl, sym, ◌∙◌, arith}
use Rattle.std.proofs.lemmas.List.{get_or_default}
use Rattle.stimulus.proofs.CourseLaws.{moves_of}
use Rattle.stimulus.proofs.LassoLaws.{gathered_none, gathered_more, gathered_all, gathered_early}
use Rattle.wave_signals.proofs.loops.gather.Goals as goal

pub loop-line-init : goal.loop-line-init
loop-line-init c = gathered_none c.args.replay.now.circuit c.args.lines.now c.args.wanted.now c.args.marks.now c.args.replay.now refl

pub loop-line-preserved : goal.loop-line-preserved
loop-line-preserved c =
    let m = c.args.replay.now.circuit in
    let i = c.loop-line.line-index in
    let i_in : c.loop-line.line-index < length c.args.lines.now = omega arith in
    let is_line : get_or c.args.lines.now c.loop-line.line-index [] ≡ c.as_slice.result.now = get_or_default c.args.lines.now c.loop-line.line-index [] c.line-item.result i_in ∙ sym c.line-item.is ∙ sym c.as_slice.ensures in
    let s = moves_of m c.loop-line.replay c.step.new.self c.as_slice.result.now c.loop-line.invariant.circuit c.step.ensures in
    let marked = c.mark.ensures c.step.ensures.now s.is_now in
    gathered_more m c.args.replay.now.state c.as_slice.result.now c.args.lines.now c.args.wanted.now c.args.marks.now c.loop-line.marks c.mark.new.marks c.loop-line.line-index c.loop-line.replay c.step.new.self
    c.step.ensures.now i_in is_line marked.long c.loop-line.invariant s marked

pub returns-then-are_all_set : goal.returns-then-are_all_set
returns-then-are_all_set c = gathered_early c.args.replay.now.circuit c.args.replay.now.state c.args.lines.now c.args.wanted.now c.args.marks.now c.loop-line.marks c.loop-line.line-index c.loop-line.replay (omega arith)
    c.requires.lengths (c.are_all_set.ensures.0 c.if-are_all_set.true) c.loop-line.invariant

pub returns : goal.returns
returns c = gathered_all c.args.replay.now.circuit c.args.replay.now.state c.args.lines.now c.args.wanted.now c.args.marks.now c.loop-line.marks c.loop-line.line-index c.loop-line.replay (omega arith) c.loop-line.invariant
