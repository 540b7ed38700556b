use Rattle.std.proofs.Common.{◌≡◌, ◌<◌, [], length, get_or, refl, sym, ◌∙◌, arith}
use Rattle.std.proofs.lemmas.List.{get_or_default}
use Rattle.std.proofs.lemmas.Slice.Eq.{slice_eq-Decides}
use Rattle.std.specs.Cmp.{booleans_Decides}
use Rattle.stimulus.proofs.CourseLaws.{moves_of}
use Rattle.stimulus.proofs.LassoLaws.{unmet_none, unmet_more, unmet_met, unmet_never}
use Rattle.wave_signals.proofs.loops.meet.Goals as goal

pub loop-i-init : goal.loop-i-init
loop-i-init c = unmet_none c.args.replay.now.circuit c.args.lines.now c.args.closing.now c.args.replay.now refl

pub returns-then-eq-clause-met : goal.returns-then-eq-clause-met
returns-then-eq-clause-met c =
    unmet_met c.args.replay.now.circuit c.args.replay.now.state c.args.lines.now c.args.closing.now c.loop-i.i c.loop-i.replay (omega arith)
    (sym c.state.ensures ∙ (slice_eq-Decides booleans_Decides c.state.result.now c.args.closing.now c.eq.result c.eq.ensures).0 c.if-eq.true) c.loop-i.invariant

pub loop-i-preserved : goal.loop-i-preserved
loop-i-preserved c =
    let m = c.args.replay.now.circuit in
    let i_in : c.loop-i.i < length c.args.lines.now = omega arith in
    let is_line : get_or c.args.lines.now c.loop-i.i [] ≡ c.as_slice.result.now = get_or_default c.args.lines.now c.loop-i.i [] c.index-lines-i.result i_in ∙ sym c.index-lines-i.is ∙ sym c.as_slice.ensures in
    let s = moves_of m c.loop-i.replay c.step.new.self c.as_slice.result.now c.loop-i.invariant.circuit c.step.ensures in
    unmet_more m c.args.replay.now.state c.as_slice.result.now c.args.lines.now c.args.closing.now c.loop-i.i c.loop-i.replay c.step.new.self c.step.ensures.now i_in is_line
    (λ e. let same = (slice_eq-Decides booleans_Decides c.state.result.now c.args.closing.now c.eq.result c.eq.ensures).1 (c.state.ensures ∙ e) in absurd cc) c.loop-i.invariant s

pub returns-clause-met : goal.returns-clause-met
returns-clause-met c = unmet_never c.args.replay.now.circuit c.args.replay.now.state c.args.lines.now c.args.closing.now c.loop-i.i c.loop-i.replay (omega arith) c.loop-i.invariant
