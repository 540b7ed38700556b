use Rattle.std.proofs.Common.{◌≡◌, ◌<◌, [], length, get_or, refl, sym, ◌∙◌, arith}
use Rattle.std.proofs.lemmas.List.{get_or_default}
use Rattle.stimulus.proofs.CourseLaws.{moves_of}
use Rattle.stimulus.proofs.PlaySteps.{playing_none, playing_more, playing_breaks, playing_all}
use Rattle.stimulus.proofs.playing.play.Goals as goal

pub loop-t-init : goal.loop-t-init
loop-t-init c = playing_none c.args.replay.now.circuit c.args.lines.now c.args.replay.now refl

pub returns-then-not-keeps : goal.returns-then-not-keeps
returns-then-not-keeps c =
    let m = c.args.replay.now.circuit in
    let t_in : c.loop-t.t < length c.args.lines.now = omega arith in
    let is_line : get_or c.args.lines.now c.loop-t.t [] ≡ c.as_slice.result.now = get_or_default c.args.lines.now c.loop-t.t [] c.index-lines-t.result t_in ∙ sym c.index-lines-t.is ∙ sym c.as_slice.ensures in
    let s = moves_of m c.loop-t.replay c.step.new.self c.as_slice.result.now c.loop-t.invariant.played.circuit c.step.ensures in
    playing_breaks m c.args.replay.now c.as_slice.result.now c.args.lines.now c.loop-t.t c.loop-t.replay c.step.new.self c.step.ensures.now t_in is_line c.loop-t.invariant s
    (λ kept. let on = (c.keeps.ensures c.step.ensures.now s.is_now).1 (rw c.requires.constraints kept) in absurd cc)

pub loop-t-preserved : goal.loop-t-preserved
loop-t-preserved c =
    let m = c.args.replay.now.circuit in
    let t_in : c.loop-t.t < length c.args.lines.now = omega arith in
    let is_line : get_or c.args.lines.now c.loop-t.t [] ≡ c.as_slice.result.now = get_or_default c.args.lines.now c.loop-t.t [] c.index-lines-t.result t_in ∙ sym c.index-lines-t.is ∙ sym c.as_slice.ensures in
    let s = moves_of m c.loop-t.replay c.step.new.self c.as_slice.result.now c.loop-t.invariant.played.circuit c.step.ensures in
    let kept = (c.keeps.ensures c.step.ensures.now s.is_now).0 cc in
    playing_more m c.args.replay.now.state c.as_slice.result.now c.args.lines.now c.loop-t.t c.loop-t.replay c.step.new.self c.step.ensures.now t_in is_line c.loop-t.invariant s
    (rw c.requires.constraints at kept)

pub returns : goal.returns
returns c = playing_all c.args.replay.now.circuit c.args.replay.now c.args.lines.now c.loop-t.t c.loop-t.replay (omega arith) c.loop-t.invariant
