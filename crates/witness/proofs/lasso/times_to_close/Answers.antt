use Rattle.std.proofs.Common.{◌≡◌, ◌<◌, [], ◌∷◌, ◌++◌, length, map, get_or, refl, sym, ◌∙◌, arith}
use Rattle.std.proofs.lemmas.List.{get_or_default}
use Rattle.graph.specs.Circuits.{state_of}
use Rattle.stimulus.proofs.CourseLaws.{moves_of}
use Rattle.witness.specs.Cutting.{Closes}
use Rattle.witness.proofs.CuttingLaws.{unended_never}
use Rattle.witness.proofs.LassoLaws.{one_more, states_long, unended_of, watches_ends, watches_more, watches_none}
use Rattle.witness.proofs.lasso.times_to_close.Goals as goal

pub loop-t-init : goal.loop-t-init
loop-t-init c = watches_none c.args.replay.now.circuit c.args.lines.now c.args.wanted.now c.args.replay.now c.args.seen.now c.args.last.now refl c.requires.seen c.requires.last

pub returns-then-closes : goal.returns-then-closes
returns-then-closes c =
    let m = c.args.replay.now.circuit in
    let first = c.args.replay.now.state in
    let lines = c.args.lines.now in
    let wanted = c.args.wanted.now in
    let t = c.loop-t.t in
    let h = c.loop-t.invariant in
    let w = c.step.ensures.now in
    let after = c.step.new.self in
    let line = c.as_slice.result.now in
    let t_in : c.loop-t.t < length c.args.lines.now = omega arith in
    let is_line : get_or c.args.lines.now c.loop-t.t [] ≡ c.as_slice.result.now = get_or_default c.args.lines.now c.loop-t.t [] c.index-lines-t.result t_in ∙ sym c.index-lines-t.is ∙ sym c.as_slice.ensures in
    let s = moves_of m c.loop-t.replay after line h.circuit c.step.ensures in
    let notes = c.note_set.ensures w s.is_now in
    let states = map (state_of m) h.valuations ++ c.loop-t.replay.state ∷ [] in
    let looked = rw c.state.ensures at (c.in_ok-first.ensures states (states_long m first lines wanted t c.loop-t.replay c.loop-t.seen c.loop-t.last (omega arith) h) h.states) in
    let more = one_more m first line lines wanted t c.loop-t.replay after w c.loop-t.seen c.first_passed.new.seen c.loop-t.last c.note_set.new.last c.in_ok-first.first t_in h s notes looked in
    watches_ends m first line lines wanted t c.loop-t.replay after w c.loop-t.seen c.first_passed.new.seen c.loop-t.last c.note_set.new.last c.in_ok-first.first t_in is_line h s more (c.closes.ensures.0 c.if-closes.true)

pub loop-t-preserved : goal.loop-t-preserved
loop-t-preserved c =
    let m = c.args.replay.now.circuit in
    let first = c.args.replay.now.state in
    let lines = c.args.lines.now in
    let wanted = c.args.wanted.now in
    let t = c.loop-t.t in
    let h = c.loop-t.invariant in
    let w = c.step.ensures.now in
    let after = c.step.new.self in
    let line = c.as_slice.result.now in
    let t_in : c.loop-t.t < length c.args.lines.now = omega arith in
    let is_line : get_or c.args.lines.now c.loop-t.t [] ≡ c.as_slice.result.now = get_or_default c.args.lines.now c.loop-t.t [] c.index-lines-t.result t_in ∙ sym c.index-lines-t.is ∙ sym c.as_slice.ensures in
    let s = moves_of m c.loop-t.replay after line h.circuit c.step.ensures in
    let notes = c.note_set.ensures w s.is_now in
    let states = map (state_of m) h.valuations ++ c.loop-t.replay.state ∷ [] in
    let looked = rw c.state.ensures at (c.in_ok-first.ensures states (states_long m first lines wanted t c.loop-t.replay c.loop-t.seen c.loop-t.last (omega arith) h) h.states) in
    let more = one_more m first line lines wanted t c.loop-t.replay after w c.loop-t.seen c.first_passed.new.seen c.loop-t.last c.note_set.new.last c.in_ok-first.first t_in h s notes looked in
    watches_more m first line lines wanted t c.loop-t.replay after w c.loop-t.seen c.first_passed.new.seen c.loop-t.last c.note_set.new.last c.in_ok-first.first t_in is_line h s more
    (λ closed. let on = c.closes.ensures.1 closed in absurd cc)

pub returns : goal.returns
returns c =
    let m = c.args.replay.now.circuit in
    let first = c.args.replay.now.state in
    unended_never (Closes m c.args.wanted.now) m first c.args.lines.now c.loop-t.t c.loop-t.replay (omega arith)
    (unended_of m first c.args.lines.now c.args.wanted.now c.loop-t.t c.loop-t.replay c.loop-t.seen c.loop-t.last c.loop-t.invariant)
