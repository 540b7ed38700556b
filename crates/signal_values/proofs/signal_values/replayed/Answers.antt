use Rattle.std.proofs.Common.{◌≡◌, ◌∙◌, Bool, List, length, ap, subst}
use Rattle.stimulus.specs.Shown.{closing_state}
use Rattle.stimulus.proofs.CourseLaws.{course_of}
use Rattle.wave_signals.specs.Columns.{HasValues}
use Rattle.wave_signals.specs.Loops.{IsLoopStart}
use Rattle.wave_signals.proofs.LoopLaws.{closing_at}
use Rattle.signal_values.proofs.ReplayLaws.{of_replay}
use Rattle.signal_values.proofs.signal_values.replayed.Goals as goal

pub returns-clause-values : goal.returns-clause-values
returns-clause-values c =
    let m = c.args.circuit.now in
    let initial = c.args.initial.now in
    let inputs = c.args.inputs.now in
    let bits = c.args.bits.now in
    let values = c.in_ok-values.values.items in
    let begun = c.in_ok-replay.ensures.begun.0 in
    let h0 = subst (λ s. HasValues c.in_ok-replay.replay.circuit s inputs bits (length inputs) c.play.new.replay values) (ap (λ r. r.state) begun) c.in_ok-values.ensures in
    let h = subst (λ p. HasValues p initial inputs bits (length inputs) c.play.new.replay values) (ap (λ r. r.circuit) begun) h0 in
    of_replay m initial inputs bits c.play.new.replay values c.requires.playable.some h

pub returns-clause-loops : goal.returns-clause-loops
returns-clause-loops c = λ x x_is.
    let m = c.args.circuit.now in
    let initial = c.args.initial.now in
    let inputs = c.args.inputs.now in
    let bits = c.args.bits.now in
    let values = c.in_ok-values.values.items in
    let begun = c.in_ok-replay.ensures.begun.0 in
    let h0 = subst (λ s. HasValues c.in_ok-replay.replay.circuit s inputs bits (length inputs) c.play.new.replay values) (ap (λ r. r.state) begun) c.in_ok-values.ensures in
    let h = subst (λ p. HasValues p initial inputs bits (length inputs) c.play.new.replay values) (ap (λ r. r.circuit) begun) h0 in
    let closing : c.state.result.now ≡ closing_state c.args.circuit.now x = c.state.ensures ∙ closing_at m initial inputs bits c.play.new.replay values c.requires.playable.some h x x_is in
    subst (λ (s : List Bool). IsLoopStart m c.args.property s x c.in_ok-start.start) closing (c.in_ok-start.ensures.found x (course_of m initial inputs x x_is))
