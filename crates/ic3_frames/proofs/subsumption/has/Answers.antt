use Rattle.std.proofs.Common.{rules, false}
use Rattle.std.proofs.lemmas.List.Sorted.{answers_always}
use Rattle.states.specs.declared.state_lit.StateLit.{StateLit}
use Rattle.ic3_frames.proofs.Searched.{found_there, not_missed}
use Rattle.ic3_frames.proofs.subsumption.has.Goals as goal

pub returns-in-Ok-clause-complete : goal.returns-in-Ok-clause-complete
returns-in-Ok-clause-complete c = λ rising has.
    let at = c.in-Ok.ensures.position (λ (a : StateLit). a.latch) (answers_always _ _ _ (λ f a r g called. search rules)) in
    let told = found_there c.args.clause.now c.args.lit c.in-Ok.place (record { latch = 0; value = false }) rising has c.in-Ok.ensures.bound (at c.args.lit) in
    search (rules, told, c.eq.ensures)

pub returns-in-Err-clause-complete : goal.returns-in-Err-clause-complete
returns-in-Err-clause-complete c = λ rising has.
    let at = c.in-Err.ensures.position (λ (a : StateLit). a.latch) (answers_always _ _ _ (λ f a r g called. search rules)) in
    absurd (not_missed c.args.clause.now c.args.lit c.in-Err.field-0 rising has at)
