use Rattle.std.proofs.Common.{map, ap, ◌∙◌, subst}
use Rattle.ic3_step.specs.Replies.{IsReply}
use Rattle.ic3_step.specs.Steps.{denial, HasNeeded}
use Rattle.ic3_step.proofs.Denied.{denials_known, nexts_small, held, broken}
use Rattle.ic3_step.proofs.step.ask_after.Goals as goal

pub denials-requires-clause-small : goal.denials-requires-clause-small
denials-requires-clause-small g c = nexts_small c.args.circuit.now c.latches.result.now c.well_formed-2.ensures c.latches.ensures

pub ask-requires-clause-lits : goal.ask-requires-clause-lits
ask-requires-clause-lits g c =
    denials_known c.args.circuit.now c.args.clause.now c.as_slice.result.now c.well_formed-2.ensures c.requires.latches
    (c.as_slice.ensures ∙ c.in_ok-lits.ensures ∙ ap (λ ls. map (denial ls) c.args.clause.now) c.latches.ensures)

pub returns-in-Found-clause-lawful : goal.returns-in-Found-clause-lawful
returns-in-Found-clause-lawful g c = λ n gs loaded.
    let m = c.args.circuit.now in
    let guards = c.args.guards.now in
    let clause = c.args.clause.now in
    let lits = c.as_slice.result.now in
    let after = c.ask.new.budget in
    let are = c.as_slice.ensures ∙ c.in_ok-lits.ensures ∙ ap (λ ls. map (denial ls) clause) c.latches.ensures in
    broken m gs guards clause lits after c.in-Found.time c.requires.latches are (subst (IsReply m gs guards lits after) c.in-Found.is (c.in_ok-time.ensures.lawful n gs loaded))

pub needed-requires-clause-small : goal.needed-requires-clause-small
needed-requires-clause-small g c = nexts_small c.args.circuit.now c.latches-in-Core.result.now c.well_formed-2.ensures c.latches-in-Core.ensures

pub returns-in-Core-clause-lawful : goal.returns-in-Core-clause-lawful
returns-in-Core-clause-lawful g c = λ n gs loaded.
    let m = c.args.circuit.now in
    let guards = c.args.guards.now in
    let clause = c.args.clause.now in
    let lits = c.as_slice.result.now in
    let after = c.ask.new.budget in
    let part = c.in_ok-part-in-Core.part in
    let are = c.as_slice.ensures ∙ c.in_ok-lits.ensures ∙ ap (λ ls. map (denial ls) clause) c.latches.ensures in
    held m gs guards clause part lits c.in-Core.core after c.requires.latches are
    (subst (IsReply m gs guards lits after) c.in-Core.is (c.in_ok-time.ensures.lawful n gs loaded)) c.in_ok-part-in-Core.ensures.part
    (subst (λ ls. HasNeeded ls clause c.in-Core.core part) c.latches-in-Core.ensures
    (subst (λ k. HasNeeded c.latches-in-Core.result.now clause k part) c.as_slice-in-Core.ensures c.in_ok-part-in-Core.ensures.all))

pub returns-clause-lawful : goal.returns-clause-lawful
returns-clause-lawful g c = λ n gs loaded.
    subst (IsReply c.args.circuit.now gs c.args.guards.now c.as_slice.result.now c.ask.new.budget) c.in-Spent.is (c.in_ok-time.ensures.lawful n gs loaded)
