use Rattle.std.proofs.Common.{◌<◌, length, All, List, sym, subst}
use Rattle.std.proofs.lemmas.List.Sorted.{All-permutation}
use Rattle.states.specs.declared.state_lit.StateLit.{StateLit}
use Rattle.ic3_step.specs.Steps.{IsConsecution}
use Rattle.ic3_step.proofs.Loaded.{if_ok}
use Rattle.ic3_step.proofs.Denied.{in_any_order}
use Rattle.ic3_step.proofs.step.holds_after.Goals as goal

pub ask_after-requires-clause-latches : goal.ask_after-requires-clause-latches
ask_after-requires-clause-latches g c =
    let m = c.args.circuit.now in
    subst (All (λ (a : StateLit). a.latch < length m.latches)) (sym c.deref.ensures.value)
    (All-permutation (λ (a : StateLit). a.latch < length m.latches) c.args.clause.now c.in_ok-ordered.ordered.items c.in_ok-ordered.ensures c.requires.latches)

pub returns-clause-lawful : goal.returns-clause-lawful
returns-clause-lawful g c = λ n gs loaded.
    let m = c.args.circuit.now in
    let guards = c.args.guards.now in
    let after = c.ask_after.new.budget in
    if_ok (IsConsecution m gs guards c.deref.result.now after) (IsConsecution m gs guards c.args.clause.now after) c.ask_after.result
    (λ r law. in_any_order m gs guards c.args.clause.now c.in_ok-ordered.ordered.items after r c.in_ok-ordered.ensures
    (subst (λ (ls : List StateLit). IsConsecution m gs guards ls after r) c.deref.ensures.value law))
    (c.ask_after.ensures.lawful n gs loaded)
