use Rattle.std.proofs.Common.{◌∷◌, [], map, Contains, ap, sym, subst, ◌∙◌}
use Rattle.std.proofs.lemmas.List.{take_all}
use Rattle.std.proofs.lemmas.List.Elements.{Contains-append_left, Contains-push}
use Rattle.states.specs.declared.state_lit.StateLit.{StateLit}
use Rattle.ic3_step.proofs.Latched.{to_map}
use Rattle.ic3_blocking.proofs.picked.latches_of.Goals as goal

pub returns-clause-part : goal.returns-clause-part
returns-clause-part c = λ a found.
    let all = c.listing.invariant ∙ ap (map (λ (b : StateLit). b.latch)) (take_all c.listing.lit-index c.args.part.now c.listing-test.false) in
    let here = to_map (λ (b : StateLit). b.latch) c.args.part.now a found in
    let before : Contains c.listing.latches.items a.latch = subst (λ xs. Contains xs a.latch) (sym all) here in
    subst (λ xs. Contains xs a.latch) (sym c.in_ok-push-2.ensures.items) (Contains-append_left c.listing.latches.items (c.args.more.latch ∷ []) a.latch before)

pub returns-clause-more : goal.returns-clause-more
returns-clause-more c = subst (λ xs. Contains xs c.args.more.latch) (sym c.in_ok-push-2.ensures.items) (Contains-push c.listing.latches.items c.args.more.latch)
