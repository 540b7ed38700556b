use Rattle.std.proofs.Common.{◌⊎◌, ◌∙◌, refl, ap, subst, All, Contains}
use Rattle.std.proofs.lemmas.List.{take_all}
use Rattle.states.specs.declared.state_lit.StateLit.{StateLit}
use Rattle.ic3_blocking.specs.Answers.{HasLatch}
use Rattle.ic3_blocking.proofs.Tried.{listed_next, listed_not}
use Rattle.ic3_blocking.proofs.order.others.Goals as goal
use Rattle.ic3_blocking.proofs.order.others.Goals.{then-not-has_latch+in_ok-push, else-not-has_latch}

pub listing-preserved : goal.listing-preserved
listing-preserved c =
    let needed = c.args.needed.now in
    let clause = c.args.clause.now in
    let before = c.listing.latches.items in
    let after = c.if-not-has_latch.latches.items in
    elim c.if-not-has_latch.branch [
      | then-not-has_latch+in_ok-push w ↦
          listed_next needed clause before after c.listing.lit-index _ c.listing-test.true (ap (λ v. v.items) w.latches-is ∙ w.in_ok-push.ensures.items) c.listing.invariant
      | else-not-has_latch w ↦
          listed_not needed clause before after c.listing.lit-index _ c.listing-test.true (ap (λ v. v.items) w.latches-is) (w.if-not-has_latch.ensures.0 refl) c.listing.invariant
    ]

pub returns : goal.returns
returns c =
    subst (All (λ (a : StateLit). HasLatch c.args.needed.now a.latch ⊎ Contains c.listing.latches.items a.latch)) (take_all c.listing.lit-index c.args.clause.now c.listing-test.false) c.listing.invariant
