use Rattle.std.proofs.Common.{refl, ◌∙◌, filter, Contains, ap, sym, subst}
use Rattle.std.proofs.lemmas.Bool.{false≢true, false_from_ne_true}
use Rattle.std.proofs.lemmas.List.{take_all}
use Rattle.states.specs.declared.state_lit.StateLit.{StateLit}
use Rattle.states.proofs.Valued.{is_among, among_contains, contains_among}
use Rattle.ic3_blocking.proofs.Literals.{filter_takes, filter_leaves, filter_has}
use Rattle.ic3_blocking.proofs.picked.among.Goals as goal
use Rattle.ic3_blocking.proofs.picked.among.Goals.{then-contains+in_ok-push, else-contains}

pub choosing-preserved : goal.choosing-preserved
choosing-preserved c =
    let latches = c.args.latches.now in
    let p = λ (a : StateLit). is_among latches a.latch in
    elim c.if-contains.branch [
      | then-contains+in_ok-push w ↦
          filter_takes p c.args.clause.now c.choosing.kept c.if-contains.kept c.choosing.lit-index _ c.choosing-test.true (w.kept-is ∙ w.in_ok-push.ensures.ok)
          (contains_among latches _ (w.if-contains.ensures.0 refl)) c.choosing.invariant
      | else-contains w ↦
          filter_leaves p c.args.clause.now c.choosing.kept c.if-contains.kept c.choosing.lit-index _ c.choosing-test.true w.kept-is
          (false_from_ne_true _ (λ passes. false≢true (w.if-contains.ensures.1 (among_contains latches _ passes)))) c.choosing.invariant
    ]

pub returns-clause-picked : goal.returns-clause-picked
returns-clause-picked c =
    let latches = c.args.latches.now in
    let p = λ (a : StateLit). is_among latches a.latch in
    (p, c.choosing.invariant ∙ ap (filter p) (take_all c.choosing.lit-index c.args.clause.now c.choosing-test.false))

pub returns-clause-each : goal.returns-clause-each
returns-clause-each c = λ a found latch.
    let latches = c.args.latches.now in
    let p = λ (b : StateLit). is_among latches b.latch in
    let all = c.choosing.invariant ∙ ap (filter p) (take_all c.choosing.lit-index c.args.clause.now c.choosing-test.false) in
    subst (λ xs. Contains xs a) (sym all) (filter_has p c.args.clause.now a found (contains_among latches a.latch latch))
