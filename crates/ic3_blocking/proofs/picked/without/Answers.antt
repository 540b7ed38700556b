use Rattle.std.proofs.Common.{◌==◌, ◌∙◌, not, filter, ap}
use Rattle.std.proofs.lemmas.Bool.{eq-eqb, ne_eqb}
use Rattle.std.proofs.lemmas.List.{take_all}
use Rattle.states.specs.declared.state_lit.StateLit.{StateLit}
use Rattle.ic3_blocking.proofs.Literals.{filter_takes, filter_leaves}
use Rattle.ic3_blocking.proofs.picked.without.Goals as goal
use Rattle.ic3_blocking.proofs.picked.without.Goals.{then-lit-latch+in_ok-push, else-lit-latch}

pub choosing-preserved : goal.choosing-preserved
choosing-preserved c =
    let p = λ (a : StateLit). not (a.latch == c.args.latch) in
    elim c.if-lit-latch.branch [
      | then-lit-latch+in_ok-push w ↦
          filter_takes p c.args.clause.now c.choosing.kept c.if-lit-latch.kept c.choosing.lit-index _ c.choosing-test.true (w.kept-is ∙ w.in_ok-push.ensures.ok)
          (ap not (ne_eqb _ c.args.latch w.if-lit-latch.true)) c.choosing.invariant
      | else-lit-latch w ↦
          filter_leaves p c.args.clause.now c.choosing.kept c.if-lit-latch.kept c.choosing.lit-index _ c.choosing-test.true w.kept-is
          (ap not (eq-eqb _ c.args.latch w.if-lit-latch.false)) c.choosing.invariant
    ]

pub returns : goal.returns
returns c = c.choosing.invariant ∙ ap (filter (λ (a : StateLit). not (a.latch == c.args.latch))) (take_all c.choosing.lit-index c.args.clause.now c.choosing-test.false)
