use Rattle.std.proofs.Common.{Contains, sym, subst, ◌∙◌}
use Rattle.std.proofs.lemmas.Bool.{false≢true}
use Rattle.std.proofs.lemmas.List.{take_all}
use Rattle.states.specs.States.{IsPartOf}
use Rattle.ic3_step.proofs.Denied.{chosen, passed_over}
use Rattle.ic3_step.proofs.step.needed.Goals as goal
use Rattle.ic3_step.proofs.step.needed.Goals.{then-contains+in_ok-push, else-contains}

pub choosing-preserved : goal.choosing-preserved
choosing-preserved c =
    let h = c.choosing.invariant in
    elim c.if-contains.branch [
      | then-contains+in_ok-push w ↦
          let r = chosen c.args.latches.now c.args.clause.now c.args.core.now c.choosing.part c.if-contains.part c.choosing.lit-index _ c.choosing-test.true (w.part-is ∙ w.in_ok-push.ensures.ok) h.part h.all in
          record { part = r.0; all = r.1 }
      | else-contains w ↦
          let r = passed_over c.args.latches.now c.args.clause.now c.args.core.now c.choosing.part c.if-contains.part c.choosing.lit-index _ c.choosing-test.true w.part-is
          (λ in_core. false≢true (w.if-contains.ensures.1 (subst (λ xs. Contains xs c.unset_after.result.0) (sym c.as_slice.ensures.value)
          ((c.in_ok-numbers.ensures.same c.unset_after.result).1 (subst (Contains c.args.core.now) (sym c.unset_after.ensures) in_core))))) h.part h.all in
          record { part = r.0; all = r.1 }
    ]

pub returns-clause-part : goal.returns-clause-part
returns-clause-part c = subst (IsPartOf c.choosing.part) (take_all c.choosing.lit-index c.args.clause.now c.choosing-test.false) c.choosing.invariant.part
