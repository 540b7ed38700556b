use Rattle.std.proofs.Common.{◌∙◌, ◌+◌, sym, subst}
use Rattle.std.proofs.lemmas.Bool.{false≢true}
use Rattle.ic3_blocking.proofs.States.{DeniesBelow, denies_more, denies_past}
use Rattle.ic3_blocking.proofs.Lifted.{HasBelow, has_more, has_past}
use Rattle.ic3_blocking.proofs.lift.clause_of.Goals as goal
use Rattle.ic3_blocking.proofs.lift.clause_of.Goals.{then-is_marked+in_ok-push, else-is_marked}

pub denying-preserved : goal.denying-preserved
denying-preserved c =
    let h = c.denying.invariant in
    let i = c.denying.i in
    let latches = c.args.latches.now in
    let state = c.args.state.now in
    let marks = c.args.marks.now in
    elim c.if-is_marked.branch [
      | then-is_marked+in_ok-push w ↦
          let are = w.clause-is ∙ w.in_ok-push.ensures.ok in
          record { denies = denies_more state c.denying.clause c.if-is_marked.clause i are h.denies; has = has_more latches state marks i c.denying.clause c.if-is_marked.clause are h.has }
      | else-is_marked w ↦ record {
        denies = subst (DeniesBelow state (i + 1)) (sym w.clause-is) (denies_past state c.denying.clause i h.denies);
        has = subst (HasBelow latches state marks (i + 1)) (sym w.clause-is) (has_past latches state marks i c.denying.clause _ c.denying-test.true (λ on. false≢true (w.if-is_marked.ensures.1 on)) h.has);
      }
    ]
