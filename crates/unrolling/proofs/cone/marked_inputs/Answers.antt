use Rattle.std.proofs.Common.{◌≡◌, ◌+◌, ◌++◌, ◌∷◌, [], sym, ◌∙◌, ap, subst}
use Rattle.std.proofs.lemmas.Bool.{false≢true}
use Rattle.cones.specs.Marks.{IsMarked}
use Rattle.unrolling.specs.Cones.{ArePositions, is_marked_input, input_at}
use Rattle.unrolling.proofs.Coned.{positions_more, positions_same}
use Rattle.unrolling.proofs.cone.marked_inputs.Goals.{then-marks-variable+in_ok-push, else-marks-variable}
use Rattle.unrolling.proofs.cone.marked_inputs.Goals as goal

pub loop-position-preserved : goal.loop-position-preserved
loop-position-preserved c =
    let marks = c.args.marks.now in
    let n = c.loop-position.position in
    let old = c.loop-position.positions.items in
    let is : c.variable.result ≡ input_at c.args.inputs.now n = c.variable.ensures in
    elim c.if-marks-variable.branch [
      | then-marks-variable+in_ok-push w ↦
          let on : IsMarked marks (input_at c.args.inputs.now n) = subst (IsMarked marks) is w.if-marks-variable.true in
          let are : c.if-marks-variable.positions.items ≡ old ++ n ∷ [] = ap (λ q. q.items) w.positions-is ∙ w.in_ok-push.ensures.items in
          subst (ArePositions (is_marked_input c.args.marks.now c.args.inputs.now) (n + 1)) (sym are) (positions_more (is_marked_input c.args.marks.now c.args.inputs.now) n old c.loop-position.invariant on)
      | else-marks-variable w ↦
          let are : c.if-marks-variable.positions.items ≡ old = ap (λ q. q.items) w.positions-is in
          subst (ArePositions (is_marked_input c.args.marks.now c.args.inputs.now) (n + 1)) (sym are) (positions_same (is_marked_input c.args.marks.now c.args.inputs.now) n old c.loop-position.invariant (λ on. false≢true (sym w.if-marks-variable.false ∙ subst (IsMarked marks) (sym is) on)))
    ]
