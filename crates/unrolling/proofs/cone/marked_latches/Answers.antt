use Rattle.std.proofs.Common.{◌≡◌, ◌+◌, ◌++◌, ◌∷◌, [], sym, ◌∙◌, ap, subst}
use Rattle.std.proofs.lemmas.Bool.{false≢true}
use Rattle.graph.specs.Circuits.{variable}
use Rattle.cones.specs.Marks.{IsMarked}
use Rattle.unrolling.specs.Cones.{ArePositions, is_marked_latch, latch_at}
use Rattle.unrolling.proofs.Coned.{positions_more, positions_same}
use Rattle.unrolling.proofs.cone.marked_latches.Goals.{then-marks-variable+in_ok-push, else-marks-variable}
use Rattle.unrolling.proofs.cone.marked_latches.Goals as goal

pub loop-position-preserved : goal.loop-position-preserved
loop-position-preserved c =
    let marks = c.args.marks.now in
    let n = c.loop-position.position in
    let old = c.loop-position.positions.items in
    let is : c.variable.result ≡ variable (latch_at c.args.latches.now n).lit = c.variable.ensures in
    elim c.if-marks-variable.branch [
      | then-marks-variable+in_ok-push w ↦
          let on : IsMarked marks (variable (latch_at c.args.latches.now n).lit) = subst (IsMarked marks) is w.if-marks-variable.true in
          let are : c.if-marks-variable.positions.items ≡ old ++ n ∷ [] = ap (λ q. q.items) w.positions-is ∙ w.in_ok-push.ensures.items in
          subst (ArePositions (is_marked_latch c.args.marks.now c.args.latches.now) (n + 1)) (sym are) (positions_more (is_marked_latch c.args.marks.now c.args.latches.now) n old c.loop-position.invariant on)
      | else-marks-variable w ↦
          let are : c.if-marks-variable.positions.items ≡ old = ap (λ q. q.items) w.positions-is in
          subst (ArePositions (is_marked_latch c.args.marks.now c.args.latches.now) (n + 1)) (sym are) (positions_same (is_marked_latch c.args.marks.now c.args.latches.now) n old c.loop-position.invariant (λ on. false≢true (sym w.if-marks-variable.false ∙ subst (IsMarked marks) (sym is) on)))
    ]
