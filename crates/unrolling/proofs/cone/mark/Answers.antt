use Rattle.cones.proofs.Growing.{grows_one}
use Rattle.unrolling.proofs.cone.mark.Goals as goal

pub returns-in_ok-push : goal.returns-in_ok-push
returns-in_ok-push c =
    rw c.in_ok-push.ensures.items (grows_one c.args.variable c.args.marks.now c.args.list.now.items c.requires c.if-not-marks-variable.true)
