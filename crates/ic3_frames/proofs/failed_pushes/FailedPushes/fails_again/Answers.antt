use Rattle.std.proofs.Common.{List, Contains, arith, subst}
use Rattle.ic3_frames.specs.declared.failed_pushes.FailedPush.{FailedPush}
use Rattle.ic3_frames.specs.FailedPushes.{clauses_of}
use Rattle.ic3_frames.proofs.Failing.{clause_of}
use Rattle.ic3_frames.proofs.failed_pushes.FailedPushes.fails_again.Goals as goal

pub returns-then-failed-level : goal.returns-then-failed-level
returns-then-failed-level c = λ again.
    let items = c.as_slice-failed-items.result.now in
    subst (λ (ps : List FailedPush). Contains (clauses_of ps) c.args.clause.now) c.as_slice-failed-items.ensures.value
    (clause_of items c.looking.failed-index c.failed-item.result c.args.clause.now (omega arith) c.failed-item.is (c.is_of.ensures c.if-is_of.true))
