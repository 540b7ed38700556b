use Rattle.std.proofs.Common.{◌∷◌, []}
use Rattle.base.proofs.Putting.{puts_of, puts_then}
use Rattle.aag.proofs.PieceLaws.{first_fails}
use Rattle.aag.proofs.writing.put_comment.Goals as goal

pub returns-in_err-put_all-clause-puts : goal.returns-in_err-put_all-clause-puts
returns-in_err-put_all-clause-puts g c =
    let r = c.from_residual in
    rw c.in-Some.is (first_fails r.result _ _ (99 ∷ 10 ∷ []) c.in-Some.bytes.now r.ensures.0 c.in_err-put_all.ensures.beginning)

pub returns-clause-puts : goal.returns-clause-puts
returns-clause-puts g c =
    let r = c.put_all-2 in
    let between = g.W.Sink.contents c.put_all.new.out in
    rw c.in-Some.is (puts_then r.result _ between _ (99 ∷ 10 ∷ []) c.in-Some.bytes.now c.in_ok-put_all.ensures.whole (puts_of r.result between _ c.in-Some.bytes.now r.ensures.whole r.ensures.beginning))
