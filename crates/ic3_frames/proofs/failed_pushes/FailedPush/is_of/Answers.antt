use Rattle.std.proofs.Common.{◌≡◌, List, subst}
use Rattle.states.specs.declared.state_lit.StateLit.{StateLit}
use Rattle.ic3_frames.proofs.Failing.{clauses_decided}
use Rattle.ic3_frames.proofs.failed_pushes.FailedPush.is_of.Goals as goal

pub returns : goal.returns
returns c = λ same. subst (λ (xs : List StateLit). xs ≡ c.args.clause.now) c.as_slice.ensures ((clauses_decided c.as_slice.result.now c.args.clause.now c.eq.result c.eq.ensures).0 same)
