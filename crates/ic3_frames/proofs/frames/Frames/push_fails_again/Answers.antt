use Rattle.std.proofs.Common.{Contains, ap, subst}
use Rattle.ic3_frames.proofs.frames.Frames.push_fails_again.Goals as goal

pub returns : goal.returns
returns c = λ again. subst (λ cs. Contains cs c.args.clause.now) (ap (λ f. f.failed) c.self.view_is) (c.fails_again.ensures again)
