use Rattle.std.proofs.Common.{◌+◌, All, Contains, ap, subst}
use Rattle.ic3_frames.specs.FailedPushes.{clauses_of}
use Rattle.ic3_frames.proofs.Laws.{opened_to}
use Rattle.ic3_frames.proofs.frames.Frames.open.Goals as goal

pub returns-clause-failed : goal.returns-clause-failed
returns-clause-failed c = subst (λ cs. All (Contains cs) (clauses_of c.trim.new.self.items.items)) (ap (λ f. f.failed) c.self.view_is) c.trim.ensures

pub returns-clause-laws : goal.returns-clause-laws
returns-clause-laws c = λ m bad frames out.
    opened_to m bad c.args.self.now _ (ap (λ f. f.entries) c.self.view_is) (ap (λ f. f.top + 1) c.self.view_is)
    (subst (λ cs. All (Contains cs) (clauses_of c.trim.new.self.items.items)) (ap (λ f. f.failed) c.self.view_is) c.trim.ensures) frames out
