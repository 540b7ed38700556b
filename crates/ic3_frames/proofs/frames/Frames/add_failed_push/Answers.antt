use Rattle.std.proofs.Common.{◌≡◌, ◌⊎◌, All, Contains, ap, subst}
use Rattle.ic3_frames.specs.FailedPushes.{clauses_of}
use Rattle.ic3_frames.proofs.Laws.{noted_to}
use Rattle.ic3_frames.proofs.frames.Frames.add_failed_push.Goals as goal

pub returns-clause-failed : goal.returns-clause-failed
returns-clause-failed c =
    subst (λ cs. All (λ x. Contains cs x ⊎ (x ≡ c.args.clause)) (clauses_of c.add.new.self.items.items)) (ap (λ f. f.failed) c.self.view_is) c.add.ensures

pub returns-clause-laws : goal.returns-clause-laws
returns-clause-laws c = λ m bad frames after.
    noted_to m bad c.args.self.now _ c.args.clause (ap (λ f. f.entries) c.self.view_is) (ap (λ f. f.top) c.self.view_is)
    (subst (λ cs. All (λ x. Contains cs x ⊎ (x ≡ c.args.clause)) (clauses_of c.add.new.self.items.items)) (ap (λ f. f.failed) c.self.view_is) c.add.ensures) frames after
