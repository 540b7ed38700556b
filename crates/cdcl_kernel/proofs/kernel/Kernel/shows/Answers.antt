use Rattle.std.proofs.Common.{refl}
use Rattle.cdcl_kernel.specs.Inside.{known_of}
use Rattle.cdcl_kernel.proofs.Follow.{learned_from}
use Rattle.cdcl_kernel.proofs.kernel.Kernel.shows.Goals as goal

pub returns-in-Ok-clause-shown : goal.returns-in-Ok-clause-shown
returns-in-Ok-clause-shown c = (
  λ e. rw (← c.self.view_is) (learned_from (known_of c.self.inside.store) _ _ c.self.invariant.follow (c.are_nonzero.ensures.0 c.if-not-are_nonzero.false) c.in-Ok.ensures.accepted),
  λ learned. refl,
)
