use Rattle.std.proofs.Common.{◌⊎◌, take, All, Contains}
use Rattle.ic3_blocking.specs.Answers.{HasLatch}
use Rattle.ic3_blocking.proofs.order.others.Given as goal

abbrev pub invariant-listing : goal.invariant-listing
invariant-listing l = All (λ a. HasLatch l.needed a.latch ⊎ Contains l.latches.items a.latch) (take l.lit-index l.clause)
