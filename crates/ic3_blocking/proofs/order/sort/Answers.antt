use Rattle.ic3_step.proofs.Looked.{same_numbers}
use Rattle.ic3_blocking.proofs.order.sort.Goals as goal

pub returns-clause-same : goal.returns-clause-same
returns-clause-same c = λ n. same_numbers _ _ n c.sort_unstable_by_key.ensures.permutation
