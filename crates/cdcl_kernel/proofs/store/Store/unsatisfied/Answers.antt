use Rattle.std.proofs.Common.{arith}
use Rattle.cdcl_kernel.proofs.Judged.{all_added}
use Rattle.cdcl_kernel.proofs.store.Store.unsatisfied.Goals as goal

pub returns : goal.returns
returns c = all_added c.args.self.now.kept c.args.values.now (λ q lt e. c.loop-index.invariant q (omega arith) e)
