use Rattle.std.proofs.Common.{◌≡◌, ◌+◌, ◌<◌, ℕ}
use Rattle.cdcl_kernel.specs.Kept.{origin_in}
use Rattle.cdcl_kernel.specs.Verdicts.{SatisfiesOf}
use Rattle.cdcl_kernel.specs.declared.origin.Origin.TheVariants.{Added}
use Rattle.cdcl_kernel.proofs.store.Store.unsatisfied.Given as goal

abbrev pub invariant-loop-index : goal.invariant-loop-index
invariant-loop-index l = (q : ℕ) → q < l.index + 1 → origin_in l.self.kept q ≡ Added → SatisfiesOf l.self.kept l.values q
