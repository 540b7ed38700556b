use Rattle.std.proofs.Common.{◌≡◌, ◌++◌, drop}
use Rattle.witness_additions.specs.Trimmings.{kept_latches}
use Rattle.witness_additions.proofs.trimming.Numbering.latches.Given as goal

abbrev pub invariant-loop-k : goal.invariant-loop-k
invariant-loop-k l = l.found ++ kept_latches l.self.literals.items l.needed (drop l.k l.latches) ≡ kept_latches l.self.literals.items l.needed l.latches
