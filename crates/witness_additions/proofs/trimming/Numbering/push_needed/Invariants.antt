use Rattle.std.proofs.Common.{◌≡◌, ◌++◌, drop}
use Rattle.witness_additions.specs.Trimmings.{needed_gates}
use Rattle.witness_additions.proofs.trimming.Numbering.push_needed.Given as goal

abbrev pub invariant-loop-k : goal.invariant-loop-k
invariant-loop-k l = l.to ++ needed_gates l.self.literals.items l.needed (drop l.k l.gates) ≡ l.fn.to ++ needed_gates l.self.literals.items l.needed l.gates
