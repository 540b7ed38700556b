use Rattle.std.proofs.Common.{◌≡◌, ◌++◌, drop}
use Rattle.witness_additions.specs.Trimmings.{other_gates}
use Rattle.witness_additions.proofs.trimming.Numbering.push_others.Given as goal

abbrev pub invariant-loop-k : goal.invariant-loop-k
invariant-loop-k l = l.to ++ other_gates l.self.literals.items l.needed (drop l.k l.gates) ≡ l.fn.to ++ other_gates l.self.literals.items l.needed l.gates
