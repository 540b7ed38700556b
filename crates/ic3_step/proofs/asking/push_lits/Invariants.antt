use Rattle.std.proofs.Common.{◌≡◌, ◌++◌, map, take}
use Rattle.cnf.specs.Clauses.{literal}
use Rattle.ic3_step.proofs.asking.push_lits.Given as goal

abbrev pub invariant-loop-lit : goal.invariant-loop-lit
invariant-loop-lit l = l.literals.items ≡ l.initial.literals.items ++ map (literal l.circuit.max_var 0) (take l.lit-index l.lits)
