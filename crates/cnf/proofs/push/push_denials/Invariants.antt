use Rattle.std.proofs.Common.{◌≡◌, ◌++◌, map, take}
use Rattle.cnf.specs.Clauses.{denial}
use Rattle.cnf.proofs.push.push_denials.Given as goal

abbrev pub invariant-loop-lit : goal.invariant-loop-lit
invariant-loop-lit l = l.literals.items ≡ l.initial.literals.items ++ map (denial l.time.max_var l.time.offset) (take l.lit-index l.lits)
