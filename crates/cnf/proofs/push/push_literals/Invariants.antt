use Rattle.std.proofs.Common.{◌≡◌, ◌++◌, map, take}
use Rattle.cnf.specs.Clauses.{literal}
use Rattle.cnf.proofs.push.push_literals.Given as goal

abbrev pub invariant-loop-lit : goal.invariant-loop-lit
invariant-loop-lit l = l.literals.items ≡ l.initial.literals.items ++ map (literal l.time.max_var l.time.offset) (take l.lit-index l.lits)
