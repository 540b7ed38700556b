use Rattle.std.proofs.Common.{◌≡◌, map, take}
use Rattle.cnf.specs.Clauses.{denial}
use Rattle.inductive_proofs.proofs.showing.denials.Given as goal

abbrev pub invariant-loop-lit : goal.invariant-loop-lit
invariant-loop-lit l = l.units.items ≡ map (denial l.time.max_var l.time.offset) (take l.lit-index l.clause)
