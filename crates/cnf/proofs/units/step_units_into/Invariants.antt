use Rattle.std.proofs.Common.{◌≡◌, take}
use Rattle.cnf.specs.Clauses.{step_units}
use Rattle.cnf.proofs.units.step_units_into.Given as goal

abbrev pub invariant-loop-lit : goal.invariant-loop-lit
invariant-loop-lit l = l.units.items ≡ step_units l.circuit (take l.lit-index l.clause)
