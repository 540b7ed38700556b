use Rattle.std.proofs.Common.{◌≡◌, map, take}
use Rattle.base.specs.Budget.{Spends}
use Rattle.cnf.specs.Clauses.{step_units}
use Rattle.certify.specs.Sections.{AreClosed}
use Rattle.certify.proofs.proving.close_steps.Given as goal

abbrev pub invariant-loop-place : goal.invariant-loop-place
invariant-loop-place l = record {
  formula : l.cases.refuter.formula ≡ l.initial.cases.refuter.formula;
  spends : Spends l.initial.budget l.budget;
  closed : AreClosed l.cases;
  units : l.cases.units ≡ map (step_units l.circuit) (take l.place l.invariant');
}
