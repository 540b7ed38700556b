use Rattle.std.proofs.Common.{◌≡◌, ◌+◌, take}
use Rattle.lrat.specs.Proofs.{numbered_from}
use Rattle.lrat.specs.Shared.{unit_clauses}
use Rattle.lrat.proofs.stack.Stack.add_units.Given as goal

abbrev pub invariant-loop-unit : goal.invariant-loop-unit
invariant-loop-unit l = record {
  base : l.self.base ≡ l.initial.self.base;
  present : l.self.present ≡ numbered_from (l.initial.self.top + 1) (unit_clauses (take l.unit-index l.units)) l.initial.self.present;
  top : l.self.top ≡ l.initial.self.top + l.unit-index;
}
