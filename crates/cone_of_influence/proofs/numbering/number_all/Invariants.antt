use Rattle.std.proofs.Common.{◌≡◌, ◌≤◌, length}
use Rattle.cone_of_influence.specs.Numbers.{AreNumbersTo, IsSmall}
use Rattle.cone_of_influence.proofs.numbering.number_all.Given as goal

abbrev pub invariant-loop-variable : goal.invariant-loop-variable
invariant-loop-variable l = record {
  numbered : AreNumbersTo l.marks l.kept.items l.numbers l.variable;
  places : length l.numbers ≡ length l.initial.numbers;
  few : length l.kept.items ≤ l.variable;
  small : IsSmall l.numbers;
  kept_small : IsSmall l.kept.items;
}
