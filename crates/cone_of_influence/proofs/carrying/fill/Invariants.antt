use Rattle.std.proofs.Common.{◌≡◌, ◌≤◌, ◌++◌, drop}
use Rattle.cone_of_influence.specs.Reduced.{filled}
use Rattle.cone_of_influence.proofs.carrying.fill.Given as goal

abbrev pub invariant-loop-filler : goal.invariant-loop-filler
invariant-loop-filler l = record {
  filled_in : l.all ++ filled (drop l.filler-index l.fillers) (drop l.next l.values) ≡ filled l.fillers l.values;
  few : l.next ≤ l.filler-index;
}
