use Rattle.std.proofs.Common.{◌≡◌, take}
use Rattle.lrat.specs.Shelves.{slots_from}
use Rattle.lrat.proofs.shelf.numbered.Given as goal

abbrev pub invariant-loop-index : goal.invariant-loop-index
invariant-loop-index l = record {
  vars : l.all.vars ≡ l.row.vars;
  slots : l.all.slots ≡ take l.index (slots_from 1 l.formula);
}
