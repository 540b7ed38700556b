use Rattle.std.specs.HashMap.{get}
use Rattle.shrink.specs.Hashed.{AreCarried}
use Rattle.shrink.specs.Making.{AreMade, IsTable, same_sides}
use Rattle.shrink.proofs.carrying.carry_gates.Given as goal

abbrev pub invariant-loop-position : goal.invariant-loop-position
invariant-loop-position l = record {
  made : AreMade l.first l.making.gates;
  table : IsTable l.first l.making.gates (get same_sides l.making.table);
  carried : AreCarried l.parts l.order l.first l.fn.image l.making.gates l.image l.position-index;
}
