use Rattle.std.proofs.Common.{◌≡◌, map, take, All}
use Rattle.graph.specs.declared.circuit.Latch.{Latch}
use Rattle.graph.specs.Circuits.{Valuation}
use Rattle.latch_map.specs.declared.mapping.Line.{Line}
use Rattle.latch_map.specs.Equal.{AreValues, IsLineIn}
use Rattle.latch_map.proofs.mapping.lines_of.Given as goal

abbrev pub invariant-loop-latch : goal.invariant-loop-latch
invariant-loop-latch l = record {
  latches : map (λ (y : Line). y.latch) l.lines ≡ map (λ (y : Latch). y.lit) (take l.latch-index l.latches);
  lines : (w : Valuation) → AreValues w l.table → AreValues w l.ones → AreValues w l.others → All (IsLineIn w) l.lines;
}
