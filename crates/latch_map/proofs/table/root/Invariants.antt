use Rattle.std.proofs.Common.{◌≡◌}
use Rattle.graph.specs.Circuits.{Valuation, value_of}
use Rattle.latch_map.specs.Equal.{AreValues}
use Rattle.latch_map.proofs.table.root.Given as goal

abbrev pub invariant-loop : goal.invariant-loop
invariant-loop l = (w : Valuation) → AreValues w l.table → value_of w l.root ≡ value_of w l.fn.lit
