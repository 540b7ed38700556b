use Rattle.graph.specs.Circuits.{Valuation}
use Rattle.latch_map.specs.Equal.{AreValues}
use Rattle.latch_map.proofs.table.lead_all_back.Given as goal

abbrev pub invariant-loop-latch : goal.invariant-loop-latch
invariant-loop-latch l = (w : Valuation) → AreValues w l.table → AreValues w l.initial.first → AreValues w l.first
