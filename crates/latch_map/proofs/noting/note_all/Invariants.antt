use Rattle.graph.specs.Circuits.{Valuation}
use Rattle.latch_map.specs.Equal.{AreValues, IsKeptBy}
use Rattle.latch_map.proofs.noting.note_all.Given as goal

abbrev pub invariant-loop-place : goal.invariant-loop-place
invariant-loop-place l = (w : Valuation) → IsKeptBy l.clauses w → AreValues w l.initial.table → AreValues w l.table
