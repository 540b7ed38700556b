-- Clauses that say that latches are equal.
use Rattle.std.specs.Prelude.{◌+◌, ◌≤◌, ◌==◌, if◌then◌else◌, List, length}
use Rattle.graph.specs.declared.circuit.Lit.{Lit}
use Rattle.graph.specs.declared.circuit.Latch.{Latch}
use Rattle.graph.specs.declared.parts.Parts.{Parts}
use Rattle.cnf.specs.Clauses.{init_clauses}
use Rattle.cnf.specs.Invariants.{AreContradictory, IsProper}

-- the literal of a latch that has a reset which is true at first
abbrev pub high_of : Latch → Lit
high_of l = if l.reset.0 == 1 then l.lit else record { 0 = l.lit.0 + 1 }

-- the literal of such a latch that is false at first
abbrev pub low_of : Latch → Lit
low_of l = if l.reset.0 == 1 then record { 0 = l.lit.0 + 1 } else l.lit

-- a short clause over the latches that holds in every first state
pub record IsEquality (m : Parts) (c : List Lit) : Type 0 where
  pub proper : IsProper m c
  pub first : AreContradictory (init_clauses m c)
  pub short : length c ≤ 2
