-- Values that stand where a list has none.
use Rattle.graph.specs.declared.circuit.Lit.{Lit}
use Rattle.graph.specs.declared.circuit.Latch.{Latch}
use Rattle.graph.specs.declared.circuit.Gate.{Gate}

abbrev pub blank_lit : Lit
blank_lit = record { 0 = 0 }

abbrev pub blank_latch : Latch
blank_latch = record { lit = blank_lit; next = blank_lit; reset = blank_lit }

abbrev pub blank_gate : Gate
blank_gate = record { lhs = blank_lit; rhs0 = blank_lit; rhs1 = blank_lit }
