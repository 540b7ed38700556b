-- What stands beyond the ends of lists.
use Rattle.std.proofs.Common.{false}
use Rattle.graph.specs.declared.circuit.Lit.{Lit}
use Rattle.graph.specs.declared.circuit.Latch.{Latch}
use Rattle.states.specs.declared.state_lit.StateLit.{StateLit}

abbrev pub no_latch : Latch
no_latch = record { lit = record { 0 = 0 }; next = record { 0 = 0 }; reset = record { 0 = 0 } }

abbrev pub no_lit : Lit
no_lit = record { 0 = 0 }

abbrev pub no_state_lit : StateLit
no_state_lit = record { latch = 0; value = false }
