-- Clauses over states as clauses over a circuit's literals.
use Rattle.std.specs.Prelude.{◌≡◌, ℕ, ◌+◌, ◌<◌, true, false, if◌then◌else◌, nat_lt, List, [], ◌∷◌, map, filter, length, slice_index_or}
use Rattle.graph.specs.declared.circuit.Lit.{Lit}
use Rattle.graph.specs.declared.circuit.Latch.{Latch}
use Rattle.states.specs.declared.state_lit.StateLit.{StateLit}
use Rattle.ic3_frames.specs.declared.frames.Entry.{Entry}

-- the literal of a latch, by its position
abbrev pub latch_lit : List Latch → ℕ → Lit
latch_lit latches i = slice_index_or (map (λ (l : Latch). l.lit) latches) i (record { 0 = 0 })

-- the literal that is true where the latch has the value: the latch's, or its negation
abbrev pub circuit_lit : List Latch → StateLit → Lit
circuit_lit latches a = if a.value then latch_lit latches a.latch else record { 0 = (latch_lit latches a.latch).0 + 1 }

-- the clauses above a level
abbrev pub clauses_above : List Entry → ℕ → List (List StateLit)
clauses_above entries k = map (λ (e : Entry). e.clause) (filter (λ (e : Entry). nat_lt k e.level) entries)

-- the same, as clauses over the circuit's literals
abbrev pub invariant_above : List Latch → List Entry → ℕ → List (List Lit)
invariant_above latches entries k = map (map (circuit_lit latches)) (clauses_above entries k)

-- the latch of the literal is reset to its value
pub record IsResetLit (latches : List Latch) (a : StateLit) : Type 0 where
  pub inside : a.latch < length latches
  pub low : (d : Latch) → a.value ≡ false → (slice_index_or latches a.latch d).reset.0 ≡ 0
  pub high : (d : Latch) → a.value ≡ true → (slice_index_or latches a.latch d).reset.0 ≡ 1

-- the clause of one literal at level 0
abbrev pub reset_entry : StateLit → Entry
reset_entry a = record { clause = a ∷ []; level = 0 }

-- an entry of level 0 with one literal, which is a reset
abbrev pub IsResetEntry : List Latch → Entry → Type 0
IsResetEntry latches e = (a : StateLit) × IsResetLit latches a × (e ≡ reset_entry a)
