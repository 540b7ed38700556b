-- Cubes of states, and where each state of one leads (Bradley 2011; Een, Mishchenko, Brayton 2011).
--
-- A cube is written as the clause that is false in its states alone.
use Rattle.std.specs.Prelude.{◌≡◌, ℕ, ◌+◌, ◌<◌, Bool, true, false, not, List, [], ◌∷◌, Option, None, Some, slice_index_or, length, Contains}
use Rattle.graph.specs.declared.circuit.Lit.{Lit}
use Rattle.graph.specs.declared.circuit.Latch.{Latch}
use Rattle.graph.specs.declared.parts.Parts.{Parts}
use Rattle.graph.specs.Circuits.{Valuation, variable, place, value_of, Agrees, state_of, inputs_of, next_state}
use Rattle.cnf.specs.Formulas.{bad_literal}
use Rattle.cnf.specs.Meaning.{KeepsNow}
use Rattle.cones.specs.Marks.{IsMarked}
use Rattle.cones.specs.Reach.{IsGateTable}
use Rattle.states.specs.declared.state_lit.StateLit.{StateLit}
use Rattle.states.specs.States.{latch_at, Denies}
use Rattle.ic3_step.specs.States.{AllSet}
use Rattle.ic3_blocking.specs.declared.lift.Lifting.{Lifting}
use Rattle.ic3_blocking.specs.declared.obligation.Obligation.{Obligation}

-- in each state of the cube, these inputs keep the constraints and make the literals true
abbrev pub Justifies : Parts → List StateLit → List Bool → List Lit → Type 0
Justifies m c inputs lits = (x : Valuation) → Agrees m x → Denies (state_of m x) c → inputs_of m x ≡ inputs → KeepsNow m x × AllSet x lits

-- each state of the cube is a predecessor: these inputs keep the constraints, and the step ends in the cube behind
abbrev pub ArePredecessors : Parts → List StateLit → List Bool → List StateLit → Type 0
ArePredecessors m c inputs behind = (x : Valuation) → Agrees m x → Denies (state_of m x) c → inputs_of m x ≡ inputs → KeepsNow m x × Denies (next_state m x) behind

-- each state of the cube is bad: these inputs keep the constraints, and set the bad literal
abbrev pub AreBad : Parts → List StateLit → List Bool → Type 0
AreBad m c inputs = (x : Valuation) → Agrees m x → Denies (state_of m x) c → inputs_of m x ≡ inputs → KeepsNow m x × (value_of x (bad_literal m 0) ≡ true)

-- each obligation's states are predecessors of the states of the next one, and those of the last are bad
abbrev pub ReachBad : Parts → List Obligation → Type 0
ReachBad m [] = Unit {0}
ReachBad m (o ∷ []) = AreBad m o.clause o.inputs
ReachBad m (o ∷ p ∷ os) = ArePredecessors m o.clause o.inputs p.clause × ReachBad m (p ∷ os)

-- the states of an obligation at this place are bad where none is next, or predecessors of the states of the next one, which has
-- a place before
abbrev pub HasSuccessor : Parts → List Obligation → ℕ → Obligation → Option ℕ → Type 0
HasSuccessor m os i o None = AreBad m o.clause o.inputs
HasSuccessor m os i o (Some k) = (k < i) × ((d : Obligation) → ArePredecessors m o.clause o.inputs (slice_index_or os k d).clause)

-- the clause denies the value that each marked latch has in the state
abbrev pub HasMarked : List Latch → List Bool → List Bool → List StateLit → Type 0
HasMarked latches state marks c = (i : ℕ) (d : Latch) → i < length latches → IsMarked marks (variable (slice_index_or latches i d).lit) →
    Contains c (record { latch = i; value = not (latch_at state i) })

-- the table of the circuit's gates, and a mark for each variable, of which none is set
pub record IsReady (m : Parts) (l : Lifting) : Type 0 where
  pub table : IsGateTable m l.table
  pub places : length l.marks.items ≡ m.max_var + 1
  pub clear : (v : ℕ) → place l.marks.items v ≡ false
