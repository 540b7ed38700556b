-- Frames: for each number of steps, clauses that hold in every state that this number of steps reaches (Bradley 2011; Een,
-- Mishchenko, Brayton 2011).
use Rattle.std.specs.Prelude.{◌≡◌, ◌+◌, ◌<◌, ◌≤◌, ◌⊎◌, ℕ, Bool, false, Option, Some, List, length, slice_index_or, All, AllPairs, Contains}
use Rattle.graph.specs.declared.circuit.Lit.{Lit}
use Rattle.graph.specs.declared.parts.Parts.{Parts}
use Rattle.graph.specs.Circuits.{Valuation, value_of, state_of, IsInitial, next_state}
use Rattle.states.specs.declared.state_lit.StateLit.{StateLit}
use Rattle.states.specs.States.{Denies, Holds, IsTime, IsPartOf}
use Rattle.ic3_frames.specs.declared.frames.Entry.{Entry}

-- the clause's latches are in rising order
abbrev pub IsRising : List StateLit → Type 0
IsRising c = AllPairs (λ a b. a.latch < b.latch) c

-- a clause over the latches by position, in rising order, so that none is repeated or opposed
pub record IsStateClause (m : Parts) (c : List StateLit) : Type 0 where
  pub inside : All (λ a. a.latch < length m.latches) c
  pub rising : IsRising c

-- the states of frame k: the clauses of level k and above hold
abbrev pub InFrame : List Entry → ℕ → List Bool → Type 0
InFrame entries k s = All (λ e. k ≤ e.level → Holds s e.clause) entries

-- the clause holds in every initial state
abbrev pub HoldsInitially : Parts → List StateLit → Type 0
HoldsInitially m c = (w : Valuation) → IsInitial m w → Holds (state_of m w) c

-- the clause holds after each step from a time in frame k that keeps the constraints
abbrev pub HoldsAfter : Parts → List Entry → ℕ → List StateLit → Type 0
HoldsAfter m entries k c = (w : Valuation) → IsTime m w → InFrame entries k (state_of m w) → Holds (next_state m w) c

-- the part holds after each such step from a state in which the clause holds
abbrev pub HoldsToward : Parts → List Entry → ℕ → List StateLit → List StateLit → Type 0
HoldsToward m entries k c part = (w : Valuation) → IsTime m w → InFrame entries k (state_of m w) → Holds (state_of m w) c → Holds (next_state m w) part

-- the clause itself does
abbrev pub HoldsOnward : Parts → List Entry → ℕ → List StateLit → Type 0
HoldsOnward m entries k c = HoldsToward m entries k c c

-- the bad literal is false at every time in frame k that keeps the constraints
abbrev pub Excludes : Parts → Lit → List Entry → ℕ → Type 0
Excludes m bad entries k = (w : Valuation) → IsTime m w → InFrame entries k (state_of m w) → value_of w bad ≡ false

-- a step leads from a time that keeps the constraints to a state in which the clause is false
abbrev pub IsFalseAfter : Parts → List StateLit → Type 0
IsFalseAfter m c = (w : Valuation) × IsTime m w × Denies (next_state m w) c

-- the clauses of frames 0 to top, of which the last is open, and clauses that could not be pushed
pub record Levels : Type 0 where
  pub entries : List Entry
  pub top : ℕ
  pub failed : List (List StateLit)

-- each clause is over the latches, holds at first, and after each step from the frame below its level; all frames but the
-- last exclude the bad literal; a step leads to where a clause that could not be pushed is false
pub record AreFrames (m : Parts) (bad : Lit) (f : Levels) : Type 0 where
  pub clauses : All (λ e. IsStateClause m e.clause) f.entries
  pub initial : All (λ e. HoldsInitially m e.clause) f.entries
  pub reached : All (λ e. (k : ℕ) → e.level ≡ k + 1 → HoldsAfter m f.entries k e.clause) f.entries
  pub excluded : (k : ℕ) → k < f.top → Excludes m bad f.entries k
  pub failed : All (IsFalseAfter m) f.failed

-- each state of the first frames is one of the second
abbrev pub AreWithin : List Entry → List Entry → Type 0
AreWithin es fs = (k : ℕ) (s : List Bool) → InFrame es k s → InFrame fs k s

-- the entry's level is no greater, and its clause has all these literals
abbrev pub IsSubsumed : List StateLit → ℕ → Entry → Type 0
IsSubsumed c level e = (e.level ≤ level) × IsPartOf c e.clause

-- it is not so, if both clauses are rising
abbrev pub IsNotSubsumed : List StateLit → ℕ → Entry → Type 0
IsNotSubsumed c level e = IsRising c → IsRising e.clause → IsSubsumed c level e → ⊥

-- the entry is the one at the place of the list that is excepted, if one is
abbrev pub IsExcepted : List Entry → Option ℕ → Entry → Type 0
IsExcepted es except e = (p : ℕ) × (except ≡ Some p) × (p < length es) × (e ≡ slice_index_or es p e)

-- the second entries are the first and one more, without those that it makes subsumption
pub record IsAdded (es fs : List Entry) (e : Entry) : Type 0 where
  pub newest : Contains fs e
  pub only : (x : Entry) → Contains fs x → Contains es x ⊎ (x ≡ e)
  pub each : All (λ x. Contains fs x ⊎ IsSubsumed e.clause e.level x) es
  pub lean : All (λ x. IsNotSubsumed e.clause e.level x ⊎ (x ≡ e)) fs
