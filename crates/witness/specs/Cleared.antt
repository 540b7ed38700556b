-- What a violation rests on.
use Rattle.std.specs.Prelude.{◌≡◌, ℕ, zero, suc, Bool, true, List, [], ◌∷◌, Option, None, Some, if◌then◌else◌, All}
use Rattle.graph.specs.declared.circuit.Lit.{Lit}
use Rattle.graph.specs.declared.circuit.Property.{Property}
use Rattle.graph.specs.declared.circuit.Property.TheVariants.{Bad, Justice, Output}
use Rattle.graph.specs.declared.parts.Parts.{Parts}
use Rattle.graph.specs.Circuits.{Valuation, value_of, variable, place, next_state}
use Rattle.simulate.specs.Starts.{Starts}
use Rattle.stimulus.specs.declared.value.Stimulus.{Stimulus}
use Rattle.stimulus.specs.declared.value.Stimulus.TheVariants.{Holds, Violated, Unknown}
use Rattle.stimulus.specs.Causes.{KeepsAt}
use Rattle.stimulus.specs.Courses.{Course, IsAt, state_after}
use Rattle.stimulus.specs.Shown.{Shows}
use Rattle.witness.specs.Completions.{Completes}
use Rattle.witness.specs.declared.cleared.Cleared.{Cleared}

-- as many lines as rows, each of which completes its row
abbrev pub CompleteAll : List (List (Option Bool)) → List (List Bool) → Type 0
CompleteAll [] [] = Unit {0}
CompleteAll [] (line ∷ lines) = ⊥
CompleteAll (row ∷ rows) [] = ⊥
CompleteAll (row ∷ rows) (line ∷ lines) = Completes row line × CompleteAll rows lines

-- it has the property, and each value that was left
abbrev pub IsClearedOf : Cleared → Stimulus → Type 0
IsClearedOf c (Holds property) = ⊥
IsClearedOf c (Violated property initial inputs) = (property ≡ c.property) × Completes c.initial initial × CompleteAll c.inputs inputs
IsClearedOf c (Unknown property) = ⊥

-- a bad literal, or an output
abbrev pub IsSafety : Property → Type 0
IsSafety (Bad n) = Unit {0}
IsSafety (Justice n) = ⊥
IsSafety (Output n) = Unit {0}

-- whatever stands in place of what was cleared, with each latch at its reset, the violation is shown
abbrev pub IsEnough : Parts → Cleared → Type 0
IsEnough m c = (state : List Bool) (lines : List (List Bool)) → Starts m.latches state → Completes c.initial state → CompleteAll c.inputs lines →
    Shows m (Violated c.property state lines)

-- the value of a literal, where it is marked
abbrev pub kept_by : Valuation → List Bool → Lit → Option Bool
kept_by w marks a = if place marks (variable a) then Some (value_of w a) else None

-- each valuation keeps the constraints, and makes the literals of its goal true
abbrev pub AreMet : Parts → List (List Lit) → List Valuation → Type 0
AreMet m [] [] = Unit {0}
AreMet m [] (w ∷ r) = ⊥
AreMet m (goal ∷ goals) [] = ⊥
AreMet m (goal ∷ goals) (w ∷ r) = (KeepsAt m w × All (λ a. value_of w a ≡ true) goal) × AreMet m goals r

-- the literal at the last time, and nothing at those before it
abbrev pub goals_for : ℕ → Lit → List (List Lit)
goals_for zero a = (a ∷ []) ∷ []
goals_for (suc n) a = [] ∷ goals_for n a

-- where a state and inputs complete these, each literal is true
abbrev pub AreTrueFrom : Parts → List (Option Bool) → List (Option Bool) → List Lit → Type 0
AreTrueFrom m state row lits = (st line : List Bool) (w : Valuation) → Completes state st → Completes row line → IsAt m st line w → All (λ a. value_of w a ≡ true) lits

-- where a state and inputs complete these, a time meets the goal, and leads to a state that completes what is wanted later
abbrev pub IsTimeEnough : Parts → List Lit → List (Option Bool) → List (Option Bool) → List (Option Bool) → Type 0
IsTimeEnough m goal later state row = (st line : List Bool) (w : Valuation) → Completes state st → Completes row line → IsAt m st line w →
    (KeepsAt m w × All (λ a. value_of w a ≡ true) goal) × Completes later (next_state m w)

-- from each state and inputs that complete these a course meets the goals, and leads to a state that completes what is wanted in the end
abbrev pub AreEnough : Parts → List (List Lit) → List (Option Bool) → List (Option Bool) → List (List (Option Bool)) → Type 0
AreEnough m goals closing state rows = (st : List Bool) (lines : List (List Bool)) (r : List Valuation) → Completes state st → CompleteAll rows lines → Course m st lines r →
    AreMet m goals r × Completes closing (state_after m st r)
