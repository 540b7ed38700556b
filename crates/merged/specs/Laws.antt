-- What a circuit with merged latches says of the circuit.
use Rattle.std.specs.Prelude.{◌≡◌, ◌↔◌, ℕ, Bool, List, ◌++◌, map, All}
use Rattle.graph.specs.declared.circuit.Lit.{Lit}
use Rattle.graph.specs.declared.circuit.Property.TheVariants.{Bad}
use Rattle.graph.specs.declared.parts.Parts.{Parts}
use Rattle.graph.specs.Circuits.{Valuation, value_of, state_of, inputs_of, IsValuation, Agrees, next_state, IsRun, KeepsConstraints}
use Rattle.stimulus.specs.declared.value.Stimulus.TheVariants.{Violated}
use Rattle.stimulus.specs.Shown.{ShowsBad}
use Rattle.cnf.specs.Clauses.{init_clauses, step_clauses}
use Rattle.cnf.specs.Invariants.{AreContradictory, IsProper, IsInvariant}
use Rattle.cnf.specs.Meaning.{HoldsClause}
use Rattle.engine.specs.Bounds.{IsClear}

-- clauses over the latches that hold in every first state, and after each step from a state that satisfies all of them
pub record AreInductive (m : Parts) (cs : List (List Lit)) : Type 0 where
  pub proper : All (IsProper m) cs
  pub begins : All (λ c. AreContradictory (init_clauses m c)) cs
  pub goes_on : All (λ c. AreContradictory (step_clauses m cs c)) cs

-- what the circuits show has the same values
pub record ShowsSame (m s : Parts) (w : Valuation) : Type 0 where
  pub states : state_of s w ≡ state_of m w
  pub inputs : inputs_of s w ≡ inputs_of m w
  pub nexts : next_state s w ≡ next_state m w
  pub bad : map (value_of w) s.bad ≡ map (value_of w) m.bad
  pub constraints : map (value_of w) s.constraints ≡ map (value_of w) m.constraints

-- where the clauses hold, a valuation agrees with both circuits or with none, and they show the same
abbrev pub SameLaw : Parts → Parts → List (List Lit) → Type 0
SameLaw m s cs = (w : Valuation) → IsValuation m w → All (HoldsClause w) cs → (Agrees m w ↔ Agrees s w) × ShowsSame m s w

-- the circuits have the same runs that keep the constraints
abbrev pub RunsLaw : Parts → Parts → List (List Lit) → Type 0
RunsLaw m s cs = AreInductive m cs → (r : List Valuation) → (IsRun m r × KeepsConstraints m r) ↔ (IsRun s r × KeepsConstraints s r)

-- a run of the second circuit that shows the bad literal shows that of the first
abbrev pub ViolationLaw : Parts → Parts → List (List Lit) → Type 0
ViolationLaw m s cs = AreInductive m cs → (initial : List Bool) (inputs : List (List Bool)) →
    ShowsBad s (Violated (Bad 0) initial inputs) → ShowsBad m (Violated (Bad 0) initial inputs)

-- where no run of at most this number of steps sets the bad literal of the second circuit, none sets that of the first
abbrev pub ClearLaw : Parts → Parts → List (List Lit) → Type 0
ClearLaw m s cs = AreInductive m cs → (steps : ℕ) → IsClear s (Bad 0) steps → IsClear m (Bad 0) steps

-- an invariant of the second circuit, with the clauses before it, is one of the first
abbrev pub InvariantLaw : Parts → Parts → List (List Lit) → Type 0
InvariantLaw m s cs = AreInductive m cs → (inv : List (List Lit)) → IsInvariant s inv → IsInvariant m (cs ++ inv)

-- all of them
pub record AreLaws (m s : Parts) (cs : List (List Lit)) : Type 0 where
  pub same : SameLaw m s cs
  pub runs : RunsLaw m s cs
  pub violation : ViolationLaw m s cs
  pub clear : ClearLaw m s cs
  pub invariants : InvariantLaw m s cs
