-- Which clauses of an invariant a case needs.
use Rattle.std.specs.Prelude.{◌≡◌, ℕ, ◌+◌, ◌<◌, ◌⊎◌, Bool, List, ◌++◌, map, length, All, Contains, ℤ}
use Rattle.base.specs.Budget.{Steps}
use Rattle.graph.specs.declared.circuit.Lit.{Lit}
use Rattle.graph.specs.declared.parts.Parts.{Parts}
use Rattle.lrat.specs.Literals.{IsSatisfied}
use Rattle.lrat.specs.Shared.{unit_clauses}
use Rattle.solver.specs.Answers.{AreTrue}
use Rattle.cnf.specs.Clauses.{literal, time_clauses, init_clauses, shared_clauses, step_units}
use Rattle.cnf.specs.Formulas.{clause_at}
use Rattle.cnf.specs.Invariants.{AreContradictory, IsInductive}
use Rattle.cnf.specs.Meaning.{AreSatisfied}
use Rattle.inductive_subset.specs.Guards.{IsMarked}

-- nothing satisfies the circuit at one time and the marked clauses, and makes the units true
abbrev pub IsExcluded : Parts → List (List Lit) → List Bool → List ℤ → Type 0
IsExcluded m inv marks units =
    (v : ℕ → Bool) → AreSatisfied v (time_clauses m 0) → ((i : ℕ) → IsMarked marks i → IsSatisfied v (map (literal m.max_var 0) (clause_at inv i))) → AreTrue v units → ⊥

-- the marked clauses exclude the step case of the clause at a place
abbrev pub IsHeld : Parts → List (List Lit) → List Bool → ℕ → Type 0
IsHeld m inv marks i = IsExcluded m inv marks (step_units m (clause_at inv i))

-- these are the marked clauses
pub record AreMarked (inv : List (List Lit)) (marks : List Bool) (cs : List (List Lit)) : Type 0 where
  pub each : (i : ℕ) → i < length inv → IsMarked marks i → Contains cs (clause_at inv i)
  pub only : All (λ c. (i : ℕ) × (i < length inv) × IsMarked marks i × (clause_at inv i ≡ c)) cs

-- each of the clauses holds in every first state
abbrev pub HoldAtFirst : Parts → List (List Lit) → Type 0
HoldAtFirst m inv = All (λ c. AreContradictory (init_clauses m c)) inv

-- an assignment satisfies the circuit at one time and all clauses of the invariant, and makes the units true
abbrev pub IsPossible : Parts → List (List Lit) → List ℤ → Type 0
IsPossible m inv units = (v : ℕ → Bool) × AreSatisfied v (shared_clauses m inv ++ unit_clauses units)

-- one satisfies a clause's step case
abbrev pub IsLeft : Parts → List (List Lit) → Type 0
IsLeft m inv = (i : ℕ) × (i < length inv) × IsPossible m inv (step_units m (clause_at inv i))

-- why no clauses are kept: the invariant is not inductive or does not exclude the literal, the budget is exhausted, or the circuit and the
-- guards have more variables than a solver
abbrev pub AreUnkept : Parts → List (List Lit) → Lit → Steps → Type 0
AreUnkept m inv a after = (IsInductive m inv a → ⊥) ⊎ ((after.left ≡ 0) ⊎ (2147483647 < m.max_var + 1 + length inv))
