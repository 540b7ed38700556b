-- When lists of clauses over the latches exclude a literal.
use Rattle.std.specs.Prelude.{◌≢◌, ℕ, Bool, List, map, All, AllPairs, ℤ}
use Rattle.graph.specs.declared.circuit.Lit.{Lit}
use Rattle.graph.specs.declared.circuit.Property.{Property}
use Rattle.graph.specs.declared.parts.Parts.{Parts}
use Rattle.graph.specs.Circuits.{variable, IsWatched, IsSafe}
use Rattle.cnf.specs.Clauses.{init_clauses, step_clauses, bad_clauses}
use Rattle.cnf.specs.Formulas.{IsOverLatches, bad_literal}
use Rattle.cnf.specs.Meaning.{AreSatisfied}

-- nothing satisfies the clauses
abbrev pub AreContradictory : List (List ℤ) → Type 0
AreContradictory cs = (v : ℕ → Bool) → AreSatisfied v cs → ⊥

-- nothing satisfies any of the invariant's cases
pub record IsInductive (m : Parts) (inv : List (List Lit)) (a : Lit) : Type 0 where
  pub begins : All (λ c. AreContradictory (init_clauses m c)) inv
  pub goes_on : All (λ c. AreContradictory (step_clauses m inv c)) inv
  pub excludes : AreContradictory (bad_clauses m inv a)

-- the clause is over the latches, and none of its literals is repeated or opposed
pub record IsProper (m : Parts) (c : List Lit) : Type 0 where
  pub over : IsOverLatches m c
  pub apart : AllPairs (λ u v. u ≢ v) (map variable c)

-- such clauses, of which nothing satisfies any case for the first bad literal
pub record IsInvariant (m : Parts) (inv : List (List Lit)) : Type 0 where
  pub clauses : All (IsProper m) inv
  pub inductive : IsInductive m inv (bad_literal m 0)

-- an inductive invariant that excludes the literal which a property watches makes the circuit safe
abbrev pub SafetyLaw : Parts → List (List Lit) → Type 0
SafetyLaw m inv = (p : Property) (a : Lit) → IsWatched m p a → IsInductive m inv a → IsSafe m p
