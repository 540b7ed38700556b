-- What a solver has of a circuit at one time and of an invariant, each clause of which holds where its guard is assumed.
--
-- The circuit's variables come first, then the one that is true, then a guard for each clause of the invariant.
use Rattle.std.specs.Prelude.{◌≡◌, ℕ, ◌+◌, ◌<◌, ◌≤◌, ◌⊎◌, true, false, Bool, List, ◌∷◌, length, map, slice_index_or, All, Contains, ℤ, pos, neg_ℤ, unsigned_abs}
use Rattle.graph.specs.declared.circuit.Lit.{Lit}
use Rattle.graph.specs.declared.parts.Parts.{Parts}
use Rattle.cnf.specs.Clauses.{literal, time_clauses}
use Rattle.cnf.specs.Formulas.{clause_at}
use Rattle.inductive_subset.specs.declared.needed.Needed.{Needed}

-- the guard of the clause at a place
abbrev pub guard_of : Parts → ℕ → ℤ
guard_of m i = pos (m.max_var + 2 + i)

-- the clause at a place, or not its guard
abbrev pub guarded_clause : Parts → List (List Lit) → ℕ → List ℤ
guarded_clause m inv i = neg_ℤ (guard_of m i) ∷ map (literal m.max_var 0) (clause_at inv i)

-- a clause of the circuit at one time, or one of the invariant's under its guard
abbrev pub IsOfCase : Parts → List (List Lit) → List ℤ → Type 0
IsOfCase m inv c = Contains (time_clauses m 0) c ⊎ ((i : ℕ) × (i < length inv) × (c ≡ guarded_clause m inv i))

-- the solver has room for the guards, all these clauses, and no others
pub record IsLoaded (m : Parts) (inv : List (List Lit)) (vars : ℕ) (cs : List (List ℤ)) : Type 0 where
  pub room : vars ≡ m.max_var + 1 + length inv
  pub only : All (IsOfCase m inv) cs
  pub time : All (Contains cs) (time_clauses m 0)
  pub each : (i : ℕ) → i < length inv → Contains cs (guarded_clause m inv i)

-- the clause at a place is needed
abbrev pub IsMarked : List Bool → ℕ → Type 0
IsMarked marks i = slice_index_or marks i false ≡ true

-- a mark for each of this number of clauses, and the places of those that are marked
pub record IsFor (count : ℕ) (n : Needed) : Type 0 where
  pub places : length n.marks.items ≡ count
  pub listed : (i : ℕ) → IsMarked n.marks.items i → Contains n.order.items i
  pub below : All (λ i. i < count) n.order.items

-- the guard of one of this number of clauses, or one of the units
abbrev pub IsAssumed : Parts → ℕ → List ℤ → ℤ → Type 0
IsAssumed m count units l = ((i : ℕ) × (i < count) × (l ≡ guard_of m i)) ⊎ Contains units l

-- the guard of one of this number of clauses, or a literal of the circuit at one time
abbrev pub IsOfCore : Parts → ℕ → ℤ → Type 0
IsOfCore m count l = ((i : ℕ) × (i < count) × (l ≡ guard_of m i)) ⊎ (unsigned_abs l ≤ m.max_var + 1)

-- the places that were listed stay where they are
pub record IsLonger (old new : List ℕ) : Type 0 where
  pub more : length old ≤ length new
  pub same : (k : ℕ) → k < length old → slice_index_or new k 0 ≡ slice_index_or old k 0
