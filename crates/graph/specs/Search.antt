-- What the search for an order knows.
use Rattle.std.specs.Prelude.{◌≡◌, ℕ, ◌+◌, ◌<◌, ◌≢◌, ◌⊎◌, List, map, length, slice_index, slice_index_or, All, AllPairs, Contains, []}
use Rattle.graph.specs.declared.circuit.Gate.{Gate}
use Rattle.graph.specs.Circuits.{variable}
use Rattle.graph.specs.WellFormed.{Reads, Needs}
use Rattle.graph.specs.declared.ordering.Mark.{Mark}
use Rattle.graph.specs.declared.ordering.Mark.TheVariants.{Waiting, Open, Ordered, Stuck}
use Rattle.graph.specs.declared.ordering.Step.{Step}
use Rattle.graph.specs.declared.ordering.Step.TheVariants.{Enter, Finish, Stick}
use Rattle.graph.specs.Faults.{LeadsIntoCycle}

-- the variables that the gates define
abbrev pub lefts : List Gate → List ℕ
lefts gates = map (λ g. variable g.lhs) gates

-- the mark of a variable
abbrev pub mark_of : List Mark → ℕ → Mark
mark_of marks v = slice_index_or marks v Ordered

-- what is still to be done with a variable
abbrev pub weight : Mark → ℕ
weight Waiting = 2
weight Open = 1
weight Ordered = 0
weight Stuck = 0

-- the place of the gate that defines each variable
abbrev pub ArePlaces : List Gate → List ℕ → Type 0
ArePlaces gates places = (i : ℕ) → i < length gates → slice_index places (slice_index (lefts gates) i) ≡ i

-- what one right side asks for
abbrev pub Asks : List Mark → ℕ → Step → Type 0
Asks marks v (Enter u) = (u ≡ v) × (mark_of marks v ≡ Waiting)
Asks marks v Stick = (mark_of marks v ≡ Open) ⊎ (mark_of marks v ≡ Stuck)
Asks marks v Finish = mark_of marks v ≡ Ordered

-- what a gate asks for
abbrev pub StepIs : List Mark → Gate → Step → Type 0
StepIs marks g (Enter u) = Reads g u × (mark_of marks u ≡ Waiting)
StepIs marks g Stick = (v : ℕ) × Reads g v × ((mark_of marks v ≡ Open) ⊎ (mark_of marks v ≡ Stuck))
StepIs marks g Finish = (v : ℕ) → Reads g v → mark_of marks v ≡ Ordered

-- the variable of the gate at the k-th place of the order
abbrev pub left_in : List Gate → List ℕ → ℕ → ℕ
left_in gates order k = slice_index (lefts gates) (slice_index order k)

-- the variable stands in the order before place n, if it is a gate's
abbrev pub IsOrderedBefore : List Gate → List ℕ → ℕ → ℕ → Type 0
IsOrderedBefore gates order n v = Contains (lefts gates) v → (k : ℕ) × (k < n) × (left_in gates order k ≡ v)

-- what a mark says of its variable
abbrev pub Says : List Gate → List ℕ → List ℕ → ℕ → Mark → Type 0
Says gates order stack v Waiting = Contains (lefts gates) v
Says gates order stack v Open = Contains stack v
Says gates order stack v Ordered = IsOrderedBefore gates order (length order) v
Says gates order stack v Stuck = LeadsIntoCycle gates v

pub record IsSearch (gates : List Gate) (marks : List Mark) (order stack : List ℕ) : Type 0 where
  pub say : (v : ℕ) → Says gates order stack v (mark_of marks v)
  pub opened : (k : ℕ) → k < length stack → mark_of marks (slice_index stack k) ≡ Open
  pub gates_on : (k : ℕ) → k < length stack → Contains (lefts gates) (slice_index stack k)
  pub linked : (k : ℕ) → k + 1 < length stack → Needs gates (slice_index stack k) (slice_index stack (k + 1))
  pub distinct : AllPairs (λ u v. u ≢ v) stack
  pub in_range : All (λ i. i < length gates) order
  pub once : AllPairs (λ i k. i ≢ k) order
  pub ordered : (k : ℕ) → k < length order → mark_of marks (left_in gates order k) ≡ Ordered
  pub before : (k : ℕ) (v : ℕ) (d : Gate) → k < length order → Reads (slice_index_or gates (slice_index order k) d) v → IsOrderedBefore gates order k v

-- the search has been through all gates
pub record IsEnded (gates : List Gate) (marks : List Mark) (order : List ℕ) : Type 0 where
  pub search : IsSearch gates marks order []
  pub none_waiting : (v : ℕ) → mark_of marks v ≢ Waiting
