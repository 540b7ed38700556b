-- Signals in classes.
use Rattle.std.specs.Prelude.{◌≡◌, ℕ, true, List, [], ◌∷◌, length, slice_index_or, Option, None, Some, nat_lt, ◌==◌, if◌then◌else◌}
use Rattle.graph.specs.declared.circuit.Lit.{Lit}
use Rattle.graph.specs.Circuits.{variable}
use Rattle.cnf.specs.Clauses.{along}
use Rattle.signal_classes.specs.declared.signal.Signal.{Signal}
use Rattle.signal_classes.specs.declared.signal.Equal.{Equal}

-- the signals, and for each the place of the first one of its class and how many classes there were before that; how many classes
-- there are
pub record Classed : Type 0 where
  pub signals : List Signal
  pub leads : List ℕ
  pub births : List ℕ
  pub count : ℕ

-- what stands at a place of a list, or 0
abbrev pub place_at : List ℕ → ℕ → ℕ
place_at places k = slice_index_or places k 0

-- the place of the first signal of the class of the signal at a place
abbrev pub lead_of : Classed → ℕ → ℕ
lead_of c k = place_at c.leads k

-- the first signal of a class is the first of its own class
abbrev pub AreLed : List ℕ → Type 0
AreLed leads = (k : ℕ) → place_at leads (place_at leads k) ≡ place_at leads k

-- each is in the class of its lead, by other leads
abbrev pub AreWithin : List ℕ → List ℕ → Type 0
AreWithin others leads = (k : ℕ) → place_at others (place_at leads k) ≡ place_at others k

-- what is in one class now was in one class before
abbrev pub Refines : List ℕ → List ℕ → Type 0
Refines before after = (a b : ℕ) → place_at after a ≡ place_at after b → place_at before a ≡ place_at before b

-- the signal at a place, or the constant
abbrev pub signal_of : Classed → ℕ → Signal
signal_of c k = slice_index_or c.signals k (record { now = record { 0 = 0 }; later = record { 0 = 0 } })

-- the signal at a place and the first of its class, where that is another one
abbrev pub equal_of : Classed → ℕ → Option Equal
equal_of c k = if lead_of c k == k then None else if nat_lt k (length c.signals) then Some (record { one = signal_of c k; other = signal_of c (lead_of c k) }) else None

-- the clauses that say that two literals are equal, or that the one is false
abbrev pub clauses_of : Lit → Lit → List (List Lit)
clauses_of a b = if variable b == 0 then (along true a ∷ []) ∷ [] else (along true a ∷ b ∷ []) ∷ (a ∷ along true b ∷ []) ∷ []

abbrev pub clauses_said : Option Equal → List (List Lit)
clauses_said None = []
clauses_said (Some e) = clauses_of e.one.now e.other.now

-- the clauses that say of the signal at a place that it is equal to the first of its class
abbrev pub clauses_at : Classed → ℕ → List (List Lit)
clauses_at c k = clauses_said (equal_of c k)
