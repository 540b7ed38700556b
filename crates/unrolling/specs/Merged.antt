-- Variables that are equal wherever the functions have their values (SAT sweeping, Kuehlmann and Krohm 1997).
use Rattle.std.specs.Prelude.{◌≡◌, ◌≢◌, ℕ, ◌+◌, ◌<◌, ◌≤◌, Bool, List, [], ◌∷◌, length, slice_index_or, ◌⊎◌, ℤ, pos, neg_ℤ, unsigned_abs}
use Rattle.lrat.specs.Literals.{is_true, IsLiteral}
use Rattle.cnf.specs.Meaning.{AreSatisfied}
use Rattle.unrolling.specs.declared.function.Function.{Function}
use Rattle.unrolling.specs.declared.encoder.Encoder.{Encoder}
use Rattle.unrolling.specs.Demands.{AreGiven, IsMore}
use Rattle.unrolling.specs.Encodings.{IsDefined}

-- the literal r is to k what the literal l is to its variable: the same or the negation
abbrev pub IsTurned : ℤ → ℤ → ℤ → Type 0
IsTurned l k r = ((l ≡ pos (unsigned_abs l)) × (r ≡ k)) ⊎ ((neg_ℤ l ≡ pos (unsigned_abs l)) × (r ≡ neg_ℤ k))

-- the literal that is listed for a variable, or 0
abbrev pub equal_at : List ℤ → ℕ → ℤ
equal_at equals x = slice_index_or equals x (pos 0)

-- the literals are as true as one another where the clauses are satisfied
abbrev pub AreEqualBy : List (List ℤ) → ℤ → ℤ → Type 0
AreEqualBy cs l k = (v : ℕ → Bool) → AreSatisfied v cs → is_true v l ≡ is_true v k

-- the literals are as true as one another where the functions have their values
abbrev pub AreEqualIn : List Function → ℤ → ℤ → Type 0
AreEqualIn fs l k = (v : ℕ → Bool) → IsDefined fs v → is_true v l ≡ is_true v k

-- what is listed for a variable is a literal of the first n variables that is equal to it
pub record AreMerged (fs : List Function) (n : ℕ) (equals : List ℤ) : Type 0 where
  pub range : (x : ℕ) → equal_at equals x ≢ pos 0 → IsLiteral n (equal_at equals x)
  pub equal : (x : ℕ) → equal_at equals x ≢ pos 0 → AreEqualIn fs (equal_at equals x) (pos x)

-- a solver with so many variables has the clauses of each marked variable, and none that say more than the functions
pub record AreAsked (e : Encoder) (marks : List Bool) (vars : ℕ) (cs : List (List ℤ)) : Type 0 where
  pub places : length marks ≡ vars + 1
  pub small : vars ≤ 2147483647
  pub given : AreGiven e marks cs
  pub more : IsMore e.functions.items ((pos 1 ∷ []) ∷ []) cs

-- where the solver has all variables it has the clauses of the marked ones, and the listed literals are equal
pub record IsReady (e : Encoder) (marks : List Bool) (vars : ℕ) (cs : List (List ℤ)) (equals : List ℤ) : Type 0 where
  pub asked : e.variables < length marks → AreAsked e marks vars cs
  pub merged : AreMerged e.functions.items e.variables equals
