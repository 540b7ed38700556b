-- Values of the first variables, and the branches of a search over them.
use Rattle.std.specs.Prelude.{◌≡◌, ◌≢◌, ℕ, ◌+◌, ◌<◌, ℤ, Bool, true, false, List, [], ◌∷◌, ◌++◌, length, slice_index_or, All, Contains, ◌⊎◌, unsigned_abs}
use Rattle.base.specs.Budget.{Steps}
use Rattle.lrat.specs.Literals.{is_true}
use Rattle.solver.specs.Answers.{values}
use Rattle.solver.specs.declared.look.Seen.{Seen}
use Rattle.solver.specs.declared.look.Seen.TheVariants.{Open, Closed, Spent}

-- the literal's variable has a value, by which the literal is false
abbrev pub IsFalse : List Bool → ℤ → Type 0
IsFalse b l = (unsigned_abs l < length b) × (is_true (values b) l ≡ false)

-- each literal of the clause is false
abbrev pub IsDenied : List Bool → List ℤ → Type 0
IsDenied b c = All (IsFalse b) c

-- a clause is denied, or one of the literals is
abbrev pub IsClosed : List Bool → List (List ℤ) → List ℤ → Type 0
IsClosed b cs ls = ((c : List ℤ) × Contains cs c × IsDenied b c) ⊎ ((l : ℤ) × Contains ls l × IsFalse b l)

-- no clause is denied, and none of the literals
pub record IsOpen (b : List Bool) (cs : List (List ℤ)) (ls : List ℤ) : Type 0 where
  pub clauses : All (λ c. IsDenied b c → ⊥) cs
  pub literals : All (λ l. IsFalse b l → ⊥) ls

-- what a look at the clauses and the assumptions found, where the core has the assumptions that were found false
abbrev pub Finds : List Bool → List (List ℤ) → List ℤ → List ℤ → Steps → Seen → Type 0
Finds b cs assume core after Open = IsOpen b cs assume
Finds b cs assume core after Closed = IsClosed b cs core
Finds b cs assume core after Spent = after.left ≡ 0

-- none of the literals is of the variable n
abbrev pub Lacks : ℕ → List ℤ → Type 0
Lacks n ls = All (λ l. unsigned_abs l ≢ n) ls

-- neither the clauses nor the literals have the variable n, whose value then changes nothing
pub record IsFree (n : ℕ) (cs : List (List ℤ)) (ls : List ℤ) : Type 0 where
  pub clauses : All (Lacks n) cs
  pub literals : Lacks n ls

-- each of the values, the first of which is of the variable n, is true or of a free variable
abbrev pub AreExhausted : List (List ℤ) → List ℤ → ℕ → List Bool → Type 0
AreExhausted cs ls n b = (k : ℕ) → slice_index_or b k true ≡ false → IsFree (n + k) cs ls

-- a false value becomes true, and what is behind it, with no other value to try, goes; place 0 stays
pub record IsNextBranch (cs : List (List ℤ)) (ls : List ℤ) (old new : List Bool) : Type 0 where
  pub kept : List Bool
  pub gone : List Bool
  pub starts : 0 < length kept
  pub before : old ≡ kept ++ false ∷ gone
  pub exhausted : AreExhausted cs ls (length kept + 1) gone
  pub after : new ≡ kept ++ true ∷ []

-- behind place 0 no value has another one to try
pub record IsLastBranch (cs : List (List ℤ)) (ls : List ℤ) (old : List Bool) : Type 0 where
  pub first : Bool
  pub gone : List Bool
  pub only : old ≡ first ∷ gone
  pub exhausted : AreExhausted cs ls 1 gone
