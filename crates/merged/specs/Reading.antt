-- Latches that are read as other literals, and what clauses say of them.
use Rattle.std.specs.Prelude.{◌≡◌, ◌⊎◌, ℕ, ◌+◌, ◌<◌, ◌%◌, ◌==◌, if◌then◌else◌, Bool, true, not, List, [], ◌∷◌, length, slice_index_or, All, Any, Option, None, Some}
use Rattle.graph.specs.declared.circuit.Lit.{Lit}
use Rattle.graph.specs.Circuits.{variable}
use Rattle.cnf.specs.Clauses.{along, is_negated}
use Rattle.cnf.specs.Formulas.{clause_at}

-- a literal where its variable is read as another literal, if it is
abbrev pub read_by : Option Lit → Lit → Lit
read_by None a = a
read_by (Some b) a = along (is_negated a) b

-- what the table has for a variable
abbrev pub entry : List (Option Lit) → ℕ → Option Lit
entry table v = slice_index_or table v None

-- the literal as which a literal is read
abbrev pub read_as : List (Option Lit) → Lit → Lit
read_as table a = read_by (entry table (variable a)) a

-- what a variable is read as has a negation
abbrev pub IsRoomy : List (Option Lit) → Type 0
IsRoomy table = (v : ℕ) (b : Lit) → entry table v ≡ Some b → b.0 < 4294967295

-- a literal is true: its variable has this constant value
abbrev pub constant_of : Lit → Lit
constant_of a = along (is_negated a) (record { 0 = 1 })

-- one of two literals is true exactly where the other is not: the first one's variable has this value
abbrev pub opposite_of : Lit → Lit → Lit
opposite_of a b = along (is_negated a) (along true b)

-- a clause says that the variable has the literal's value, which is constant
pub record SaysConstant (c : List Lit) (v : ℕ) (b : Lit) : Type 0 where
  pub lit : Lit
  pub here : c ≡ lit ∷ []
  pub variable_is : v ≡ variable lit
  pub value_is : b ≡ constant_of lit

-- a clause and the next one say that the variable has the literal's value
pub record SaysEqual (c d : List Lit) (v : ℕ) (b : Lit) : Type 0 where
  pub one : Lit
  pub other : Lit
  pub here : c ≡ one ∷ other ∷ []
  pub next : d ≡ along true other ∷ along true one ∷ []
  pub variable_is : v ≡ variable one
  pub value_is : b ≡ opposite_of one other

abbrev pub Says : List Lit → List Lit → ℕ → Lit → Type 0
Says c d v b = SaysConstant c v b ⊎ SaysEqual c d v b

-- the clauses at a place say so
abbrev pub SaysAt : List (List Lit) → ℕ → ℕ → Lit → Type 0
SaysAt cs k v b = Says (clause_at cs k) (clause_at cs (k + 1)) v b

-- what the clauses at the first n places say is in the table, and nothing but what clauses say
pub record IsTableTo (cs : List (List Lit)) (n : ℕ) (table : List (Option Lit)) : Type 0 where
  pub said : (v : ℕ) (b : Lit) → entry table v ≡ Some b → (k : ℕ) × SaysAt cs k v b
  pub whole : (k : ℕ) (v : ℕ) (b : Lit) → k < n → SaysAt cs k v b → (c : Lit) × (entry table v ≡ Some c)

-- each variable of which clauses say what it is equal to is read as such a literal, and no other variable is read as another
abbrev pub IsTable : List (List Lit) → List (Option Lit) → Type 0
IsTable cs table = IsTableTo cs (length cs) table

-- the truth value of a literal where its variable has this one
abbrev pub value_in : (ℕ → Bool) → Lit → Bool
value_in f a = if a.0 % 2 == 1 then not (f (variable a)) else f (variable a)

-- one literal of each clause is true
abbrev pub HoldIn : (ℕ → Bool) → List (List Lit) → Type 0
HoldIn f cs = All (λ c. Any (λ a. value_in f a ≡ true) c) cs

-- each variable that is read as another literal has its value
abbrev pub IsReadIn : (ℕ → Bool) → List (Option Lit) → Type 0
IsReadIn f table = (v : ℕ) (b : Lit) → entry table v ≡ Some b → f v ≡ value_in f b
