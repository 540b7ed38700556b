-- Literals that are functions of others (Tseitin 1968): each variable has a value of its own, or is a function of four literals.
use Rattle.std.specs.Prelude.{◌≡◌, ◌≢◌, ℕ, suc, ◌+◌, ◌<◌, ◌≤◌, ◌⊎◌, ◌&&◌, ◌==◌, Bool, true, not, List, length, slice_index_or, ℤ, pos, unsigned_abs, Some}
use Rattle.std.specs.HashMap.{get}
use Rattle.std.specs.Ordering.{int_eq}
use Rattle.lrat.specs.Literals.{is_true, IsLiteral}
use Rattle.cnf.specs.Meaning.{AreSatisfied}
use Rattle.truth_tables.specs.Tables.{value}
use Rattle.unrolling.specs.declared.function.Function.{Function}
use Rattle.unrolling.specs.declared.function.Simplified.{Simplified}
use Rattle.unrolling.specs.declared.function.Simplified.TheVariants.{Literal, Same, Denial}
use Rattle.unrolling.specs.declared.encoder.Encoder.{Encoder}

-- the value of a truth table, for the values of these literals
abbrev pub table_value : (ℕ → Bool) → ℕ → ℤ × ℤ × ℤ × ℤ → Bool
table_value v t q = value t (is_true v q.0) (is_true v q.1) (is_true v q.2) (is_true v q.3)

-- the function's value, for the values of its literals
abbrev pub function_value : (ℕ → Bool) → Function → Bool
function_value v f = table_value v f.table f.leaves

-- the literal is one of these
abbrev pub IsAmong : ℤ × ℤ × ℤ × ℤ → ℤ → Type 0
IsAmong q l = (q.0 ≡ l) ⊎ (q.1 ≡ l) ⊎ (q.2 ≡ l) ⊎ (q.3 ≡ l)

-- wherever the first variable is true the two functions have the same value
abbrev pub IsSame : Function → Function → Type 0
IsSame f g = (v : ℕ → Bool) → v 1 ≡ true → function_value v f ≡ function_value v g

-- something holds of each of the four
abbrev pub OnFour : (ℤ → Type 0) → ℤ × ℤ × ℤ × ℤ → Type 0
OnFour P q = P q.0 × P q.1 × P q.2 × P q.3

-- something holds of each of the function's literals
abbrev pub OnLeaves : (ℤ → Type 0) → Function → Type 0
OnLeaves P f = OnFour P f.leaves

-- its literals are of the first n variables
abbrev pub AreLeaves : ℕ → Function → Type 0
AreLeaves n f = OnLeaves (IsLiteral n) f

-- what a function comes to has its value
abbrev pub IsSimplified : Function → Simplified → Type 0
IsSimplified f (Literal l) = (v : ℕ → Bool) → v 1 ≡ true → is_true v l ≡ function_value v f
IsSimplified f (Same g) = IsSame f g
IsSimplified f (Denial g) = (v : ℕ → Bool) → v 1 ≡ true → not (function_value v g) ≡ function_value v f

-- its literals are of the first n variables
abbrev pub AreSimplified : ℕ → Simplified → Type 0
AreSimplified n (Literal l) = IsLiteral n l
AreSimplified n (Same g) = AreLeaves n g
AreSimplified n (Denial g) = AreLeaves n g

abbrev pub no_function : Function
no_function = record { table = 0; leaves = (pos 0, pos 0, pos 0, pos 0) }

-- the function that a variable is, or none
abbrev pub function_at : List Function → ℕ → Function
function_at fs x = slice_index_or fs x no_function

-- the variable is a function of four literals
abbrev pub IsGate : List Function → ℕ → Type 0
IsGate fs x = (function_at fs x).leaves.0 ≢ pos 0

-- the first variable is true, and each that is a function has its value
pub record IsDefined (fs : List Function) (v : ℕ → Bool) : Type 0 where
  pub truth : v 1 ≡ true
  pub gates : (x : ℕ) → IsGate fs x → v x ≡ function_value v (function_at fs x)

-- a literal of a variable before this one
abbrev pub IsBelow : ℕ → ℤ → Type 0
IsBelow x l = (l ≢ pos 0) × (unsigned_abs l < x)

-- in each assignment in which the functions have their values the literal has this one's
abbrev pub IsFunctionIn : List Function → Function → ℤ → Type 0
IsFunctionIn fs f l = (v : ℕ → Bool) → IsDefined fs v → is_true v l ≡ function_value v f

-- each function is of literals before it
abbrev pub AreBelow : List Function → Type 0
AreBelow fs = (x : ℕ) → IsGate fs x → OnLeaves (IsBelow x) (function_at fs x)

abbrev pub same_function : Function → Function → Bool
same_function f g = (f.table == g.table) && (((int_eq f.leaves.0 g.leaves.0 && int_eq f.leaves.1 g.leaves.1) && int_eq f.leaves.2 g.leaves.2) && int_eq f.leaves.3 g.leaves.3)

-- the functions are of variables in use, and the table has literals that it names rightly
pub record IsEncoding (e : Encoder) : Type 0 where
  pub some : 1 ≤ e.variables
  pub places : length e.functions.items ≤ suc e.variables
  pub below : AreBelow e.functions.items
  pub used : (x : ℕ) → IsGate e.functions.items x → x ≤ e.variables
  pub shared : (f : Function) (x : ℕ) → get same_function e.shared f ≡ Some x → IsLiteral e.variables (pos x) × IsFunctionIn e.functions.items f (pos x)

-- the later functions, of k variables, say no more of the first n variables
pub record IsExtended (n : ℕ) (fs : List Function) (k : ℕ) (gs : List Function) : Type 0 where
  pub more : n ≤ k
  pub same : (x : ℕ) → x ≤ n → function_at gs x ≡ function_at fs x
  pub weaker : (v : ℕ → Bool) → IsDefined gs v → IsDefined fs v
  pub extends : (v : ℕ → Bool) → IsDefined fs v → (u : ℕ → Bool) × IsDefined gs u × ((x : ℕ) → x ≤ n → u x ≡ v x)

-- the encoding is one still, with at most this number of variables more
pub record IsGrown (most : ℕ) (e f : Encoder) : Type 0 where
  pub encoding : IsEncoding f
  pub extended : IsExtended e.variables e.functions.items f.variables f.functions.items
  pub few : f.variables ≤ e.variables + most

-- what was made, and the clauses that a solver has
pub record Told : Type 0 where
  pub functions : List Function
  pub clauses : List (List ℤ)

abbrev pub told : Encoder → List (List ℤ) → Told
told e cs = record { functions = e.functions.items; clauses = cs }

-- the functions have their values, and the clauses are satisfied
abbrev pub AreKept : (ℕ → Bool) → Told → Type 0
AreKept v d = IsDefined d.functions v × AreSatisfied v d.clauses
