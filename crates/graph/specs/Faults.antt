-- What is wrong with parts that make no circuit: the first cause, in the order limits, literals, variables defined
-- twice, undefined variables, cycles.
use Rattle.std.specs.Prelude.{◌≡◌, ℕ, ◌+◌, ◌<◌, ◌≤◌, ◌≢◌, ◌⊎◌, List, [], ◌∷◌, ◌++◌, length, map, sum_by, slice_index, All, AllPairs, Contains, Result, Ok, Err}
use Rattle.graph.specs.declared.circuit.Lit.{Lit}
use Rattle.graph.specs.declared.circuit.Gate.{Gate}
use Rattle.graph.specs.declared.circuit.Use.{Use}
use Rattle.graph.specs.declared.parts.Parts.{Parts}
use Rattle.graph.specs.declared.error.ReadError.{ReadError}
use Rattle.graph.specs.declared.error.ReadError.TheVariants.{TooLong, Header, Number, Limit, Byte, Truncated, LiteralRange, Defining, DefinedTwice, Undefined, Cyclic, Reset, Delta, Symbol, Counts, NoProperty, OutOfMemory}
use Rattle.graph.specs.Circuits.{variable, defined}
use Rattle.graph.specs.WellFormed.{IsInLimits, LeadsTo, used}
use Rattle.graph.specs.Uses.{uses_of, IsFine, IsFirst, IsOutOfRange, IsNotDefining, IsWrongReset}

-- the numbers that have a limit: the header's counts M I L O A B C J F, then the literals of all justice properties
abbrev pub counts_of : Parts → List ℕ
counts_of m =
    m.max_var ∷ length m.inputs ∷ length m.latches ∷ length m.outputs ∷ length m.gates ∷ length m.bad
    ∷ length m.constraints ∷ length m.justice ∷ length m.fairness ∷ sum_by length m.justice ∷ []

-- the fault that stands at the first literal that is not fine, after this number of others
abbrev pub IsFirstFault : ℕ → List Use → ReadError → Type 0
IsFirstFault max uses (LiteralRange k) = IsFirst max uses k (IsOutOfRange max)
IsFirstFault max uses (Defining k) = IsFirst max uses k (IsNotDefining max)
IsFirstFault max uses (Reset k) = IsFirst max uses k IsWrongReset
IsFirstFault max uses TooLong = ⊥
IsFirstFault max uses (Header p) = ⊥
IsFirstFault max uses (Number p) = ⊥
IsFirstFault max uses (Limit p) = ⊥
IsFirstFault max uses (Byte p) = ⊥
IsFirstFault max uses (Truncated p) = ⊥
IsFirstFault max uses (DefinedTwice v) = ⊥
IsFirstFault max uses (Undefined v) = ⊥
IsFirstFault max uses (Cyclic v) = ⊥
IsFirstFault max uses (Delta p) = ⊥
IsFirstFault max uses (Symbol p) = ⊥
IsFirstFault max uses (Counts p) = ⊥
IsFirstFault max uses (NoProperty n) = ⊥
IsFirstFault max uses (OutOfMemory refused) = ⊥

-- after fine literals, as many as the count says, these are fine too, or the first fault is reported
abbrev pub GoesOn : ℕ → ℕ → List Use → Result ℕ ReadError → Type 0
GoesOn max before more (Ok n) = (n ≡ before + length more) × All (IsFine max) more
GoesOn max before more (Err e) = (front : List Use) → length front ≡ before → All (IsFine max) front → IsFirstFault max (front ++ more) e

-- the k-th number is over the limit, and none before it
pub record IsFirstOver (counts : List ℕ) (k : ℕ) : Type 0 where
  pub inside : k < length counts
  pub over : 4194303 < slice_index counts k
  pub before : (i : ℕ) → i < k → slice_index counts i ≤ 4194303

-- P holds of v, and of no number below it
abbrev pub IsLeast : (ℕ → Type 0) → ℕ → Type 0
IsLeast P v = P v × ((u : ℕ) → u < v → P u → ⊥)

-- two places of the list hold v
abbrev pub IsTwice : List ℕ → ℕ → Type 0
IsTwice vs v = (i : ℕ) × (j : ℕ) × (i < j) × (j < length vs) × (slice_index vs i ≡ v) × (slice_index vs j ≡ v)

-- v is the variable of some literal, not the constant, and not defined
abbrev pub IsUndefined : List Lit → List ℕ → ℕ → Type 0
IsUndefined lits vs v = (v ≢ 0) × Contains (map variable lits) v × (Contains vs v → ⊥)

-- right sides lead from v to a variable that they lead back to
abbrev pub LeadsIntoCycle : List Gate → ℕ → Type 0
LeadsIntoCycle gates v = (u : ℕ) × LeadsTo gates v u × LeadsTo gates u u

-- limits and literals are as they should be
pub record HasFineLiterals (m : Parts) : Type 0 where
  pub limits : IsInLimits m
  pub fine : All (IsFine m.max_var) (uses_of m)

-- and no variable is defined twice
pub record HasDistinct (m : Parts) : Type 0 where
  pub literals : HasFineLiterals m
  pub once : AllPairs (λ u v. u ≢ v) (defined m)

-- and used ones are defined
pub record HasDefined (m : Parts) : Type 0 where
  pub distinct : HasDistinct m
  pub used_defined : All (λ a. (variable a ≡ 0) ⊎ Contains (defined m) (variable a)) (used m)

-- the reason for which parts are refused stands, and none that comes before it
abbrev pub HasCause : Parts → ReadError → Type 0
HasCause m (Limit k) = IsFirstOver (counts_of m) k
HasCause m (LiteralRange k) = IsInLimits m × IsFirstFault m.max_var (uses_of m) (LiteralRange k)
HasCause m (Defining k) = IsInLimits m × IsFirstFault m.max_var (uses_of m) (Defining k)
HasCause m (Reset k) = IsInLimits m × IsFirstFault m.max_var (uses_of m) (Reset k)
HasCause m (DefinedTwice v) = HasFineLiterals m × IsLeast (IsTwice (defined m)) v
HasCause m (Undefined v) = HasDistinct m × IsLeast (IsUndefined (used m) (defined m)) v
HasCause m (Cyclic v) = HasDefined m × IsLeast (LeadsIntoCycle m.gates) v
HasCause m (OutOfMemory refused) = Unit {0}
HasCause m TooLong = ⊥
HasCause m (Header p) = ⊥
HasCause m (Number p) = ⊥
HasCause m (Byte p) = ⊥
HasCause m (Truncated p) = ⊥
HasCause m (Delta p) = ⊥
HasCause m (Symbol p) = ⊥
HasCause m (Counts p) = ⊥
HasCause m (NoProperty n) = ⊥
