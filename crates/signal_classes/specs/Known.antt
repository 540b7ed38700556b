-- What variables are known to be equal to.
use Rattle.std.specs.Prelude.{◌≡◌, ℕ, zero, suc, Bool, true, List, Option, None, Some, length, slice_index_or}
use Rattle.graph.specs.declared.circuit.Lit.{Lit}
use Rattle.graph.specs.Circuits.{variable}
use Rattle.cnf.specs.Clauses.{along, is_negated}

-- for each variable a literal that it is equal to, the right sides of a gate that was made, and whether it stays what it is looked
-- at as
pub record Known : Type 0 where
  pub equal : List (Option Lit)
  pub sides : List (Option (Lit × Lit))
  pub is_kept : List Bool

-- the literal that the variable is equal to
abbrev pub equal_in : List (Option Lit) → ℕ → Option Lit
equal_in equal v = slice_index_or equal v None

-- whether the variable stays what it is looked at as, as one that there is none of does
abbrev pub is_kept_in : List Bool → ℕ → Bool
is_kept_in kept v = slice_index_or kept v true

-- the literal that this one is equal to, if any, else itself
abbrev pub one_led : Option Lit → Lit → Lit
one_led None a = a
one_led (Some b) a = along (is_negated a) b

-- where so many steps from a literal lead
abbrev pub led : List (Option Lit) → ℕ → Lit → Lit
led equal zero a = a
led equal (suc n) a = led equal n (one_led (equal_in equal (variable a)) a)

-- what is kept stays what it is looked at as
pub record Keeps (before after : Known) : Type 0 where
  pub is_kept : after.is_kept ≡ before.is_kept
  pub places : length after.equal ≡ length before.equal
  pub equal : (v : ℕ) → is_kept_in before.is_kept v ≡ true → equal_in after.equal v ≡ equal_in before.equal v
