-- The values that literals give.
use Rattle.std.specs.Prelude.{◌≡◌, ◌≢◌, ◌≤◌, ℕ, zero, suc, ◌+◌, ℤ, pos, negsuc, Bool, true, false, List, [], ◌∷◌, ◌++◌, All, get_or, length, replicate, slice_set, unsigned_abs}

-- the value of its variable by which the literal is true: 0 is no literal
abbrev pub is_positive : ℤ → Bool
is_positive (pos zero) = false
is_positive (pos (suc n)) = true
is_positive (negsuc n) = false

-- the literal's variable has the value by which it is true: there is no index for a variable past the end
abbrev pub with_value : List Bool → ℤ → List Bool
with_value b l = slice_set b (unsigned_abs l) (is_positive l)

-- each literal gives its variable a value, one after the other
abbrev pub with_values : List Bool → List ℤ → List Bool
with_values b [] = b
with_values b (l ∷ ls) = with_values (with_value b l) ls

-- the values of the variables 1 to n after an index 0, all of them false, and then as the literals give them
abbrev pub valued : ℕ → List ℤ → List Bool
valued n ls = with_values (replicate (n + 1) false) ls

-- the value that literals give a variable: that of its last literal, and false where there is none
pub record IsLastValue (ls : List ℤ) (variable : ℕ) (value : Bool) : Type 0 where
  pub last : (before after : List ℤ) (l : ℤ) → ls ≡ before ++ l ∷ after → unsigned_abs l ≡ variable → All (λ k. unsigned_abs k ≢ variable) after → value ≡ is_positive l
  pub none : All (λ k. unsigned_abs k ≢ variable) ls → value ≡ false

-- the variables 1 to n, after an index 0, have the values that the literals give them
pub record AreLastValues (n : ℕ) (ls : List ℤ) (values : List Bool) : Type 0 where
  pub places : length values ≡ n + 1
  pub each : (variable : ℕ) → variable ≤ n → IsLastValue ls variable (get_or values variable false)
