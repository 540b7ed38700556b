-- A number and the byte that ends it.
use Rattle.std.specs.Prelude.{◌≡◌, ℕ, ◌≤◌, Bool, true, List, [], ◌∷◌, ◌++◌, decimal, Some, None, if◌then◌else◌}
use Rattle.scan.specs.Reading.{◌>>=◌, Read}
use Rattle.scan.specs.Numbers.{number_at}
use Rattle.scan.specs.Bytes.{byte_at, ending_at}

-- every number passes
abbrev pub any : ℕ → Bool
any n = true

-- a good number, and a byte that ends it
unfoldable pub word_at : ℕ → (ℕ → Bool) → (ℕ → Bool) → List ℕ → Read (ℕ × ℕ)
word_at limit good ends bytes = do
  n ← number_at limit bytes
  if good n.0 then (ending_at ends n.1 >>= λ c. Some ((n.0, c.0), c.1)) else None

-- a good number, and this byte
unfoldable pub field_at : ℕ → (ℕ → Bool) → ℕ → List ℕ → Read ℕ
field_at limit good end bytes = do
  n ← number_at limit bytes
  if good n.0 then (byte_at end n.1 >>= λ rest. Some (n.0, rest)) else None

-- a text is a good number of at most limit, and the byte behind it
pub record IsWord (limit : ℕ) (good ends : ℕ → Bool) (text : List ℕ) (x : ℕ × ℕ) : Type 0 where
  pub spells : text ≡ decimal x.0 ++ x.1 ∷ []
  pub within : x.0 ≤ limit
  pub is_good : good x.0 ≡ true
  pub is_end : ends x.1 ≡ true

-- a text is a good number of at most limit, and this byte
pub record IsField (limit : ℕ) (good : ℕ → Bool) (end : ℕ) (text : List ℕ) (n : ℕ) : Type 0 where
  pub spells : text ≡ decimal n ++ end ∷ []
  pub within : n ≤ limit
  pub is_good : good n ≡ true
