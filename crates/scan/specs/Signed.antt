-- Numbers with a sign, in a list that a 0 ends.
use Rattle.std.specs.Prelude.{◌≡◌, ℕ, ◌<◌, ◌≤◌, suc, ℤ, pos, negsuc, List, [], ◌∷◌, ◌++◌, Option, Some, None, ◌==◌, if◌then◌else◌}
use Rattle.std.specs.Fmt.{signed_decimal}
use Rattle.std.proofs.Common.{neg_ℤ}
use Rattle.scan.specs.Reading.{◌>>=◌, Read}
use Rattle.scan.specs.Numbers.{number_at}
use Rattle.scan.specs.Bytes.{byte_at, choice_at}

-- what follows a minus: a number that isn't 0, and a space
abbrev pub negative_at : ℕ → List ℕ → Read (Option ℤ)
negative_at limit bytes = do
  n ← number_at limit bytes
  if n.0 == 0 then None else (byte_at 32 n.1 >>= λ rest. Some (Some (neg_ℤ (pos n.0)), rest))

-- without a minus: a number that isn't 0 and a space, or the 0 that ends the list and the byte behind it
abbrev pub positive_at : ℕ → ℕ → List ℕ → Read (Option ℤ)
positive_at limit end bytes = do
  n ← number_at limit bytes
  if n.0 == 0 then (byte_at end n.1 >>= λ rest. Some (None, rest)) else (byte_at 32 n.1 >>= λ rest. Some (Some (pos n.0), rest))

-- a number with its sign and a space, or the 0 that ends the list and the byte behind it
abbrev pub signed_at : ℕ → ℕ → List ℕ → Read (Option ℤ)
signed_at limit end bytes = choice_at 45 (negative_at limit) (positive_at limit end) bytes

-- a number other than 0, of at most limit on either side
abbrev pub IsSigned : ℕ → ℤ → Type 0
IsSigned limit (pos n) = (0 < n) × (n ≤ limit)
IsSigned limit (negsuc n) = suc n ≤ limit

-- a text is such a number and a space, or a 0 and the last byte
abbrev pub IsItem : ℕ → ℕ → List ℕ → Option ℤ → Type 0
IsItem limit end text None = text ≡ 48 ∷ end ∷ []
IsItem limit end text (Some z) = IsSigned limit z × (text ≡ signed_decimal z ++ 32 ∷ [])
