-- Bytes that a text has to have.
use Rattle.std.specs.Prelude.{ℕ, Bool, List, [], ◌∷◌, Option, Some, None, ◌==◌, ◌||◌, if◌then◌else◌}
use Rattle.scan.specs.Reading.{◌>>=◌, Read}

-- what follows this byte
abbrev pub byte_at : ℕ → List ℕ → Option (List ℕ)
byte_at wanted [] = None
byte_at wanted (c ∷ cs) = if c == wanted then Some cs else None

-- what follows these bytes
unfoldable pub tag_at : List ℕ → List ℕ → Option (List ℕ)
tag_at [] bytes = Some bytes
tag_at (c ∷ cs) bytes = byte_at c bytes >>= tag_at cs

-- a byte that passes
abbrev pub ending_at : (ℕ → Bool) → List ℕ → Read ℕ
ending_at ends [] = None
ending_at ends (c ∷ cs) = if ends c then Some (c, cs) else None

-- one of two bytes
abbrev pub either : ℕ → ℕ → ℕ → Bool
either a b c = (c == a) || (c == b)

-- what follows this byte is read by p, and a text that begins otherwise by q
abbrev pub choice_at : {A : Type 0} → ℕ → (List ℕ → Read A) → (List ℕ → Read A) → List ℕ → Read A
choice_at k p q [] = q []
choice_at k p q (c ∷ cs) = if c == k then p cs else q (c ∷ cs)
