-- The pieces that a text is read in.
use Rattle.std.specs.Prelude.{◌≡◌, ℕ, ◌-◌, ◌<◌, ◌≤◌, Bool, false, ◌||◌, List, [], ◌∷◌, ◌++◌, length, take, drop, get_or, ◌==◌, if◌then◌else◌}
use Rattle.std.specs.Char.{is_ascii_digit, is_ascii_lowercase}

-- a byte that may stand in a line before its end: a digit, a space, a minus, a dot, a lower-case letter
abbrev pub is_inner : ℕ → Bool
is_inner c = is_ascii_digit c || ((c == 32) || ((c == 45) || ((c == 46) || is_ascii_lowercase c)))

-- the bytes up to the first that is no inner byte, with that, and what follows
unfoldable pub piece_at : List ℕ → List ℕ × List ℕ
piece_at [] = ([], [])
piece_at (c ∷ cs) = if is_inner c then (c ∷ (piece_at cs).0, (piece_at cs).1) else (c ∷ [], cs)

-- the next piece ends within these bytes, however the text goes on
abbrev pub HoldsPiece : List ℕ → Type 0
HoldsPiece bytes = (more : List ℕ) → piece_at (bytes ++ more) ≡ ((piece_at bytes).0, (piece_at bytes).1 ++ more)

-- the bytes are of the next piece, which goes on in what follows
abbrev pub GoesOn : List ℕ → Type 0
GoesOn bytes = (more : List ℕ) → piece_at (bytes ++ more) ≡ (bytes ++ (piece_at more).0, (piece_at more).1)

-- the first n bytes are none, or end with a byte that is no inner one: a piece that begins among them ends within them
pub record IsReady (bytes : List ℕ) (n : ℕ) : Type 0 where
  pub within : n ≤ length bytes
  pub ends : 0 < n → is_inner (get_or bytes (n - 1) 0) ≡ false

-- bytes that are held, and behind them those that a source still gives: the bytes to come are what they were, and of them the
-- next piece ends within the first n that are held now
abbrev pub Lies : List ℕ → List ℕ → List ℕ → List ℕ → ℕ → Type 0
Lies held ys later zs n = (held ++ ys ≡ later ++ zs) × (piece_at (later ++ zs) ≡ ((piece_at (take n later)).0, (piece_at (take n later)).1 ++ (drop n later ++ zs)))
