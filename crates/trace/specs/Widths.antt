-- Texts in columns.
use Rattle.std.specs.Prelude.{ℕ, ◌-◌, List, [], ◌∷◌, ◌++◌, length, max, replicate}

-- the width of a column of these texts: the length of the longest
abbrev pub width_of : List (List ℕ) → ℕ
width_of [] = 0
width_of (text ∷ texts) = max (length text) (width_of texts)

-- this many spaces
abbrev pub spaces : ℕ → List ℕ
spaces n = replicate n 32

-- a text at the left of its column
abbrev pub at_left : ℕ → List ℕ → List ℕ
at_left width text = text ++ spaces (width - length text)

-- a text at the right of its column
abbrev pub at_right : ℕ → List ℕ → List ℕ
at_right width text = spaces (width - length text) ++ text
