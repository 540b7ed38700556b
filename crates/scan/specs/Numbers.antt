-- Numbers in canonical decimal.
use Rattle.std.specs.Prelude.{ℕ, ◌+◌, ◌-◌, ◌*◌, Bool, false, not, ◌&&◌, List, [], ◌∷◌, Some, None, nat_lt, nat_le, ◌==◌, if◌then◌else◌}
use Rattle.std.specs.Char.{is_ascii_digit}
use Rattle.scan.specs.Reading.{Read}

-- a digit comes next
abbrev pub begins_digit : List ℕ → Bool
begins_digit [] = false
begins_digit (c ∷ cs) = is_ascii_digit c

-- a digit that is no 0 before another
abbrev pub begins_number : ℕ → List ℕ → Bool
begins_number c cs = is_ascii_digit c && not ((c == 48) && begins_digit cs)

-- the digits that come next, behind the number n; a number past the limit stays what it is
unfoldable pub digits_after : ℕ → ℕ → List ℕ → ℕ × List ℕ
digits_after limit n [] = (n, [])
digits_after limit n (c ∷ cs) =
    if is_ascii_digit c then (digits_after limit (if nat_le n limit then n * 10 + (c - 48) else n) cs)
    else (n, c ∷ cs)

-- what was read, where its number is at most limit
abbrev pub at_most : ℕ → ℕ × List ℕ → Read ℕ
at_most limit r = if nat_lt limit r.0 then None else Some r

-- a number of at most limit: the longest run of digits, and no 0 before another digit
unfoldable pub number_at : ℕ → List ℕ → Read ℕ
number_at limit [] = None
number_at limit (c ∷ cs) = if begins_number c cs then at_most limit (digits_after limit (c - 48) cs) else None
