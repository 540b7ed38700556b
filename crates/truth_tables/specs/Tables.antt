-- Functions of four inputs as truth tables: words of 16 bits, of which bit a + 2 b + 4 c + 8 d is the value for a, b, c and d.
use Rattle.std.specs.Prelude.{ℕ, ◌+◌, ◌==◌, if◌then◌else◌, Bool}
use Rattle.std.specs.Int.{bit_at}

-- the number that an input adds to the row
abbrev pub weight : ℕ → Bool → ℕ
weight n b = if b then n else 0

-- the bit for these inputs
abbrev pub row : Bool → Bool → Bool → Bool → ℕ
row a b c d = weight 1 a + weight 2 b + weight 4 c + weight 8 d

-- the function's value for these inputs
unfoldable pub value : ℕ → Bool → Bool → Bool → Bool → Bool
value t a b c d = bit_at t (row a b c d) == 1
