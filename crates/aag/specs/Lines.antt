-- How the lines of a circuit are read.
use Rattle.std.specs.Prelude.{ℕ, ◌+◌, ◌-◌, ◌*◌, ◌%◌, ◌^◌, Bool, not, ◌||◌, List, Some, nat_lt, nat_le, ◌==◌, if◌then◌else◌}
use Rattle.scan.specs.Reading.{◌>>=◌, Read}
use Rattle.scan.specs.Bytes.{either}
use Rattle.scan.specs.Words.{any, word_at, field_at}
use Rattle.graph.specs.declared.circuit.Lit.{Lit}
use Rattle.graph.specs.declared.circuit.Latch.{Latch}
use Rattle.graph.specs.declared.circuit.Gate.{Gate}

-- the greatest variable, and the greatest count
abbrev pub greatest : ℕ
greatest = 4194303

-- the greatest literal
abbrev pub most : ℕ → ℕ
most max = 2 * max + 1

-- a literal by its number
abbrev pub lit : ℕ → Lit
lit n = record { 0 = n }

-- a number that is even and not the constant
abbrev pub defines : ℕ → Bool
defines n = not ((n % 2 == 1) || nat_lt n 2)

-- a number that a latch with this literal may have as its reset
abbrev pub resets : ℕ → ℕ → Bool
resets own n = nat_le n 1 || (n == own)

-- a good literal, and this byte
unfoldable pub literal_at : ℕ → (ℕ → Bool) → ℕ → List ℕ → Read Lit
literal_at max good end bytes = do
  n ← field_at (most max) good end bytes
  Some (lit n.0, n.1)

-- a literal, and a space or a line end
unfoldable pub next_at : ℕ → List ℕ → Read (Lit × ℕ)
next_at max bytes = do
  w ← word_at (most max) any (either 32 10) bytes
  Some ((lit w.0.0, w.0.1), w.1)

-- a reset of the latch with this literal, and the line end
unfoldable pub reset_at : Lit → List ℕ → Read Lit
reset_at own bytes = do
  n ← field_at (2 ^ 32 - 1) (resets own.0) 10 bytes
  Some (lit n.0, n.1)

-- the rest of a latch's line behind the byte that ends its next literal
unfoldable pub latch_end_at : Lit → Lit → ℕ → List ℕ → Read Latch
latch_end_at own next end bytes =
    if end == 10 then Some (record { lit = own; next = next; reset = lit 0 }, bytes)
    else (reset_at own bytes >>= λ reset. Some (record { lit = own; next = next; reset = reset.0 }, reset.1))

unfoldable pub latch_at : ℕ → List ℕ → Read Latch
latch_at max bytes = do
  own ← literal_at max defines 32 bytes
  next ← next_at max own.1
  latch_end_at own.0 next.0.0 next.0.1 next.1

unfoldable pub gate_at : ℕ → List ℕ → Read Gate
gate_at max bytes = do
  lhs ← literal_at max defines 32 bytes
  rhs0 ← literal_at max any 32 lhs.1
  rhs1 ← literal_at max any 10 rhs0.1
  Some (record { lhs = lhs.0; rhs0 = rhs0.0; rhs1 = rhs1.0 }, rhs1.1)
