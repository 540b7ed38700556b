-- Literals of a clause, marked by the bits of a list of words: two for each latch.
use Rattle.std.specs.Prelude.{◌≡◌, ℕ, ◌+◌, ◌*◌, ◌/◌, ◌%◌, if◌then◌else◌, List, slice_index_or, All, Contains}
use Rattle.std.specs.Int.{bit_at}
use Rattle.states.specs.declared.state_lit.StateLit.{StateLit}

-- the place of a literal's mark
abbrev pub mark_of : StateLit → ℕ
mark_of a = 2 * a.latch + (if a.value then 1 else 0)

-- the bit at a place of words of 64 bits
abbrev pub mark_at : List ℕ → ℕ → ℕ
mark_at words place = bit_at (slice_index_or words (place / 64) 0) (place % 64)

-- the literal is marked
abbrev pub IsMarked : List ℕ → StateLit → Type 0
IsMarked words a = mark_at words (mark_of a) ≡ 1

-- the literals that are marked are the clause's
pub record AreMarks (clause : List StateLit) (words : List ℕ) : Type 0 where
  pub each : All (IsMarked words) clause
  pub only : (a : StateLit) → IsMarked words a → Contains clause a
