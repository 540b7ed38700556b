-- How the texts of lines are read, step by step.
use Rattle.std.specs.Prelude.{ℕ, ℤ, List, Option, Some, None, nat_lt, ◌==◌, if◌then◌else◌}
use Rattle.scan.specs.Reading.{◌>>=◌, Read}
use Rattle.scan.specs.Numbers.{number_at}
use Rattle.scan.specs.Bytes.{byte_at, choice_at}
use Rattle.scan.specs.Words.{field_at}
use Rattle.scan.specs.Signed.{signed_at}
use Rattle.scan.specs.Lists.{items_at}
use Rattle.lrat.specs.declared.line.Line.{Line}
use Rattle.lrat.specs.declared.line.Line.TheVariants.{Add, Delete}

-- a literal and a space, or the 0 that ends a clause
abbrev pub literal_at : List ℕ → Read (Option ℤ)
literal_at bytes = signed_at 2147483647 32 bytes

-- a hint and a space, or the 0 that ends a line
abbrev pub hint_at : List ℕ → Read (Option ℤ)
hint_at bytes = signed_at 4294967295 10 bytes

-- an id and a space, or the 0 that ends a line
unfoldable pub id_at : List ℕ → Read (Option ℕ)
id_at bytes = do
  n ← number_at 4294967295 bytes
  if n.0 == 0 then (byte_at 10 n.1 >>= λ rest. Some (None, rest)) else (byte_at 32 n.1 >>= λ rest. Some (Some n.0, rest))

-- what follows the id of an addition
unfoldable pub added_at : ℕ → List ℕ → Read Line
added_at id bytes = do
  clause ← items_at literal_at bytes
  hints ← items_at hint_at clause.1
  Some (Add id clause.0 hints.0, hints.1)

-- what follows the `d` of a deletion
unfoldable pub deleted_at : ℕ → List ℕ → Read Line
deleted_at id bytes = byte_at 32 bytes >>= λ rest. (items_at id_at rest >>= λ ids. Some (Delete id ids.0, ids.1))

-- a line, which a `d` behind its id makes a deletion
unfoldable pub line_at : List ℕ → Read Line
line_at bytes = field_at 4294967295 (nat_lt 0) 32 bytes >>= λ id. choice_at 100 (deleted_at id.0) (added_at id.0) id.1
