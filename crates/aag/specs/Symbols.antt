-- How symbols and the comment are read.
use Rattle.std.specs.Prelude.{ℕ, ◌-◌, ◌^◌, zero, suc, Bool, true, not, ◌&&◌, List, [], ◌∷◌, length, Option, Some, None, ◌==◌, if◌then◌else◌}
use Rattle.scan.specs.Reading.{◌>>=◌, Read}
use Rattle.scan.specs.Numbers.{begins_digit}
use Rattle.scan.specs.Bytes.{byte_at}
use Rattle.scan.specs.Words.{any, field_at}
use Rattle.graph.specs.declared.symbol.Symbol.{Symbol}
use Rattle.graph.specs.declared.symbol.SymbolKind.{SymbolKind}
use Rattle.graph.specs.declared.symbol.SymbolKind.TheVariants.{Input, Latch, Output, Bad, Constraint, Justice, Fairness}

-- the kind that a letter stands for
abbrev pub kind_of : ℕ → Option SymbolKind
kind_of letter =
    if letter == 105 then Some Input
    else (if letter == 108 then Some Latch
    else (if letter == 111 then Some Output
    else (if letter == 98 then Some Bad
    else (if letter == 99 then Some Constraint
    else (if letter == 106 then Some Justice
    else (if letter == 102 then Some Fairness
    else None))))))

unfoldable pub kind_at : List ℕ → Read SymbolKind
kind_at [] = None
kind_at (letter ∷ rest) = kind_of letter >>= λ kind. Some (kind, rest)

-- the bytes up to a line end, and what follows that
unfoldable pub name_at : List ℕ → Read (List ℕ)
name_at [] = None
name_at (c ∷ cs) = if c == 10 then Some ([], cs) else (name_at cs >>= λ r. Some (c ∷ r.0, r.1))

-- a name of one byte or more
abbrev pub named_at : List ℕ → Read (List ℕ)
named_at bytes = name_at bytes >>= λ r. if length r.0 == 0 then None else Some r

-- a space and a name
abbrev pub label_at : List ℕ → Read (List ℕ)
label_at bytes = byte_at 32 bytes >>= named_at

-- a symbol by its letter, a position, a space and a name
unfoldable pub symbol_at : List ℕ → Read Symbol
symbol_at bytes = do
  kind ← kind_at bytes
  position ← field_at (2 ^ 32 - 1) any 32 kind.1
  name ← named_at position.1
  Some (record { kind = kind.0; position = position.0; name = name.0 }, name.1)

-- no symbol follows
abbrev pub ends_symbols : List ℕ → Bool
ends_symbols [] = true
ends_symbols (c ∷ cs) = (c == 99) && not (begins_digit cs)

-- the symbols up to their end, in fewer than n steps
unfoldable pub symbols_in : ℕ → List ℕ → Read (List Symbol)
symbols_in zero bytes = None
symbols_in (suc n) bytes = if ends_symbols bytes then Some ([], bytes) else (symbol_at bytes >>= λ s. symbols_in n s.1 >>= λ others. Some (s.0 ∷ others.0, others.1))

-- the symbols up to their end
abbrev pub symbols_at : List ℕ → Read (List Symbol)
symbols_at bytes = symbols_in (suc (length bytes)) bytes

-- what follows a line end, where one comes first
abbrev pub behind_line_end : List ℕ → List ℕ
behind_line_end [] = []
behind_line_end (c ∷ cs) = if c == 10 then cs else c ∷ cs

-- the comment where the symbols end
abbrev pub comment_of : List ℕ → Option (List ℕ)
comment_of [] = None
comment_of (c ∷ cs) = Some (behind_line_end cs)
