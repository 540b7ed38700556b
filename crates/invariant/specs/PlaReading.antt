-- How a PLA is read, step by step.
use Rattle.std.specs.Prelude.{ℕ, Bool, true, false, ◌&&◌, List, [], ◌∷◌, ◌++◌, length, codes, Option, Some, None, slice_get, option_map, ◌==◌, if◌then◌else◌}
use Rattle.scan.specs.Reading.{◌>>=◌, Read}
use Rattle.scan.specs.Bytes.{tag_at}
use Rattle.scan.specs.Lists.{many_at}
use Rattle.scan.specs.Words.{any, field_at}
use Rattle.graph.specs.File.{File}
use Rattle.graph.specs.Symbols.{index_of}
use Rattle.graph.specs.declared.symbol.Symbol.{Symbol}
use Rattle.graph.specs.declared.symbol.SymbolKind.{SymbolKind}
use Rattle.graph.specs.declared.circuit.Latch.{Latch}
use Rattle.graph.specs.declared.circuit.Lit.{Lit}
use Rattle.invariant.specs.Plas.{behind_comments, columns_at, literals_against}

-- the counts of columns and of cubes
unfoldable pub head_at : List ℕ → Read (ℕ × ℕ)
head_at bytes = do
  first ← tag_at (codes ".i ") bytes
  columns ← field_at 4294967295 any 10 first
  second ← tag_at (codes ".o 1\n.p ") columns.1
  cubes ← field_at 4294967295 any 10 second
  Some ((columns.0, cubes.0), cubes.1)

-- what a row says of a column
abbrev pub value_at : List ℕ → Read (Option Bool)
value_at [] = None
value_at (c ∷ cs) =
    if c == 45 then Some (None, cs)
    else (if c == 48 then Some (Some false, cs) else (if c == 49 then Some (Some true, cs) else None))

-- a row's clause
unfoldable pub row_at : List Latch → List ℕ → Read (List Lit)
row_at [] bytes = tag_at (codes " 1\n") bytes >>= λ rest. Some ([], rest)
row_at (l ∷ ls) bytes = do
  value ← value_at bytes
  others ← row_at ls value.1
  Some (literals_against l value.0 ++ others.0, others.1)

abbrev pub begins_dot : List ℕ → Bool
begins_dot [] = false
begins_dot (c ∷ cs) = c == 46

-- what follows the line ends that come next
abbrev pub behind_lines : List ℕ → List ℕ
behind_lines [] = []
behind_lines (c ∷ cs) = if c == 10 then behind_lines cs else c ∷ cs

-- the end, and lines of no bytes
unfoldable pub end_at : List ℕ → Option (List ℕ)
end_at bytes = tag_at (codes ".e\n") bytes >>= λ lines. if length (behind_lines lines) == 0 then Some lines else None

-- the columns, as many as were said
unfoldable pub wide_at : File → ℕ → List ℕ → Read (List Latch)
wide_at file width bytes = columns_at file bytes >>= λ columns. if length columns.0 == width then Some columns else None

-- the clauses of a PLA
unfoldable pub pla_at : File → List ℕ → Option (List (List Lit))
pla_at file bytes = do
  counts ← head_at (behind_comments false bytes)
  columns ← wide_at file counts.0.0 counts.1
  rows ← many_at (row_at columns.0) counts.0.1 columns.1
  end ← end_at rows.1
  Some rows.0

-- the symbol of this kind and position is of the latch at position k
abbrev pub is_symbol_of : SymbolKind → ℕ → ℕ → Bool
is_symbol_of kind position k = (index_of kind == 1) && (position == k)

-- the name of the symbol at this place
abbrev pub name_by : List Symbol → Option ℕ → Option (List ℕ)
name_by symbols None = None
name_by symbols (Some i) = option_map (λ s. s.name) (slice_get symbols i)
