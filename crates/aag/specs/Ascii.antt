-- Which texts spell a file (AIGER 1.9).
use Rattle.std.specs.Prelude.{◌≡◌, ℕ, ◌≤◌, List, ◌++◌, length, Option, Result, Ok, Err}
use Rattle.base.specs.Witness.{witness}
use Rattle.scan.specs.Lists.{Each}
use Rattle.graph.specs.declared.error.ReadError.{ReadError}
use Rattle.graph.specs.declared.error.ReadError.TheVariants.{OutOfMemory}
use Rattle.graph.specs.declared.parts.Parts.{Parts}
use Rattle.graph.specs.declared.symbol.Symbol.{Symbol}
use Rattle.graph.specs.WellFormed.{IsWellFormed}
use Rattle.graph.specs.File.{File}
use Rattle.graph.specs.Symbols.{symbol_counts, AreSymbols}
use Rattle.aag.specs.Spelling.{SpellsCircuit}
use Rattle.aag.specs.Tail.{IsSymbolLine, IsComment}

-- a file by its parts
abbrev pub file_of : Parts → List Symbol → Option (List ℕ) → File
file_of m symbols comment = record { model = m; symbols = symbols; comment = comment }

-- a text of at most 67108864 bytes: a well-formed circuit, a line for each symbol, of something that is there and no two of
-- the same, and a comment or none
pub record SpellsAscii (text : List ℕ) (f : File) : Type 0 where
  pub circuit : List ℕ
  pub symbols : List ℕ
  pub comment : List ℕ
  pub whole : text ≡ circuit ++ symbols ++ comment
  pub short : length text ≤ 67108864
  pub spells_circuit : SpellsCircuit circuit f.model
  pub well_formed : IsWellFormed f.model
  pub each_symbol : Each IsSymbolLine symbols f.symbols
  pub are_symbols : AreSymbols (symbol_counts f.model) f.symbols
  pub spells_comment : IsComment comment f.comment

-- this file, unless memory ran out
abbrev pub IsRead : Result File ReadError → File → Type 0
IsRead (Ok g) f = g ≡ f
IsRead (Err e) f = e ≡ OutOfMemory witness
