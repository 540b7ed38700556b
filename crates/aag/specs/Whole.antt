-- How a whole text is read.
use Rattle.std.specs.Prelude.{◌≡◌, ℕ, List, [], ◌∷◌, ◌++◌, Option, Some, Result, Ok, Err}
use Rattle.scan.specs.declared.fault.Fault.{Fault}
use Rattle.scan.specs.declared.fault.Fault.TheVariants.{Memory, Text}
use Rattle.scan.specs.Reading.{◌>>=◌, Read}
use Rattle.graph.specs.declared.parts.Parts.{Parts}
use Rattle.graph.specs.declared.symbol.Symbol.{Symbol}
use Rattle.graph.specs.Symbols.{Labels, IsFree}
use Rattle.graph.specs.File.{File}
use Rattle.aag.specs.Sections.{circuit_at}
use Rattle.aag.specs.Symbols.{symbols_at, comment_of}

-- where a fault is reported, nothing is read that keeps P
abbrev pub Refuses : {K Y : Type 0} → (Y → Type 0) → Fault K → Option Y → Type 0
Refuses P (Memory refused) read = Unit {0}
Refuses {K} {Y} P (Text kind left) read = (y : Y) → read ≡ Some y → P y → ⊥

-- what a function returned, seen by view, is what reading gives, and keeps P; where a fault is reported, nothing is read that keeps P
abbrev pub GivesOnly : {K X Y : Type 0} → (Y → Type 0) → (X → Y) → Result X (Fault K) → Option Y → Type 0
GivesOnly P view (Ok x) read = (read ≡ Some (view x)) × P (view x)
GivesOnly P view (Err e) read = Refuses P e read

-- the symbol that is read names something free, and is added
pub record Adds (before after : Labels) (read : Read Symbol) (rest : List ℕ) : Type 0 where
  pub symbol : Symbol
  pub was_read : read ≡ Some (symbol, rest)
  pub is_free : IsFree before.counts before.symbols symbol
  pub added : after ≡ record { counts = before.counts; symbols = before.symbols ++ symbol ∷ [] }

-- the file of these parts with the symbols and the comment that follow, if the symbols are of what is there
unfoldable pub file_at : Parts → List ℕ → Option File
file_at m bytes = do
  symbols ← symbols_at bytes
  Some (record { model = m; symbols = symbols.0; comment = comment_of symbols.1 })

-- the file that a text spells, if its circuit is well formed and its symbols are of what is there
unfoldable pub text_at : List ℕ → Option File
text_at bytes = do
  circuit ← circuit_at bytes
  symbols ← symbols_at circuit.1
  Some (record { model = circuit.0; symbols = symbols.0; comment = comment_of symbols.1 })
