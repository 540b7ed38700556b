-- How a whole text is read.
use Rattle.std.specs.Prelude.{ℕ, List, Option, Some}
use Rattle.scan.specs.Reading.{◌>>=◌}
use Rattle.graph.specs.File.{File}
use Rattle.aag.specs.Symbols.{symbols_at, comment_of}
use Rattle.aig.specs.Sections.{circuit_at}

-- the file that a text spells, if its symbols are of what is there
unfoldable pub text_at : List ℕ → Option File
text_at bytes = do
  circuit ← circuit_at bytes
  symbols ← symbols_at circuit.1
  Some (record { model = circuit.0; symbols = symbols.0; comment = comment_of symbols.1 })
