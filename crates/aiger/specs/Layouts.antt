-- Which texts spell a file in either layout (AIGER 1.9).
use Rattle.std.specs.Prelude.{◌≡◌, ◌⊎◌, ℕ, List, ◌++◌, Contains, slice_index_or}
use Rattle.graph.specs.declared.parts.Parts.{Parts}
use Rattle.graph.specs.File.{File}
use Rattle.aag.specs.Ascii.{SpellsAscii}
use Rattle.aag.specs.Spelling.{SpellsCircuit}
use Rattle.aag.specs.Refusals.{refusal_numbers as ascii_numbers}
use Rattle.aig.specs.Binary.{SpellsBinary, SpellsOrdered}
use Rattle.aig.specs.Refusals.{refusal_numbers as binary_numbers}

-- the text's second byte is `i`, as in `aig`
abbrev pub IsBinary : List ℕ → Type 0
IsBinary xs = slice_index_or xs 1 0 ≡ 105

-- the text spells the file in the binary layout where its second byte is `i`, and else in ASCII
abbrev pub SpellsFile : List ℕ → File → Type 0
SpellsFile xs f = (IsBinary xs × SpellsBinary xs f) ⊎ ((IsBinary xs → ⊥) × SpellsAscii xs f)

-- the text begins with one that spells the value
abbrev pub BeginsWith : {A : Type 0} → (List ℕ → A → Type 0) → List ℕ → A → Type 0
BeginsWith R text x = (front : List ℕ) × (rest : List ℕ) × (text ≡ front ++ rest) × R front x

-- the text begins with this circuit, in the binary layout where its second byte is `i`, and else in ASCII; what follows (symbols and
-- a comment) says nothing of it
abbrev pub SpellsModel : List ℕ → Parts → Type 0
SpellsModel xs m = (IsBinary xs × BeginsWith SpellsOrdered xs m) ⊎ ((IsBinary xs → ⊥) × BeginsWith SpellsCircuit xs m)

-- the number is that of a refusal by the reader of the text's layout
abbrev pub IsRefusalNumber : List ℕ → ℕ → Type 0
IsRefusalNumber xs n = (IsBinary xs × Contains binary_numbers n) ⊎ ((IsBinary xs → ⊥) × Contains ascii_numbers n)
