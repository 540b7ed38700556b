-- What is written of a file: one of its spellings.
use Rattle.std.specs.Prelude.{ℕ, ◌&&◌, List, [], ◌∷◌, ◌++◌, length, flat_map, decimal, codes, Option, Some, None, ◌==◌, if◌then◌else◌}
use Rattle.scan.specs.Lists.{spaced}
use Rattle.graph.specs.declared.circuit.Lit.{Lit}
use Rattle.graph.specs.declared.circuit.Latch.{Latch}
use Rattle.graph.specs.declared.circuit.Gate.{Gate}
use Rattle.graph.specs.declared.parts.Parts.{Parts}
use Rattle.graph.specs.File.{File}
use Rattle.graph.specs.Circuits.{justice_literals}
use Rattle.aag.specs.Spelling.{long_latch, short_latch}
use Rattle.aag.specs.Tail.{symbol_line}

-- the numbers without the zeros at their end
unfoldable pub trimmed : List ℕ → List ℕ
trimmed [] = []
trimmed (n ∷ ns) = if (n == 0) && (length (trimmed ns) == 0) then [] else n ∷ trimmed ns

-- the shortest header that begins with this word
abbrev pub header_line : List ℕ → Parts → List ℕ
header_line word m =
    word ++ decimal m.max_var
    ++ flat_map spaced (length m.inputs ∷ length m.latches ∷ length m.outputs ∷ length m.gates
    ∷ trimmed (length m.bad ∷ length m.constraints ∷ length m.justice ∷ length m.fairness ∷ []))
    ++ 10 ∷ []

abbrev pub size_line : List Lit → List ℕ
size_line lits = decimal (length lits) ++ 10 ∷ []

abbrev pub literal_line : Lit → List ℕ
literal_line a = decimal a.0 ++ 10 ∷ []

-- a latch, without its reset where that is 0
abbrev pub latch_line : Latch → List ℕ
latch_line l = if l.reset.0 == 0 then short_latch l else long_latch l

abbrev pub gate_line : Gate → List ℕ
gate_line g = decimal g.lhs.0 ++ 32 ∷ decimal g.rhs0.0 ++ 32 ∷ decimal g.rhs1.0 ++ 10 ∷ []

-- a c, a line end and the comment
abbrev pub comment_lines : Option (List ℕ) → List ℕ
comment_lines None = []
comment_lines (Some comment) = 99 ∷ 10 ∷ comment

-- the lines between those of the latches and those of the gates
abbrev pub use_lines : Parts → List ℕ
use_lines m =
    flat_map literal_line m.outputs
    ++ flat_map literal_line m.bad
    ++ flat_map literal_line m.constraints
    ++ flat_map size_line m.justice
    ++ flat_map literal_line (justice_literals m.justice)
    ++ flat_map literal_line m.fairness

abbrev pub circuit_text : Parts → List ℕ
circuit_text m =
    header_line (codes "aag ") m
    ++ flat_map literal_line m.inputs
    ++ flat_map latch_line m.latches
    ++ flat_map literal_line m.outputs
    ++ flat_map literal_line m.bad
    ++ flat_map literal_line m.constraints
    ++ flat_map size_line m.justice
    ++ flat_map literal_line (justice_literals m.justice)
    ++ flat_map literal_line m.fairness
    ++ flat_map gate_line m.gates

-- the shortest header, no reset where it is 0, the symbols in their order, and the comment
abbrev pub written_text : File → List ℕ
written_text f = circuit_text f.model ++ flat_map symbol_line f.symbols ++ comment_lines f.comment
