-- What is written of a file: one of its spellings.
use Rattle.std.specs.Prelude.{ℕ, ◌-◌, List, ◌++◌, flat_map, codes, ◌==◌, if◌then◌else◌}
use Rattle.graph.specs.declared.circuit.Latch.{Latch}
use Rattle.graph.specs.declared.circuit.Gate.{Gate}
use Rattle.graph.specs.declared.parts.Parts.{Parts}
use Rattle.graph.specs.File.{File}
use Rattle.aag.specs.Tail.{symbol_line}
use Rattle.aag.specs.Writing.{header_line, use_lines, comment_lines}
use Rattle.aig.specs.Delta.{delta_text}
use Rattle.aig.specs.Binary.{long_binary_latch, short_binary_latch}

-- a latch without its literal, and without its reset where that is 0
abbrev pub latch_line : Latch → List ℕ
latch_line l = if l.reset.0 == 0 then short_binary_latch l else long_binary_latch l

-- the differences of a gate's literals; subtraction stops at 0, so it is their text only where they descend, which the
-- writer's contract asks (IsOrdered)
abbrev pub gate_text : Gate → List ℕ
gate_text g = delta_text (g.lhs.0 - g.rhs0.0) ++ delta_text (g.rhs0.0 - g.rhs1.0)

abbrev pub circuit_text : Parts → List ℕ
circuit_text m = header_line (codes "aig ") m ++ flat_map latch_line m.latches ++ use_lines m ++ flat_map gate_text m.gates

-- the shortest header, no reset where it is 0, the symbols in their order, and the comment
abbrev pub written_text : File → List ℕ
written_text f = circuit_text f.model ++ flat_map symbol_line f.symbols ++ comment_lines f.comment
