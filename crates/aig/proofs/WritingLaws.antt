-- What is written of a file spells it.
use Rattle.std.proofs.Common.{◌≡◌, ℕ, ◌-◌, ◌≤◌, eqb, List, [], ◌∷◌, ◌++◌, length, refl, arith, append_assoc, inl, inr}
use Rattle.std.specs.Prelude.{flat_map, decimal, codes}
use Rattle.std.proofs.lemmas.Bool.{cases_Bool, eqb-true}
use Rattle.scan.specs.Lists.{spaced}
use Rattle.graph.specs.declared.circuit.Latch.{Latch}
use Rattle.graph.specs.declared.circuit.Gate.{Gate}
use Rattle.graph.specs.declared.parts.Parts.{Parts}
use Rattle.graph.specs.File.{File}
use Rattle.graph.specs.Symbols.{symbol_counts, AreSymbols}
use Rattle.graph.specs.Circuits.{justice_literals, IsOrdered}
use Rattle.graph.specs.WellFormed.{IsWellFormed}
use Rattle.aag.specs.Lines.{greatest}
use Rattle.aag.specs.Spelling.{IsCircuitLiteral, IsLiteralLine}
use Rattle.aag.specs.Tail.{symbol_line}
use Rattle.aag.specs.Writing.{trimmed, literal_line, size_line, comment_lines}
use Rattle.aag.proofs.WritingLaws.{IsFineLatch, IsFineGate, fine_lists, each_written, literal_written, sizes_written, symbols_written, comment_written, counts_written}
use Rattle.aig.specs.Binary.{IsBinaryLatchLine, IsGateDeltas, SpellsOrdered, SpellsBinary}
use Rattle.aig.specs.Delta.{delta_text}
use Rattle.aig.specs.Writing.{latch_line, gate_text, circuit_text, written_text}
use Rattle.aig.proofs.PieceLaws.{delta_spells}

latch_written : (max : ℕ) (l : Latch) → IsFineLatch max l → IsBinaryLatchLine max (latch_line l) l
latch_written max l fine = elim (cases_Bool (eqb l.reset.0 0)) [
  | inl y ↦ rw y (record { spells = inr (eqb-true l.reset.0 0 y, refl); next = fine.next; reset = fine.reset })
  | inr n ↦ rw n (record { spells = inl refl; next = fine.next; reset = fine.reset })
]

gate_written : (max : ℕ) (g : Gate) → max ≤ greatest → IsFineGate max g → IsGateDeltas (gate_text g) g
gate_written max g le fine = record {
  first = delta_text (g.lhs.0 - g.rhs0.0);
  second = delta_text (g.rhs0.0 - g.rhs1.0);
  spells = refl;
  first_delta = delta_spells (g.lhs.0 - g.rhs0.0) (omega (arith, fine.own.literal, le));
  second_delta = delta_spells (g.rhs0.0 - g.rhs1.0) (omega (arith, fine.left, le));
}

regroup : (w m h e l a b c d f g k : List ℕ) → (w ++ m ++ h ++ e) ++ l ++ (a ++ b ++ c ++ d ++ f ++ g) ++ k ≡ w ++ m ++ (h ++ e) ++ l ++ a ++ b ++ c ++ d ++ f ++ g ++ k
regroup w m h e l a b c d f g k = simp append_assoc

pub circuit_written : (m : Parts) → IsWellFormed m → IsOrdered m → SpellsOrdered (circuit_text m) m
circuit_written m w ordered =
    let fine = fine_lists m w in
    let max = m.max_var in
    let P = IsCircuitLiteral max in
    let R = IsLiteralLine max in
    let counts : List ℕ = length m.inputs ∷ length m.latches ∷ length m.outputs ∷ length m.gates ∷ trimmed (length m.bad ∷ length m.constraints ∷ length m.justice ∷ length m.fairness ∷ []) in
    record {
      head = flat_map spaced counts ++ 10 ∷ [];
      latches = flat_map latch_line m.latches;
      outputs = flat_map literal_line m.outputs;
      bad = flat_map literal_line m.bad;
      constraints = flat_map literal_line m.constraints;
      sizes = flat_map size_line m.justice;
      justice = flat_map literal_line (justice_literals m.justice);
      fairness = flat_map literal_line m.fairness;
      gates = flat_map gate_text m.gates;
      whole = regroup (codes "aig ") (decimal m.max_var) (flat_map spaced counts) (10 ∷ []) (flat_map latch_line m.latches) (flat_map literal_line m.outputs) (flat_map literal_line m.bad)
          (flat_map literal_line m.constraints) (flat_map size_line m.justice) (flat_map literal_line (justice_literals m.justice)) (flat_map literal_line m.fairness) (flat_map gate_text m.gates);
      max_var = w.limits.max_var;
      counts = counts_written m w.limits;
      ordered = ordered;
      each_latch = each_written (IsFineLatch max) (IsBinaryLatchLine max) latch_line (latch_written max) m.latches fine.latches;
      each_output = each_written P R literal_line (literal_written max) m.outputs fine.outputs;
      each_bad = each_written P R literal_line (literal_written max) m.bad fine.bad;
      each_constraint = each_written P R literal_line (literal_written max) m.constraints fine.constraints;
      each_size = sizes_written m.justice;
      each_justice = each_written P R literal_line (literal_written max) (justice_literals m.justice) fine.justice;
      each_fairness = each_written P R literal_line (literal_written max) m.fairness fine.fairness;
      each_gate = each_written (IsFineGate max) IsGateDeltas gate_text (λ g f. gate_written max g w.limits.max_var f) m.gates fine.gates;
      justice_room = w.limits.justice_sum;
    }

-- what is written of a file whose circuit is ordered spells it, where it is short enough
pub file_written : (f : File) → IsWellFormed f.model → AreSymbols (symbol_counts f.model) f.symbols → IsOrdered f.model → length (written_text f) ≤ 67108864 → SpellsBinary (written_text f) f
file_written f well_formed are ordered short = record {
  circuit = circuit_text f.model;
  symbols = flat_map symbol_line f.symbols;
  comment = comment_lines f.comment;
  whole = refl;
  short = short;
  spells_circuit = circuit_written f.model well_formed ordered;
  each_symbol = symbols_written f.symbols;
  are_symbols = are;
  spells_comment = comment_written f.comment;
}
