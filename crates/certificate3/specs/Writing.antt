-- What is written.
use Rattle.std.specs.Prelude.{ℕ, List, ◌++◌, length, flat_map, codes, decimal}
use Rattle.graph.specs.declared.circuit.Lit.{Lit}
use Rattle.graph.specs.declared.circuit.Latch.{Latch}
use Rattle.graph.specs.declared.circuit.Gate.{Gate}
use Rattle.certificate.specs.Texts.{number_line, clause_line, section_text}
use Rattle.cnf.specs.Evidences.{Evidence}
use Rattle.certificate3.specs.declared.claim.Claim.{Claim}
use Rattle.certificate3.specs.declared.evidence.Evidence.{Evidence as AnEvidence}
use Rattle.certificate3.specs.Texts.{Certificate, shown_text, latch_line, gate_line}

-- what is in memory, as the evidence that it is
abbrev pub evidence_in : AnEvidence → Evidence
evidence_in e = record {
  latches = e.latches;
  gates = e.gates;
  invariant = e.invariant;
  first = e.first.lines;
  first_hints = e.first.hints;
  step = e.step.lines;
  step_hints = e.step.hints;
  last = e.last;
}

-- with its claim
abbrev pub certificate_in : Claim → AnEvidence → Certificate
certificate_in claim e = record { claim = claim; evidence = evidence_in e }

-- two and three numbers on a line, a space between
abbrev pub two_line : ℕ → ℕ → List ℕ
two_line a b = decimal a ++ codes " " ++ decimal b ++ codes "\n"

abbrev pub three_line : ℕ → ℕ → ℕ → List ℕ
three_line a b c = decimal a ++ codes " " ++ decimal b ++ codes " " ++ decimal c ++ codes "\n"

-- a space and an id
abbrev pub id_text : ℕ → List ℕ
id_text n = codes " " ++ decimal n

-- how many latches and gates, and these
abbrev pub circuit_text : List Latch → List Gate → List ℕ
circuit_text ls gs = two_line (length ls) (length gs) ++ (flat_map latch_line ls ++ flat_map gate_line gs)

-- how many clauses, and these
abbrev pub invariant_text : List (List Lit) → List ℕ
invariant_text inv = number_line (length inv) ++ flat_map clause_line inv

-- the three sections
abbrev pub proofs_text : Evidence → List ℕ
proofs_text e = shown_text 105 e.first e.first_hints ++ (shown_text 115 e.step e.step_hints ++ section_text 98 e.last)
