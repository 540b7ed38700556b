-- How the texts of certificates of version 3 are read, step by step.
use Rattle.std.specs.Prelude.{ℕ, List, Some, codes}
use Rattle.scan.specs.Reading.{◌>>=◌, Read}
use Rattle.scan.specs.Numbers.{number_at}
use Rattle.scan.specs.Bytes.{byte_at, tag_at, choice_at}
use Rattle.scan.specs.Words.{any, field_at}
use Rattle.scan.specs.Lists.{many_at}
use Rattle.graph.specs.declared.circuit.Lit.{Lit}
use Rattle.graph.specs.declared.circuit.Latch.{Latch}
use Rattle.graph.specs.declared.circuit.Gate.{Gate}
use Rattle.graph.specs.declared.circuit.Property.TheVariants.{Bad, Justice, Output}
use Rattle.certificate.specs.Reading.{greatest, clause_at, section_at}
use Rattle.cnf.specs.Evidences.{Evidence}
use Rattle.certificate3.specs.declared.claim.Claim.{Claim}
use Rattle.certificate3.specs.declared.sizes.Sizes.{Sizes}
use Rattle.certificate3.specs.Texts.{Certificate, Later, Proofs, Shown}

-- a literal and the byte behind it
abbrev pub literal_at : ℕ → List ℕ → Read ℕ
literal_at = field_at 4294967295 any

-- the first line
unfoldable pub first_line_at : List ℕ → Read (Unit {0})
first_line_at bytes = do
  rest ← tag_at (codes "aigcert 3\n") bytes
  Some (tt, rest)

-- the position of a bad literal; of a justice property, and its number of rounds; the letter and the position of an output
unfoldable pub bad_at : List ℕ → Read Claim
bad_at bytes = do
  n ← field_at 4294967295 any 10 bytes
  Some (record { property = Bad n.0; rounds = 0 }, n.1)

unfoldable pub justice_at : List ℕ → Read Claim
justice_at bytes = do
  n ← field_at 4294967295 any 32 bytes
  k ← field_at 4294967295 any 10 n.1
  Some (record { property = Justice n.0; rounds = k.0 }, k.1)

unfoldable pub output_at : List ℕ → Read Claim
output_at bytes = do
  rest ← byte_at 111 bytes
  n ← field_at 4294967295 any 10 rest
  Some (record { property = Output n.0; rounds = 0 }, n.1)

-- the property's line
unfoldable pub claim_at : List ℕ → Read Claim
claim_at bytes = choice_at 98 bad_at (choice_at 106 justice_at output_at) bytes

-- how many latches and gates
unfoldable pub sizes_at : List ℕ → Read Sizes
sizes_at bytes = do
  latches ← field_at greatest any 32 bytes
  gates ← field_at greatest any 10 latches.1
  Some (record { latches = latches.0; gates = gates.0 }, gates.1)

-- a latch's line, and a gate's
unfoldable pub latch_at : List ℕ → Read Latch
latch_at bytes = do
  lit ← literal_at 32 bytes
  next ← literal_at 32 lit.1
  reset ← literal_at 10 next.1
  Some (record { lit = record { 0 = lit.0 }; next = record { 0 = next.0 }; reset = record { 0 = reset.0 } }, reset.1)

unfoldable pub gate_at : List ℕ → Read Gate
gate_at bytes = do
  lhs ← literal_at 32 bytes
  rhs0 ← literal_at 32 lhs.1
  rhs1 ← literal_at 10 rhs0.1
  Some (record { lhs = record { 0 = lhs.0 }; rhs0 = record { 0 = rhs0.0 }; rhs1 = record { 0 = rhs1.0 } }, rhs1.1)

-- a space and an id
unfoldable pub spaced_at : List ℕ → Read ℕ
spaced_at bytes = do
  rest ← byte_at 32 bytes
  number_at 4294967295 rest

-- as many ids, and the line end
unfoldable pub ids_at : ℕ → List ℕ → Read (List ℕ)
ids_at count bytes = do
  ids ← many_at spaced_at count bytes
  rest ← byte_at 10 ids.1
  Some (ids.0, rest)

-- the line of a clause's hints
unfoldable pub hints_at : List ℕ → Read (List ℕ)
hints_at bytes = do
  count ← number_at greatest bytes
  ids_at count.0 count.1

-- a section, and the hints of so many clauses
unfoldable pub shown_at : ℕ → ℕ → List ℕ → Read Shown
shown_at letter count bytes = do
  lines ← section_at letter bytes
  hints ← many_at hints_at count lines.1
  Some (record { lines = lines.0; hints = hints.0 }, hints.1)

-- the last two sections, and all three
unfoldable pub later_at : ℕ → List ℕ → Read Later
later_at count bytes = do
  step ← shown_at 115 count bytes
  last ← section_at 98 step.1
  Some (record { step = step.0; last = last.0 }, last.1)

unfoldable pub proofs_at : ℕ → List ℕ → Read Proofs
proofs_at count bytes = do
  first ← shown_at 105 count bytes
  later ← later_at count first.1
  Some (record { first = first.0; later = later.0 }, later.1)

-- what a certificate has from these latches, gates, clauses and proofs
abbrev pub evidence_of : List Latch → List Gate → List (List Lit) → Proofs → Evidence
evidence_of latches gates invariant proofs = record {
  latches = latches;
  gates = gates;
  invariant = invariant;
  first = proofs.first.lines;
  first_hints = proofs.first.hints;
  step = proofs.later.step.lines;
  step_hints = proofs.later.step.hints;
  last = proofs.later.last;
}

-- the clauses and the proofs, behind these latches and gates
unfoldable pub clauses_at : List Latch → List Gate → List ℕ → Read Evidence
clauses_at latches gates bytes = do
  count ← field_at greatest any 10 bytes
  invariant ← many_at clause_at count.0 count.1
  proofs ← proofs_at count.0 invariant.1
  Some (evidence_of latches gates invariant.0 proofs.0, proofs.1)

-- all that is behind the property
unfoldable pub evidence_at : List ℕ → Read Evidence
evidence_at bytes = do
  sizes ← sizes_at bytes
  latches ← many_at latch_at sizes.0.latches sizes.1
  gates ← many_at gate_at sizes.0.gates latches.1
  clauses_at latches.0 gates.0 gates.1

unfoldable pub certificate_at : List ℕ → Read Certificate
certificate_at bytes = do
  first ← first_line_at bytes
  claim ← claim_at first.1
  evidence ← evidence_at claim.1
  Some (record { claim = claim.0; evidence = evidence.0 }, evidence.1)
