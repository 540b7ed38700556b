-- Which text spells a certificate of version 3.
use Rattle.std.specs.Prelude.{◌≡◌, ℕ, ◌<◌, ◌≤◌, List, ◌++◌, All, length, flat_map, codes, decimal}
use Rattle.graph.specs.declared.circuit.Lit.{Lit}
use Rattle.graph.specs.declared.circuit.Latch.{Latch}
use Rattle.graph.specs.declared.circuit.Gate.{Gate}
use Rattle.graph.specs.declared.circuit.Property.{Property}
use Rattle.graph.specs.declared.circuit.Property.TheVariants.{Bad, Justice, Output}
use Rattle.graph.specs.Circuits.{position_of, property_text}
use Rattle.lrat.specs.declared.line.Line.{Line}
use Rattle.lrat.specs.Limits.{IsLine}
use Rattle.certificate.specs.Texts.{number_line, clause_line, section_text}
use Rattle.cnf.specs.Evidences.{Evidence}
use Rattle.certificate3.specs.declared.claim.Claim.{Claim}

-- a certificate: what it claims, and what shows it
pub record Certificate : Type 0 where
  pub claim : Claim
  pub evidence : Evidence

-- lines, and the hints of each clause behind them
pub record Shown : Type 0 where
  pub lines : List Line
  pub hints : List (List ℕ)

-- the proofs of a step, and of the literal
pub record Later : Type 0 where
  pub step : Shown
  pub last : List Line

-- the proof of a first time, and those
pub record Proofs : Type 0 where
  pub first : Shown
  pub later : Later

-- how many ids there are, and these, a space before each
abbrev pub hints_line : List ℕ → List ℕ
hints_line ids = decimal (length ids) ++ flat_map (λ n. codes " " ++ decimal n) ids ++ codes "\n"

-- a latch and a gate, as in the ASCII layout: a latch always with its reset
abbrev pub latch_line : Latch → List ℕ
latch_line l = decimal l.lit.0 ++ codes " " ++ decimal l.next.0 ++ codes " " ++ decimal l.reset.0 ++ codes "\n"

abbrev pub gate_line : Gate → List ℕ
gate_line g = decimal g.lhs.0 ++ codes " " ++ decimal g.rhs0.0 ++ codes " " ++ decimal g.rhs1.0 ++ codes "\n"

-- the property, for justice with the number of rounds
abbrev pub claim_text : Property → ℕ → List ℕ
claim_text (Bad n) k = property_text (Bad n) ++ codes "\n"
claim_text (Justice n) k = property_text (Justice n) ++ codes " " ++ decimal k ++ codes "\n"
claim_text (Output n) k = property_text (Output n) ++ codes "\n"

-- a section, and the hints behind it
abbrev pub shown_text : ℕ → List Line → List (List ℕ) → List ℕ
shown_text letter lines hints = section_text letter lines ++ flat_map hints_line hints

-- how many latches and gates there are, and these; how many clauses, and these; the section of a first time, with the hints
-- of each clause; that of a step, with the hints of each clause; and that of the literal
abbrev pub evidence_text : Evidence → List ℕ
evidence_text e =
    (decimal (length e.latches) ++ codes " " ++ decimal (length e.gates) ++ codes "\n")
    ++ flat_map latch_line e.latches ++ flat_map gate_line e.gates
    ++ number_line (length e.invariant) ++ flat_map clause_line e.invariant
    ++ shown_text 105 e.first e.first_hints
    ++ shown_text 115 e.step e.step_hints
    ++ section_text 98 e.last

-- the version, the property, and the evidence
abbrev pub certificate_text : Certificate → List ℕ
certificate_text c = codes "aigcert 3\n" ++ claim_text c.claim.property c.claim.rounds ++ evidence_text c.evidence

-- a literal fits 32 bits
abbrev pub IsWord : Lit → Type 0
IsWord a = a.0 < 4294967296

pub record AreLatchWords (l : Latch) : Type 0 where
  pub lit : IsWord l.lit
  pub next : IsWord l.next
  pub reset : IsWord l.reset

pub record AreGateWords (g : Gate) : Type 0 where
  pub lhs : IsWord g.lhs
  pub rhs0 : IsWord g.rhs0
  pub rhs1 : IsWord g.rhs1

-- so many hints as the limits allow, each of 32 bits
pub record AreHints (ids : List ℕ) : Type 0 where
  pub short : length ids ≤ 4194303
  pub words : All (λ n. n < 4294967296) ids

-- a clause of a length in the limits, its literals of 32 bits
pub record AreLiterals (c : List Lit) : Type 0 where
  pub short : length c ≤ 4194303
  pub words : All IsWord c

-- a safety property has no number of rounds
abbrev pub HasRounds : Property → ℕ → Type 0
HasRounds (Bad n) k = k ≡ 0
HasRounds (Justice n) k = k < 4294967296
HasRounds (Output n) k = k ≡ 0

pub record IsClaim (c : Claim) : Type 0 where
  pub position : position_of c.property < 4294967296
  pub rounds : HasRounds c.property c.rounds

-- numbers and counts in their limits, and as many lists of hints as clauses
pub record IsEvidence (e : Evidence) : Type 0 where
  pub latches : length e.latches ≤ 4194303
  pub gates : length e.gates ≤ 4194303
  pub latch_words : All AreLatchWords e.latches
  pub gate_words : All AreGateWords e.gates
  pub few : length e.invariant ≤ 4194303
  pub clauses : All AreLiterals e.invariant
  pub first_lines : All IsLine e.first
  pub first_count : length e.first_hints ≡ length e.invariant
  pub first_hints : All AreHints e.first_hints
  pub step_lines : All IsLine e.step
  pub step_count : length e.step_hints ≡ length e.invariant
  pub step_hints : All AreHints e.step_hints
  pub last_lines : All IsLine e.last

-- the text is the certificate's, which has one
pub record SpellsCertificate (text : List ℕ) (c : Certificate) : Type 0 where
  pub spells : text ≡ certificate_text c
  pub claim : IsClaim c.claim
  pub within : IsEvidence c.evidence
