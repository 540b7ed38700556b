-- A certificate's text is read part by part.
use Rattle.std.proofs.Common.{◌≡◌, ℕ, List, Some, refl}
use Rattle.scan.specs.Reading.{◌>>=◌, Read}
use Rattle.scan.specs.Lists.{many_at}
use Rattle.scan.specs.Words.{any, field_at}
use Rattle.graph.specs.declared.circuit.Lit.{Lit}
use Rattle.graph.specs.declared.circuit.Latch.{Latch}
use Rattle.graph.specs.declared.circuit.Gate.{Gate}
use Rattle.lrat.specs.declared.line.Line.{Line}
use Rattle.certificate.specs.Reading.{greatest, clause_at, section_at}
use Rattle.cnf.specs.Evidences.{Evidence}
use Rattle.certificate3.specs.declared.claim.Claim.{Claim}
use Rattle.certificate3.specs.declared.sizes.Sizes.{Sizes}
use Rattle.certificate3.specs.Reading.{certificate_at, claim_at, clauses_at, evidence_at, evidence_of, first_line_at, gate_at, hints_at, latch_at, later_at, proofs_at, shown_at, sizes_at}
use Rattle.certificate3.specs.Texts.{Certificate, Later, Proofs, Shown}

abbrev pub a_shown : List Line → List (List ℕ) → Shown
a_shown lines hints = record { lines = lines; hints = hints }

pub shown_is : (letter n : ℕ) (bytes : List ℕ) → (section_at letter bytes >>= λ a. (many_at hints_at n a.1 >>= λ c. Some (a_shown a.0 c.0, c.1))) ≡ shown_at letter n bytes
unfolding shown_at
shown_is letter n bytes = refl

abbrev pub a_later : Shown → List Line → Later
a_later step last = record { step = step; last = last }

pub later_is : (n : ℕ) (bytes : List ℕ) → (shown_at 115 n bytes >>= λ a. (section_at 98 a.1 >>= λ c. Some (a_later a.0 c.0, c.1))) ≡ later_at n bytes
unfolding later_at
later_is n bytes = refl

abbrev pub a_proofs : Shown → Later → Proofs
a_proofs first later = record { first = first; later = later }

pub proofs_is : (n : ℕ) (bytes : List ℕ) → (shown_at 105 n bytes >>= λ a. (later_at n a.1 >>= λ c. Some (a_proofs a.0 c.0, c.1))) ≡ proofs_at n bytes
unfolding proofs_at
proofs_is n bytes = refl

-- ---- clauses and sections

abbrev pub then_proofs : List Latch → List Gate → ℕ → List (List Lit) → List ℕ → Read Evidence
then_proofs ls gs n inv bytes = proofs_at n bytes >>= λ p. Some (evidence_of ls gs inv p.0, p.1)

abbrev pub then_invariant : List Latch → List Gate → ℕ → List ℕ → Read Evidence
then_invariant ls gs n bytes = many_at clause_at n bytes >>= λ inv. then_proofs ls gs n inv.0 inv.1

pub clauses_is : (ls : List Latch) (gs : List Gate) (bytes : List ℕ) → (field_at greatest any 10 bytes >>= λ n. then_invariant ls gs n.0 n.1) ≡ clauses_at ls gs bytes
unfolding clauses_at
clauses_is ls gs bytes = refl

-- ---- all behind the property

abbrev pub then_gates : Sizes → List Latch → List ℕ → Read Evidence
then_gates sizes ls bytes = many_at gate_at sizes.gates bytes >>= λ gs. clauses_at ls gs.0 gs.1

abbrev pub then_latches : Sizes → List ℕ → Read Evidence
then_latches sizes bytes = many_at latch_at sizes.latches bytes >>= λ ls. then_gates sizes ls.0 ls.1

pub evidence_is : (bytes : List ℕ) → (sizes_at bytes >>= λ s. then_latches s.0 s.1) ≡ evidence_at bytes
unfolding evidence_at
evidence_is bytes = refl

-- ---- the whole

abbrev pub a_certificate : Claim → Evidence → Certificate
a_certificate claim evidence = record { claim = claim; evidence = evidence }

abbrev pub then_evidence : Claim → List ℕ → Read Certificate
then_evidence claim bytes = evidence_at bytes >>= λ e. Some (a_certificate claim e.0, e.1)

abbrev pub then_claim : Unit {0} → List ℕ → Read Certificate
then_claim first bytes = claim_at bytes >>= λ c. then_evidence c.0 c.1

pub certificate_is : (bytes : List ℕ) → (first_line_at bytes >>= λ u. then_claim u.0 u.1) ≡ certificate_at bytes
unfolding certificate_at
certificate_is bytes = refl
