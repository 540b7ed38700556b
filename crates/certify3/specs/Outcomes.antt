-- What came of clauses.
use Rattle.std.specs.Prelude.{◌≡◌, ℕ, List, Result, Ok, Err}
use Rattle.base.specs.Budget.{Steps}
use Rattle.graph.specs.declared.circuit.Lit.{Lit}
use Rattle.graph.specs.declared.circuit.Latch.{Latch}
use Rattle.graph.specs.declared.circuit.Gate.{Gate}
use Rattle.graph.specs.declared.parts.Parts.{Parts}
use Rattle.cnf.specs.Evidences.{Evidence}
use Rattle.extension.specs.Accepted.{IsAcceptedCertificate, bad_of, circuit_of}
use Rattle.extension.specs.Extended.{extended}
use Rattle.certificate3.specs.Texts.{Certificate, SpellsCertificate}
use Rattle.certificate3.specs.declared.claim.Claim.{Claim}
use Rattle.inductive_proofs.specs.Counterexamples.{IsCounterexample}
use Rattle.certify3.specs.declared.certified.Certified.{Certified}
use Rattle.certify3.specs.declared.certified.Certified.TheVariants as outcome
use Rattle.certify3.specs.declared.certify_error.CertifyError.{CertifyError}
use Rattle.certify3.specs.declared.certify_error.CertifyError.TheVariants.{IdsTaken, OutOfMemory}
use Rattle.inductive_proofs.specs.declared.prove_error.ProveError.{ProveError}
use Rattle.inductive_proofs.specs.declared.prove_error.ProveError.TheVariants.{NotInvariant, Spent, IdsTaken as Full, OutOfMemory as NoMemory}

-- the text spells a certificate of the circuit that is accepted
pub record IsAcceptedText (m : Parts) (text : List ℕ) : Type 0 where
  pub certificate : Certificate
  pub spelled : SpellsCertificate text certificate
  pub accepted : IsAcceptedCertificate m certificate.claim.property certificate.claim.rounds certificate.evidence

-- the text spells this claim with this evidence, and that is accepted for the circuit
pub record IsTextOf (m : Parts) (c : Claim) (e : Evidence) (text : List ℕ) : Type 0 where
  pub spelled : SpellsCertificate text (record { claim = c; evidence = e })
  pub accepted : IsAcceptedCertificate m c.property c.rounds e

-- what comes of the evidence: its text, where that is accepted
abbrev pub IsOfEvidence : Parts → Claim → Evidence → Certified → Type 0
IsOfEvidence m c e (outcome.Certificate text) = IsTextOf m c e text
IsOfEvidence m c e (outcome.NotInvariant found) = ⊥
IsOfEvidence m c e outcome.Spent = ⊥
IsOfEvidence m c e outcome.Unaccepted = Unit {0}

-- the text spells an accepted certificate of the claim, with these latches, gates and clauses
pub record IsCertificateOf (m : Parts) (c : Claim) (ls : List Latch) (gs : List Gate) (inv : List (List Lit)) (text : List ℕ) : Type 0 where
  pub evidence : Evidence
  pub latches : evidence.latches ≡ ls
  pub gates : evidence.gates ≡ gs
  pub invariant : evidence.invariant ≡ inv
  pub is_text : IsTextOf m c evidence text

-- what comes of the proofs of clauses: such a text, or nothing is known
abbrev pub IsOfClauses : Parts → Claim → List Latch → List Gate → List (List Lit) → Certified → Type 0
IsOfClauses m c ls gs inv (outcome.Certificate text) = IsCertificateOf m c ls gs inv text
IsOfClauses m c ls gs inv (outcome.NotInvariant found) = ⊥
IsOfClauses m c ls gs inv outcome.Spent = ⊥
IsOfClauses m c ls gs inv outcome.Unaccepted = Unit {0}

-- a text that is accepted, or values that satisfy a case, or a budget that is exhausted, or nothing is known
abbrev pub IsCertified : Parts → Claim → List Latch → List Gate → List (List Lit) → Steps → Certified → Type 0
IsCertified m c ls gs inv after (outcome.Certificate text) = IsCertificateOf m c ls gs inv text
IsCertified m c ls gs inv after (outcome.NotInvariant found) = IsCounterexample (extended (circuit_of m c.property c.rounds) ls gs) inv (bad_of m c.property c.rounds) found
IsCertified m c ls gs inv after outcome.Spent = after.left ≡ 0
IsCertified m c ls gs inv after outcome.Unaccepted = Unit {0}

-- what it comes to that a case has no proof
abbrev pub of_prove_error : ProveError → Result Certified CertifyError
of_prove_error (NotInvariant c) = Ok (outcome.NotInvariant c)
of_prove_error Spent = Ok outcome.Spent
of_prove_error (Full used_up) = Err (IdsTaken used_up)
of_prove_error (NoMemory refused) = Err (OutOfMemory refused)
