-- A certificate's text, checked while it is read.
use Rattle.base.specs.Witness.{witness}
use Rattle.std.specs.Prelude.{◌≡◌, ◌≢◌, ℕ, ◌⊎◌, true, List, [], ◌∷◌, ◌++◌, length, All, Option, None, Some}
use Rattle.scan.specs.Reading.{◌>>=◌, Read}
use Rattle.scan.specs.Lists.{many_at}
use Rattle.scan.specs.Words.{any, field_at}
use Rattle.graph.specs.declared.circuit.Lit.{Lit}
use Rattle.graph.specs.declared.parts.Parts.{Parts}
use Rattle.lrat.specs.declared.fault.Fault.{Fault}
use Rattle.lrat.specs.declared.fault.Fault.TheVariants.{OutOfMemory as NoMemory, NoEmptyClause}
use Rattle.lrat.specs.declared.line.Line.{Line}
use Rattle.lrat.specs.Lemmas.{Extends, NoLemmaAt, base_at}
use Rattle.lrat.specs.Limits.{IsLine}
use Rattle.lrat.specs.Proofs.{HaltsAt, StaysOpen}
use Rattle.lrat.specs.Shared.{Base}
use Rattle.lrat.specs.Stages.{Stage, GoAlong}
use Rattle.certificate.specs.declared.certificate.Certificate.{Certificate}
use Rattle.certificate.specs.declared.head.Version.{Version}
use Rattle.certificate.specs.Reading.{clause_at, greatest, property_at}
use Rattle.certificate.specs.Streams.{parts_at}
use Rattle.checker2.specs.declared.check_error.CheckError.{CheckError}
use Rattle.checker2.specs.declared.check_error.CheckError.TheVariants.{OutOfMemory}
use Rattle.checker2.specs.Accepted.{Case, IsAcceptedCertificate, IsAcceptedFor, IsProofOf, IsShared, RefuteBelow, cases}
use Rattle.checker2.specs.Causes.{HasCause, HasCauseFor, IsRefusedCase, IsRefusedLemma, IsRefusedSection}
use Rattle.checker2.specs.Numbers.{number_of}

-- what is behind the first line
abbrev pub behind_version_at : Version → List ℕ → Read Certificate
behind_version_at version bytes = do
  property ← property_at bytes
  count ← field_at greatest any 10 property.1
  invariant ← many_at clause_at count.0 count.1
  parts_at version property.0 count.0 invariant.0 invariant.1

-- lines that were fed at a stage: they lead to the empty clause, or this is the first fault
abbrev pub IsFed : ℕ → Stage → List Line → Option Fault → Type 0
IsFed n s lines None = All IsLine lines × (t : Stage) × GoAlong n s lines t × (t.closed ≡ true)
IsFed n s lines (Some e) = (e ≢ NoMemory witness) × (k : ℕ) × (HaltsAt n s lines e k ⊎ ((e ≡ NoEmptyClause) × StaysOpen n s lines k))

-- the lines are a proof of the case, or this is the first fault
abbrev pub IsOfCase : Case → List Line → Option Fault → Type 0
IsOfCase c lines None = IsProofOf c lines
IsOfCase c lines (Some e) = (e ≢ NoMemory witness) × (k : ℕ) × IsRefusedCase c lines (record { fault = e; line = k })

-- each proof is of its case
abbrev pub AreProofs : List Case → List (List Line) → Type 0
AreProofs [] ps = ps ≡ []
AreProofs (c ∷ cs) [] = ⊥
AreProofs (c ∷ cs) (p ∷ ps) = IsProofOf c p × AreProofs cs ps

-- the first section that is no proof of its case has this fault
pub record IsFirstOf (cs : List Case) (ps : List (List Line)) (e : Fault) : Type 0 where
  pub before : List Case
  pub one : Case
  pub after : List Case
  pub proofs : List (List Line)
  pub lines : List Line
  pub later : List (List Line)
  pub cases : cs ≡ before ++ one ∷ after
  pub sections : ps ≡ proofs ++ lines ∷ later
  pub earlier : AreProofs before proofs
  pub refused : IsOfCase one lines (Some e)

-- the sections are proofs of the cases, or this is the first fault
abbrev pub AreOfCases : List Case → List (List Line) → Option Fault → Type 0
AreOfCases cs ps None = AreProofs cs ps
AreOfCases cs ps (Some e) = IsFirstOf cs ps e

-- the lemmas of a version lead from the shared clauses to a base, or this is the first fault
abbrev pub AreTaken : Parts → List (List Lit) → Base → Option (List Line) → Option Fault → Type 0
AreTaken m inv b lemmas None = IsShared m inv lemmas b
AreTaken m inv b lemmas (Some e) = (line : ℕ) × IsRefusedLemma m inv lemmas (record { fault = e; line = line }) 0

-- the lines of lemmas lead from a stage to a base, or this is the first fault
abbrev pub AreLemmas : ℕ → Stage → Base → List Line → Option Fault → Type 0
AreLemmas n s b lines None = (t : Stage) × All IsLine lines × Extends n s lines t × (b ≡ base_at n t)
AreLemmas n s b lines (Some e) = (e ≢ NoMemory witness) × (line : ℕ) × NoLemmaAt n s lines e line

-- what is shared and the sections are as they have to be, or this is the first fault in a section
abbrev pub HasSections : Parts → Lit → Certificate → Option Fault → Type 0
HasSections m a c None = (b : Base) × IsShared m c.invariant c.lemmas b × RefuteBelow (cases m b c.invariant a) c.sections (length c.sections)
HasSections m a c (Some e) = (line : ℕ) × (k : ℕ) × IsRefusedSection m a c (record { fault = e; line = line }) k

-- a certificate is accepted for a literal of the circuit, or the number is that of the first cause
abbrev pub IsFoundFor : Parts → Lit → Certificate → Option ℕ → Type 0
IsFoundFor m a c None = IsAcceptedFor m a c
IsFoundFor m a c (Some n) = (e : CheckError) × (e ≢ OutOfMemory witness) × HasCauseFor m a c e × (n ≡ number_of e)

-- a certificate is accepted for the circuit, or the number is that of the first cause
abbrev pub IsFound : Parts → Certificate → Option ℕ → Type 0
IsFound m c None = IsAcceptedCertificate m c
IsFound m c (Some n) = (e : CheckError) × (e ≢ OutOfMemory witness) × HasCause m c e × (n ≡ number_of e)
