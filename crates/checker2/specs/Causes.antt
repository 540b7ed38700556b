-- Why a certificate is not accepted: the first cause.
use Rattle.std.specs.Prelude.{◌≡◌, ◌≢◌, ℕ, ◌+◌, ◌*◌, ◌<◌, ◌≤◌, ◌⊎◌, List, ◌∷◌, ◌++◌, map, length, slice_index_or, All, Contains, Option, None, Some}
use Rattle.base.specs.Witness.{witness}
use Rattle.graph.specs.declared.circuit.Lit.{Lit}
use Rattle.graph.specs.declared.parts.Parts.{Parts}
use Rattle.graph.specs.Circuits.{position_of, HasProperty, variable}
use Rattle.lrat.specs.declared.fault.Fault.TheVariants.{OutOfMemory as NoMemory, NoEmptyClause, NoIds}
use Rattle.lrat.specs.declared.line.Line.{Line}
use Rattle.lrat.specs.declared.step_error.StepError.{StepError}
use Rattle.lrat.specs.Lemmas.{NoLemmaAt}
use Rattle.lrat.specs.Proofs.{first_stage, HaltsAt, StaysOpen}
use Rattle.lrat.specs.Shared.{Base, over}
use Rattle.cnf.specs.Formulas.{shared_formula}
use Rattle.certificate.specs.declared.certificate.Certificate.{Certificate}
use Rattle.checker2.specs.declared.check_error.CheckError.{CheckError}
use Rattle.checker2.specs.declared.check_error.CheckError.TheVariants.{NoProperty, Limit, Sections, NotLatch, Repeated, Section, OutOfMemory}
use Rattle.checker2.specs.declared.clause_error.ClauseError.{ClauseError}
use Rattle.checker2.specs.declared.clause_error.ClauseError.TheVariants as clauses
use Rattle.checker2.specs.declared.invariant.ClauseFault.{ClauseFault}
use Rattle.checker2.specs.declared.invariant.ClauseFault.TheVariants as fault
use Rattle.checker2.specs.Accepted.{IsGood, Case, cases, IsShared, RefuteBelow, IsShowable, circuit_of, bad_of}

-- the clause is good up to a literal of which P holds
pub record HasFirst (m : Parts) (c : List Lit) (P : List Lit → Lit → Type 0) : Type 0 where
  pub before : List Lit
  pub literal : Lit
  pub after : List Lit
  pub are : c ≡ before ++ literal ∷ after
  pub good : IsGood m before
  pub faulty : P before literal

-- the literal is a latch's or the negation of one
abbrev pub IsLatch : Parts → Lit → Type 0
IsLatch m a = Contains (map (λ l. variable l.lit) m.latches) (variable a)

-- the literal's variable is that of one of these
abbrev pub IsAmong : List Lit → Lit → Type 0
IsAmong c a = Contains (map variable c) (variable a)

-- what is wrong with the clause at its first fault: not a latch's, or repeated or opposed
abbrev pub IsClauseFault : Parts → List Lit → ClauseFault → Type 0
IsClauseFault m c fault.NotLatch = HasFirst m c (λ _ a. IsLatch m a → ⊥)
IsClauseFault m c fault.Repeated = HasFirst m c (λ before a. IsLatch m a × IsAmong before a)

-- the clause at k is the first that is not good
pub record IsFirstFault (m : Parts) (inv : List (List Lit)) (k : ℕ) (e : ClauseFault) : Type 0 where
  pub before : List (List Lit)
  pub clause : List Lit
  pub after : List (List Lit)
  pub are : inv ≡ before ++ clause ∷ after
  pub place : k ≡ length before
  pub good : All (IsGood m) before
  pub faulty : IsClauseFault m clause e

-- the case at an index
abbrev pub IsCaseAt : List Case → ℕ → Case → Type 0
IsCaseAt cs k c = (d : Case) → slice_index_or cs k d ≡ c

-- the units' ids are in the limit
abbrev pub HasIds : Case → Type 0
HasIds c = c.base.top + length c.units < 4294967296

-- why lines are no proof of a case: out of memory, the want of ids for the units, the first line that is refused, or
-- the want of the empty clause
abbrev pub IsRefusedCase : Case → List Line → StepError → Type 0
IsRefusedCase c ls e =
    (e ≡ record { fault = (NoMemory witness); line = 0 })
    ⊎ (((e ≡ record { fault = NoIds; line = 0 }) × (4294967296 ≤ c.base.top + length c.units))
    ⊎ (HasIds c × (HaltsAt c.base.vars (over c.base c.units) ls e.fault e.line ⊎ ((e.fault ≡ NoEmptyClause) × StaysOpen c.base.vars (over c.base c.units) ls e.line))))

-- how many sections stand before those of the cases: that of the lemmas, where there is one
abbrev pub lemma_sections : Option (List Line) → ℕ
lemma_sections None = 0
lemma_sections (Some lemmas) = 1

-- the section at k is the first that is no proof of its case, so many sections before those of the cases counted, and
-- this is the first cause in it
pub record IsFirstRefused (before : ℕ) (cs : List Case) (ps : List (List Line)) (e : StepError) (k : ℕ) : Type 0 where
  pub index : ℕ
  pub place : k ≡ before + index
  pub stands : index < length ps
  pub earlier : RefuteBelow cs ps index
  pub refused : (c : Case) (p : List Line) → IsRefusedCase (slice_index_or cs index c) (slice_index_or ps index p) e
  pub other : e.fault ≢ NoMemory witness

-- the first line of the lemmas, whose section is the first, that is no lemma
pub record IsRefusedLemma (m : Parts) (inv : List (List Lit)) (lemmas : Option (List Line)) (e : StepError) (k : ℕ) : Type 0 where
  pub lines : List Line
  pub are : lemmas ≡ Some lines
  pub place : k ≡ 0
  pub refused : NoLemmaAt (m.max_var + 1) (first_stage (shared_formula m inv)) lines e.fault e.line
  pub other : e.fault ≢ NoMemory witness

-- the section at k is the first that is refused: that of the lemmas, or, where they are all shared, that of a case
abbrev pub IsRefusedSection : Parts → Lit → Certificate → StepError → ℕ → Type 0
IsRefusedSection m a c e k =
    IsRefusedLemma m c.invariant c.lemmas e k
    ⊎ ((b : Base) × IsShared m c.invariant c.lemmas b × IsFirstRefused (lemma_sections c.lemmas) (cases m b c.invariant a) c.sections e k)

-- how the refusal of a proof is reported of the section at k: out of memory has no section
abbrev pub IsSectionError : StepError → ℕ → CheckError → Type 0
IsSectionError e k r = ((e.fault ≡ NoMemory witness) × (r ≡ OutOfMemory witness)) ⊎ ((e.fault ≢ NoMemory witness) × (r ≡ Section e k))

-- the first clause that is not good; memory is no fault of the clauses
abbrev pub IsClausesFault : Parts → List (List Lit) → ClauseError → Type 0
IsClausesFault m inv (clauses.NotLatch k) = IsFirstFault m inv k fault.NotLatch
IsClausesFault m inv (clauses.Repeated k) = IsFirstFault m inv k fault.Repeated
IsClausesFault m inv (clauses.OutOfMemory refused) = Unit {0}

-- what a refusal of the clauses is for the certificate
abbrev pub of_clauses : ClauseError → CheckError
of_clauses (clauses.NotLatch k) = NotLatch k
of_clauses (clauses.Repeated k) = Repeated k
of_clauses (clauses.OutOfMemory refused) = OutOfMemory witness

-- a refusal of one of the cases' sections, and of any section; memory is no fault of theirs
abbrev pub IsCaseFault : ℕ → List Case → List (List Line) → CheckError → Type 0
IsCaseFault before cs ps (Section e k) = IsFirstRefused before cs ps e k
IsCaseFault before cs ps (OutOfMemory refused) = Unit {0}
IsCaseFault before cs ps _ = ⊥

abbrev pub IsSectionFault : Parts → Lit → Certificate → CheckError → Type 0
IsSectionFault m a c (Section e k) = IsRefusedSection m a c e k
IsSectionFault m a c (OutOfMemory refused) = Unit {0}
IsSectionFault m a c _ = ⊥

-- the counts are in order
pub record IsCounted (c : Certificate) : Type 0 where
  pub few : length c.invariant < 4194304
  pub count : length c.sections ≡ 2 * length c.invariant + 1

-- the first cause of a refusal for a literal of a circuit: the number of clauses, the number of sections but that of the
-- lemmas, a clause, the lemmas, a section
abbrev pub HasCauseFor : Parts → Lit → Certificate → CheckError → Type 0
HasCauseFor m a c (NoProperty k) = ⊥
HasCauseFor m a c Limit = 4194303 < length c.invariant
HasCauseFor m a c (Sections k) = (length c.invariant < 4194304) × (k ≡ length c.sections) × (k ≢ 2 * length c.invariant + 1)
HasCauseFor m a c (NotLatch k) = IsCounted c × IsFirstFault m c.invariant k fault.NotLatch
HasCauseFor m a c (Repeated k) = IsCounted c × IsFirstFault m c.invariant k fault.Repeated
HasCauseFor m a c (Section e k) = IsCounted c × All (IsGood m) c.invariant × IsRefusedSection m a c e k
HasCauseFor m a c (OutOfMemory refused) = Unit {0}

-- it is the first cause for the property's circuit
pub record IsOfCircuit (m : Parts) (c : Certificate) (e : CheckError) : Type 0 where
  pub showable : IsShowable m c.property
  pub cause : HasCauseFor (circuit_of m c.property) (bad_of m c.property) c e

-- the first cause of each refusal: the property, the variables of its circuit, and then what there is for that
abbrev pub HasCause : Parts → Certificate → CheckError → Type 0
HasCause m c (NoProperty n) = (n ≡ position_of c.property) × (HasProperty m c.property → ⊥)
HasCause m c Limit = (HasProperty m c.property × (4194303 < (circuit_of m c.property).max_var)) ⊎ IsOfCircuit m c Limit
HasCause m c (Sections n) = IsOfCircuit m c (Sections n)
HasCause m c (NotLatch k) = IsOfCircuit m c (NotLatch k)
HasCause m c (Repeated k) = IsOfCircuit m c (Repeated k)
HasCause m c (Section e k) = IsOfCircuit m c (Section e k)
HasCause m c (OutOfMemory refused) = Unit {0}
