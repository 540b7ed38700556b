-- What is found of a certificate of version 3: that it is accepted, or the first cause for which it is not.
use Rattle.base.specs.Witness.{witness}
use Rattle.std.specs.Prelude.{◌≡◌, ◌≢◌, ℕ, ◌+◌, ◌^◌, ◌<◌, ◌≤◌, ◌⊎◌, List, [], ◌∷◌, ◌++◌, map, length, slice_index_or, All, ℤ, Option, None, Some}
use Rattle.std.specs.FinMap as fin
use Rattle.graph.specs.declared.circuit.Lit.{Lit}
use Rattle.graph.specs.declared.circuit.Latch.{Latch}
use Rattle.graph.specs.declared.circuit.Gate.{Gate}
use Rattle.graph.specs.declared.circuit.Property.{Property}
use Rattle.graph.specs.declared.parts.Parts.{Parts}
use Rattle.graph.specs.Circuits.{HasProperty}
use Rattle.graph.specs.WellFormed.{IsWellFormed}
use Rattle.lrat.specs.declared.fault.Fault.{Fault}
use Rattle.lrat.specs.declared.fault.Fault.TheVariants.{OutOfMemory as NoMemory, NoEmptyClause}
use Rattle.lrat.specs.declared.formula.Formula.{Formula}
use Rattle.lrat.specs.declared.line.Line.{Line}
use Rattle.lrat.specs.Limits.{IsLine}
use Rattle.lrat.specs.Lines.{IsAcceptedLine}
use Rattle.lrat.specs.Literals.{Finder}
use Rattle.lrat.specs.Proofs.{HaltsAt, IsAcceptedProof, StaysOpen, first_stage}
use Rattle.lrat.specs.Refusals.{IsRefusedLine}
use Rattle.lrat.specs.Stages.{Stage, GoAlong}
use Rattle.cnf.specs.Formulas.{bad_formula}
use Rattle.cnf.specs.Evidences.{Evidence}
use Rattle.extension.specs.Accepted.{Derives, IsAcceptedCertificate, IsAcceptedFor, IsShowable, bad_of, begin_formula, circuit_of, grown_by, pair_formula}
use Rattle.extension.specs.Extended.{IsExtension, extended}
use Rattle.extension.specs.Inductive.{IsOverAll, clause_from}
use Rattle.certificate3.specs.Texts.{Certificate, Later, Proofs, Shown}
use Rattle.checker3.specs.declared.growing.GrowError.{GrowError}
use Rattle.checker3.specs.declared.growing.GrowError.TheVariants.{Refused, OutOfMemory}
use Rattle.checker3.specs.declared.check_error.CheckError.{CheckError}
use Rattle.checker3.specs.declared.check_error.CheckError.TheVariants.{NoProperty, TooManyRounds, Limit, NotExtension, Outside, Line as Fails}

-- ---- lines and hints

-- lines that were fed at a stage lead to another, or this is the first fault
abbrev pub AreFed : ℕ → Stage → Stage → List Line → Option Fault → Type 0
AreFed n s t lines None = All IsLine lines × GoAlong n s lines t
AreFed n s t lines (Some e) = (e ≢ NoMemory witness) × (k : ℕ) × HaltsAt n s lines e k

-- the first k clauses are shown by their hints
abbrev pub AreShown : ℕ → Finder → List (List ℤ) → List (List ℕ) → ℕ → Type 0
AreShown n m cs hints k = (i : ℕ) → i < k → IsAcceptedLine n m (slice_index_or cs i []) (slice_index_or hints i [])

-- the clause at k is the first whose hints do not show it
pub record IsUnshown (n : ℕ) (m : Finder) (cs : List (List ℤ)) (hints : List (List ℕ)) (e : Fault) : Type 0 where
  pub place : ℕ
  pub stands : place < length cs
  pub earlier : AreShown n m cs hints place
  pub refused : IsRefusedLine n m (slice_index_or cs place []) (slice_index_or hints place []) e

-- each clause is shown by its hints, or this is the first fault
abbrev pub AreHinted : ℕ → Finder → List (List ℤ) → List (List ℕ) → Option Fault → Type 0
AreHinted n m cs hints None = (length hints ≡ length cs) × AreShown n m cs hints (length cs)
AreHinted n m cs hints (Some e) = (e ≢ NoMemory witness) × IsUnshown n m cs hints e

-- ---- the sections

-- the lines and hints derive the clauses from the formula, or this is the first fault
abbrev pub IsDerived : Formula → List (List ℤ) → Shown → Option Fault → Type 0
IsDerived f cs s None = Derives f s.lines s.hints cs
IsDerived f cs s (Some e) =
    (e ≢ NoMemory witness)
    × (((k : ℕ) × HaltsAt f.vars (first_stage f) s.lines e k)
    ⊎ ((t : Stage) × GoAlong f.vars (first_stage f) s.lines t × IsUnshown f.vars (fin.get t.present) cs s.hints e))

-- the lines refute the formula, or this is the first fault
abbrev pub IsRefuted : Formula → List Line → Option Fault → Type 0
IsRefuted f lines None = All IsLine lines × IsAcceptedProof f lines
IsRefuted f lines (Some e) = (e ≢ NoMemory witness) × (k : ℕ) × (HaltsAt f.vars (first_stage f) lines e k ⊎ ((e ≡ NoEmptyClause) × StaysOpen f.vars (first_stage f) lines k))

-- the clauses hold at a first time
abbrev pub HoldsFirst : Parts → List (List Lit) → Shown → Option Fault → Type 0
HoldsFirst m inv = IsDerived (begin_formula m) (map (clause_from m 0) inv)

-- they hold at a time that follows one at which they hold
abbrev pub HoldsNext : Parts → List (List Lit) → Shown → Option Fault → Type 0
HoldsNext m inv = IsDerived (pair_formula m inv) (map (clause_from m (m.max_var + 1)) inv)

-- the last two sections show that, and exclude the literal
abbrev pub HasLater : Parts → Lit → List (List Lit) → Later → Option Fault → Type 0
HasLater m a inv l None = HoldsNext m inv l.step None × IsRefuted (bad_formula m inv a) l.last None
HasLater m a inv l (Some e) = HoldsNext m inv l.step (Some e) ⊎ (HoldsNext m inv l.step None × IsRefuted (bad_formula m inv a) l.last (Some e))

-- all three do
abbrev pub HasProofs : Parts → Lit → List (List Lit) → Proofs → Option Fault → Type 0
HasProofs m a inv p None = HoldsFirst m inv p.first None × HasLater m a inv p.later None
HasProofs m a inv p (Some e) = HoldsFirst m inv p.first (Some e) ⊎ (HoldsFirst m inv p.first None × HasLater m a inv p.later (Some e))

-- ---- a certificate for a literal of a circuit

-- the clause at k is the first with a literal outside of the circuit
pub record IsOutside (m : Parts) (inv : List (List Lit)) (k : ℕ) : Type 0 where
  pub before : List (List Lit)
  pub clause : List Lit
  pub after : List (List Lit)
  pub are : inv ≡ before ++ clause ∷ after
  pub place : k ≡ length before
  pub earlier : All (IsOverAll m) before
  pub outside : IsOverAll m clause → ⊥

-- further latches and gates give a well-formed circuit, and change nothing of the first one
pub record IsGrown (m : Parts) (ls : List Latch) (gs : List Gate) : Type 0 where
  pub extends : IsExtension m ls gs
  pub well_formed : IsWellFormed (extended m ls gs)

abbrev pub proofs_in : Evidence → Proofs
proofs_in e = record {
  first = record { lines = e.first; hints = e.first_hints };
  later = record { step = record { lines = e.step; hints = e.step_hints }; last = e.last };
}

-- why further latches and gates are refused
abbrev pub IsNoExtension : Parts → List Latch → List Gate → CheckError → Type 0
IsNoExtension m ls gs Limit = 4194303 < (extended m ls gs).max_var
IsNoExtension m ls gs NotExtension = IsGrown m ls gs → ⊥
IsNoExtension m ls gs _ = ⊥

-- why a circuit is not extended; memory is no fault of the latches and gates
abbrev pub IsNoGrowth : Parts → List Latch → List Gate → GrowError → Type 0
IsNoGrowth m ls gs (Refused r) = IsNoExtension m ls gs r
IsNoGrowth m ls gs (OutOfMemory refused) = Unit {0}

-- the clauses and their proofs are accepted over the circuit, or this is the first cause
abbrev pub IsProvedOver : Parts → Lit → Evidence → Option CheckError → Type 0
IsProvedOver m a e None = (length e.invariant ≤ 4194303) × All (IsOverAll m) e.invariant × HasProofs m a e.invariant (proofs_in e) None
IsProvedOver m a e (Some (Outside k)) = IsOutside m e.invariant k
IsProvedOver m a e (Some (Fails fault)) = All (IsOverAll m) e.invariant × HasProofs m a e.invariant (proofs_in e) (Some fault)
IsProvedOver m a e (Some _) = ⊥

-- the evidence is accepted for the literal, or this is the first cause
abbrev pub IsJudgedFor : Parts → Lit → Evidence → Option CheckError → Type 0
IsJudgedFor m a e None = IsAcceptedFor m a e
IsJudgedFor m a e (Some r) = IsNoExtension m e.latches e.gates r ⊎ (IsGrown m e.latches e.gates × IsProvedOver (grown_by m e) a e (Some r))

-- ---- a certificate for a circuit

-- why the property cannot be shown, whatever follows
abbrev pub IsUnshowable : Parts → Property → ℕ → CheckError → Type 0
IsUnshowable m p k NoProperty = HasProperty m p → ⊥
IsUnshowable m p k TooManyRounds = HasProperty m p × (2 ^ length m.latches < k)
IsUnshowable m p k Limit = HasProperty m p × (k ≤ 2 ^ length m.latches) × (4194303 < (circuit_of m p k).max_var)
IsUnshowable m p k _ = ⊥

-- the certificate is accepted for the circuit, or this is the first cause
abbrev pub IsJudged : Parts → Certificate → Option CheckError → Type 0
IsJudged m c None = IsAcceptedCertificate m c.claim.property c.claim.rounds c.evidence
IsJudged m c (Some r) =
    IsUnshowable m c.claim.property c.claim.rounds r
    ⊎ (IsShowable m c.claim.property c.claim.rounds × IsJudgedFor (circuit_of m c.claim.property c.claim.rounds) (bad_of m c.claim.property c.claim.rounds) c.evidence (Some r))
