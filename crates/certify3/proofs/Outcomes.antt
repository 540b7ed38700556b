-- What comes of clauses, and why nothing does.
use Rattle.std.proofs.Common.{◌≡◌, List, Result, Ok, Err, IfOk, IfErr, inl, inr, sym, subst}
use Rattle.base.specs.Budget.{Steps}
use Rattle.base.specs.Witness.{witness}
use Rattle.graph.specs.declared.circuit.Lit.{Lit}
use Rattle.graph.specs.declared.circuit.Latch.{Latch}
use Rattle.graph.specs.declared.circuit.Gate.{Gate}
use Rattle.graph.specs.declared.parts.Parts.{Parts}
use Rattle.cnf.specs.Evidences.{Evidence}
use Rattle.certificate3.specs.declared.claim.Claim.{Claim}
use Rattle.certify3.specs.Causes.{HasCause, IsFault, IsLate, IsOutsideAt, IsUnspent}
use Rattle.certify3.specs.Outcomes.{IsCertified, IsOfClauses, IsOfEvidence, of_prove_error}
use Rattle.certify3.specs.Subjects.{HasNoSubject, IsSubject}
use Rattle.inductive_proofs.specs.declared.subject.Subject.{Subject}
use Rattle.certify3.specs.declared.certified.Certified.{Certified}
use Rattle.certify3.specs.declared.certified.Certified.TheVariants as outcome
use Rattle.certify3.specs.declared.certify_error.CertifyError.{CertifyError}
use Rattle.certify3.specs.declared.certify_error.CertifyError.TheVariants.{NoProperty, Refused, TooMany, Repeated, IdsTaken, OutOfMemory}
use Rattle.inductive_proofs.specs.declared.prove_error.ProveError.{ProveError}
use Rattle.inductive_proofs.specs.declared.prove_error.ProveError.TheVariants as error

-- ---- what comes of the evidence comes of the clauses

one_of_clauses : (m : Parts) (c : Claim) (ls : List Latch) (gs : List Gate) (inv : List (List Lit)) (e : Evidence) (r : Certified) → e.latches ≡ ls → e.gates ≡ gs → e.invariant ≡ inv →
    IsOfEvidence m c e r → IsOfClauses m c ls gs inv r
one_of_clauses m c ls gs inv e (outcome.Certificate text) latches gates clauses is = record { evidence = e; latches = latches; gates = gates; invariant = clauses; is_text = is }
one_of_clauses m c ls gs inv e (outcome.NotInvariant found) latches gates clauses is = is
one_of_clauses m c ls gs inv e outcome.Spent latches gates clauses is = is
one_of_clauses m c ls gs inv e outcome.Unaccepted latches gates clauses is = tt

pub of_clauses : (m : Parts) (c : Claim) (ls : List Latch) (gs : List Gate) (inv : List (List Lit)) (e : Evidence) (r : Result Certified CertifyError) → e.latches ≡ ls → e.gates ≡ gs → e.invariant ≡ inv →
    IfOk r (IsOfEvidence m c e) → IfOk r (IsOfClauses m c ls gs inv)
of_clauses m c ls gs inv e (Ok r) latches gates clauses is = one_of_clauses m c ls gs inv e r latches gates clauses is
of_clauses m c ls gs inv e (Err x) latches gates clauses is = tt

one_certified : (m : Parts) (c : Claim) (ls : List Latch) (gs : List Gate) (inv : List (List Lit)) (after : Steps) (r : Certified) → IsOfClauses m c ls gs inv r → IsCertified m c ls gs inv after r
one_certified m c ls gs inv after (outcome.Certificate text) is = is
one_certified m c ls gs inv after (outcome.NotInvariant found) is = absurd is
one_certified m c ls gs inv after outcome.Spent is = absurd is
one_certified m c ls gs inv after outcome.Unaccepted is = tt

pub certified_by : (m : Parts) (c : Claim) (ls : List Latch) (gs : List Gate) (inv : List (List Lit)) (after : Steps) (r : Result Certified CertifyError) → IfOk r (IsOfClauses m c ls gs inv) → IfOk r (IsCertified m c ls gs inv after)
certified_by m c ls gs inv after (Ok r) is = one_certified m c ls gs inv after r is
certified_by m c ls gs inv after (Err x) is = tt

-- ---- what stops the proofs

pub memory_late : (r : Result Certified CertifyError) → IfErr r (λ e. e ≡ OutOfMemory witness) → IfErr r IsLate
memory_late (Ok v) is = tt
memory_late (Err e) is = subst IsLate (sym is) tt

halt_late : (h : ProveError) → IfErr (of_prove_error h) IsLate
halt_late (error.NotInvariant c) = tt
halt_late error.Spent = tt
halt_late (error.IdsTaken used_up) = tt
halt_late (error.OutOfMemory refused) = tt

pub halted_late : (h : ProveError) (r : Result Certified CertifyError) → r ≡ of_prove_error h → IfErr r IsLate
halted_late h r is = subst (λ (q : Result Certified CertifyError). IfErr q IsLate) (sym is) (halt_late h)

-- ---- causes

pub late_cause : (m : Parts) (c : Claim) (ls : List Latch) (gs : List Gate) (inv : List (List Lit)) (e : CertifyError) → IsLate e → HasCause m c ls gs inv e
late_cause m c ls gs inv (NoProperty n) late = absurd late
late_cause m c ls gs inv (Refused r) late = absurd late
late_cause m c ls gs inv TooMany late = absurd late
late_cause m c ls gs inv (Repeated k) late = absurd late
late_cause m c ls gs inv (IdsTaken used_up) late = tt
late_cause m c ls gs inv (OutOfMemory refused) late = tt

pub late_unspent : (before after : Steps) (e : CertifyError) → IsLate e → IsUnspent before after e
late_unspent before after (NoProperty n) late = absurd late
late_unspent before after (Refused r) late = absurd late
late_unspent before after TooMany late = absurd late
late_unspent before after (Repeated k) late = absurd late
late_unspent before after (IdsTaken used_up) late = tt
late_unspent before after (OutOfMemory refused) late = tt

-- where nothing was spent
pub early_unspent : (before after : Steps) (e : CertifyError) → after ≡ before → IsUnspent before after e
early_unspent before after (NoProperty n) same = same
early_unspent before after (Refused r) same = same
early_unspent before after TooMany same = same
early_unspent before after (Repeated k) same = same
early_unspent before after (IdsTaken used_up) same = tt
early_unspent before after (OutOfMemory refused) same = tt

pub subject_cause : (m : Parts) (c : Claim) (ls : List Latch) (gs : List Gate) (inv : List (List Lit)) (e : CertifyError) → HasNoSubject m c ls gs e → HasCause m c ls gs inv e
subject_cause m c ls gs inv (NoProperty n) is = is
subject_cause m c ls gs inv (Refused r) (inl none) = inl none
subject_cause m c ls gs inv (Refused r) (inr (showable, none)) = inr (showable, inl none)
subject_cause m c ls gs inv TooMany is = absurd is
subject_cause m c ls gs inv (Repeated k) is = absurd is
subject_cause m c ls gs inv (IdsTaken used_up) is = tt
subject_cause m c ls gs inv (OutOfMemory refused) is = tt

pub fault_cause : (m : Parts) (c : Claim) (ls : List Latch) (gs : List Gate) (inv : List (List Lit)) (s : Subject) (e : CertifyError) → IsSubject m c ls gs s → IsFault s.circuit inv e → HasCause m c ls gs inv e
fault_cause m c ls gs inv s (NoProperty n) subject is = absurd is
fault_cause m c ls gs inv s (Refused r) subject is = inr (subject.showable, inr (subject.grown, subst (λ (t : Parts). IsOutsideAt t inv r) subject.circuit is))
fault_cause m c ls gs inv s TooMany subject is = (subject.showable, subject.grown, is)
fault_cause m c ls gs inv s (Repeated k) subject is = (subject.showable, subject.grown, subst (λ (t : Parts). IsFault t inv (Repeated k)) subject.circuit is)
fault_cause m c ls gs inv s (IdsTaken used_up) subject is = tt
fault_cause m c ls gs inv s (OutOfMemory refused) subject is = tt
