-- What an accepted certificate shows.
use Rattle.std.proofs.Common.{◌≡◌, ◌≢◌, ℕ, ◌+◌, ◌*◌, ◌<◌, ◌≤◌, Bool, List, [], ◌∷◌, ◌++◌, map, length, get_or, All, AllPairs, Option, Some, Result, Ok, Err, IfErr, OnOk, inl, inr, refl, sym, ◌∙◌, ap, subst, arith, length-append}
use Rattle.std.specs.FinMap as fin
use Rattle.std.proofs.lemmas.List.{get_or_at, get_or_append_left, map-append}
use Rattle.graph.proofs.Evaluation.{All-left, All-right}
use Rattle.base.specs.Witness.{witness}
use Rattle.graph.specs.declared.circuit.Lit.{Lit}
use Rattle.graph.specs.declared.circuit.Property.{Property}
use Rattle.graph.specs.declared.circuit.Property.TheVariants.{Bad, Justice, Output}
use Rattle.graph.specs.declared.parts.Parts.{Parts}
use Rattle.graph.specs.Circuits.{IsSafe, variable, HasProperty, IsWatched}
use Rattle.graph.specs.WellFormed.{IsWellFormed}
use Rattle.live_safe.specs.Shadow.{closing_literal, shadow_of}
use Rattle.live_safe.proofs.Consequence.{bounded_if_safe}
use Rattle.live_safe.proofs.Shape.{shadow_well_formed}
use Rattle.lrat.specs.declared.formula.Formula.{Formula}
use Rattle.lrat.specs.declared.line.Line.{Line}
use Rattle.lrat.specs.declared.step_error.StepError.{StepError}
use Rattle.lrat.specs.Literals.{IsSatisfied, Satisfies}
use Rattle.lrat.specs.Proofs.{Solves}
use Rattle.lrat.specs.Shared.{Base, unit_clauses}
use Rattle.lrat.proofs.Extending.{refused_extension_not}
use Rattle.lrat.proofs.Fit.{if_err}
use Rattle.lrat.proofs.Sharing.{over_sound_law}
use Rattle.cnf.specs.Formulas.{shared_formula, start_formula}
use Rattle.cnf.specs.Invariants.{AreContradictory, IsInductive}
use Rattle.stimulus.proofs.Watching.{bad_watched, output_watched}
use Rattle.cnf.proofs.Listed.{satisfied-units}
use Rattle.cnf.proofs.Safety.{safety_law}
use Rattle.certificate.specs.declared.certificate.Certificate.{Certificate}
use Rattle.checker2.specs.declared.check_error.CheckError.{CheckError}
use Rattle.checker2.specs.declared.check_error.CheckError.TheVariants.{NoProperty, Limit, Sections, NotLatch, Repeated, Section, OutOfMemory}
use Rattle.checker2.specs.declared.clause_error.ClauseError.{ClauseError}
use Rattle.checker2.specs.declared.clause_error.ClauseError.TheVariants as clauses
use Rattle.checker2.specs.declared.invariant.ClauseFault.{ClauseFault}
use Rattle.checker2.specs.declared.invariant.ClauseFault.TheVariants as fault
use Rattle.checker2.specs.Accepted.{Case, init_case, step_case, bad_case, cases, IsProofOf, IsShared, RefuteBelow, IsGood, IsAcceptedFor, IsShowable, circuit_of, bad_of, IsAcceptedCertificate, AcceptedLaw}
use Rattle.graph.specs.Circuits.{IsUpheld}
use Rattle.checker2.specs.Causes.{HasCause, HasCauseFor, IsOfCircuit, IsClausesFault, of_clauses, IsFirstFault, IsCaseAt, IsCaseFault, IsRefusedLemma, IsRefusedSection, IsSectionFault, lemma_sections, IsCounted, IsLatch, IsAmong}
use Rattle.checker2.proofs.InOrder.{case_init, case_step, case_bad}
use Rattle.checker2.proofs.RefusedCases.{refused_case_not}
use Rattle.checker2.proofs.Shared.{base_true, shared_true, shared_unique}

-- nothing satisfies the clauses of a case that lines refute, where the base has no more to satisfy than these
contradictory : (f : Formula) (c : Case) (p : List Line) → ((v : ℕ → Bool) → Solves v f → Satisfies v (fin.get c.base.present)) → IsProofOf c p →
    AreContradictory (f.clauses ++ unit_clauses c.units)
contradictory f c p base proof v sat =
    over_sound_law c.base c.units p proof.0 proof.1 v (base v (All-left (IsSatisfied v) f.clauses (unit_clauses c.units) sat))
    (satisfied-units v c.units (All-right (IsSatisfied v) f.clauses (unit_clauses c.units) sat))

-- the case at k has a proof
proof_at : (cs : List Case) (ps : List (List Line)) (n k : ℕ) (c : Case) → RefuteBelow cs ps n → k < n → IsCaseAt cs k c → IsProofOf c (get_or ps k [])
proof_at cs ps n k c refute k_in at = subst (λ x. IsProofOf x (get_or ps k [])) (at c) (refute k k_in c [])

inductive_from : (m : Parts) (b : Base) (inv : List (List Lit)) (lemmas : Option (List Line)) (a : Lit) (ps : List (List Line)) → IsShared m inv lemmas b →
    length ps ≡ 2 * length inv + 1 → RefuteBelow (cases m b inv a) ps (length ps) → IsInductive m inv a
inductive_from m b inv lemmas a ps shared count refute = record {
  begins = λ k c k_in. contradictory (start_formula m) (init_case m (get_or inv k c)) (get_or ps k []) (base_true (start_formula m))
      (proof_at (cases m b inv a) ps (length ps) k (init_case m (get_or inv k c)) refute (omega arith) (case_init m b inv a k c k_in));
  goes_on = λ k c k_in. contradictory (shared_formula m inv) (step_case m b (get_or inv k c)) (get_or ps (length inv + k) []) (shared_true m inv lemmas b shared)
      (proof_at (cases m b inv a) ps (length ps) (length inv + k) (step_case m b (get_or inv k c)) refute (omega arith) (case_step m b inv a k c k_in));
  excludes = contradictory (shared_formula m inv) (bad_case m b a) (get_or ps (2 * length inv) []) (shared_true m inv lemmas b shared)
      (proof_at (cases m b inv a) ps (length ps) (2 * length inv) (bad_case m b a) refute (omega arith) (case_bad m b inv a));
}

safe_for : (m : Parts) (p : Property) (a : Lit) (c : Certificate) → IsWellFormed m → IsWatched m p a → IsAcceptedFor m a c → IsSafe m p
safe_for m p a c well watched accepted =
    safety_law m c.invariant well (λ k d k_in. (accepted.clauses k d k_in).over) p a watched
    (inductive_from m accepted.base c.invariant c.lemmas a c.sections accepted.shared accepted.count accepted.sections)

upheld : (m : Parts) (p : Property) (c : Certificate) → IsWellFormed m → IsShowable m p → IsAcceptedFor (circuit_of m p) (bad_of m p) c → IsUpheld m p
upheld m (Bad n) c well showable accepted = safe_for m (Bad n) (bad_of m (Bad n)) c well (bad_watched m (Bad n) n m.bad (record { 0 = 0 }) refl refl showable.exists) accepted
upheld m (Output n) c well showable accepted = safe_for m (Output n) (bad_of m (Output n)) c well (output_watched m (Output n) n m.outputs (record { 0 = 0 }) refl refl showable.exists) accepted
upheld m (Justice n) c well showable accepted =
    bounded_if_safe m n well showable.exists (safe_for (shadow_of m n) (Bad 0) (closing_literal m n) c (shadow_well_formed m n well showable.within) refl accepted)

pub accepted_law : AcceptedLaw
accepted_law m c well accepted = upheld m c.property c well accepted.showable accepted.accepted

-- the clause in the middle of good ones is good
middle : (m : Parts) (inv before after : List (List Lit)) (c : List Lit) → inv ≡ before ++ c ∷ after → All (IsGood m) inv → IsGood m c
middle m inv before after c are good =
    let all : All (IsGood m) (before ++ c ∷ after) = subst (All (IsGood m)) are good in
    subst (IsGood m) (get_or_at before c after [] (length before) refl) (all (length before) [] (omega (arith, length-append before (c ∷ after))))

no_latch : (m : Parts) (c before after : List Lit) (a : Lit) → c ≡ before ++ a ∷ after → (IsLatch m a → ⊥) → IsGood m c → ⊥
no_latch m c before after a are foreign good =
    let all : All (IsLatch m) (before ++ a ∷ after) = subst (All (IsLatch m)) are good.over in
    foreign (subst (IsLatch m) (get_or_at before a after a (length before) refl) (all (length before) a (omega (arith, length-append before (a ∷ after)))))

repeats : (us vs : List ℕ) (v k : ℕ) → k < length us → get_or us k v ≡ v → AllPairs (λ u w. u ≢ w) (us ++ v ∷ vs) → ⊥
repeats us vs v k k_in at apart =
    apart k (length us) v k_in (omega (arith, length-append us (v ∷ vs)))
    (get_or_append_left us (v ∷ vs) v k k_in ∙ at ∙ sym (get_or_at us v vs v (length us) refl))

no_repeat : (m : Parts) (c before after : List Lit) (a : Lit) → c ≡ before ++ a ∷ after → IsAmong before a → IsGood m c → ⊥
no_repeat m c before after a are (k, k_in, at) good =
    repeats (map variable before) (map variable after) (variable a) k k_in at
    (subst (AllPairs (λ u w. u ≢ w)) (ap (map variable) are ∙ map-append variable before (a ∷ after)) good.apart)

pub first_fault_refuses : (m : Parts) (inv : List (List Lit)) (k : ℕ) (e : ClauseFault) → IsFirstFault m inv k e → All (IsGood m) inv → ⊥
first_fault_refuses m inv k fault.NotLatch f good =
    let g = f.faulty in no_latch m f.clause g.before g.after g.literal g.are g.faulty (middle m inv f.before f.after f.clause f.are good)
first_fault_refuses m inv k fault.Repeated f good =
    let g = f.faulty in no_repeat m f.clause g.before g.after g.literal g.are g.faulty.1 (middle m inv f.before f.after f.clause f.are good)

-- a refused lemma leaves nothing to share
refused_lemma_not : (m : Parts) (inv : List (List Lit)) (lemmas : Option (List Line)) (e : StepError) (k : ℕ) → IsRefusedLemma m inv lemmas e k → (b : Base) → IsShared m inv lemmas b → ⊥
refused_lemma_not m inv lemmas e k cause b shared =
    let taken : IsShared m inv (Some cause.lines) b = subst (λ ls. IsShared m inv ls b) cause.are shared in
    refused_extension_not (shared_formula m inv) cause.lines e (inr cause.refused) cause.other taken.0 taken.2

refused_section_not : (m : Parts) (a : Lit) (c : Certificate) (e : StepError) (k : ℕ) → IsRefusedSection m a c e k → IsAcceptedFor m a c → ⊥
refused_section_not m a c e k (inl lemma_) accepted = refused_lemma_not m c.invariant c.lemmas e k lemma_ accepted.base accepted.shared
refused_section_not m a c e k (inr (b, shared, first)) accepted =
    let one : accepted.base ≡ b = shared_unique m c.invariant c.lemmas accepted.base b accepted.shared shared in
    let proofs : RefuteBelow (cases m b c.invariant a) c.sections (length c.sections) = subst (λ x. RefuteBelow (cases m x c.invariant a) c.sections (length c.sections)) one accepted.sections in
    refused_case_not _ _ e (first.refused (bad_case m b a) []) first.other (proofs first.index first.stands (bad_case m b a) [])

-- what has a cause is not accepted
cause_refuses_for : (m : Parts) (a : Lit) (c : Certificate) (e : CheckError) → HasCauseFor m a c e → e ≢ OutOfMemory witness → IsAcceptedFor m a c → ⊥
cause_refuses_for m a c (NoProperty k) cause ne accepted = cause
cause_refuses_for m a c Limit cause ne accepted = let few = accepted.few in omega (arith, cause, few)
cause_refuses_for m a c (Sections k) cause ne accepted = cause.2 (cause.1 ∙ accepted.count)
cause_refuses_for m a c (NotLatch k) cause ne accepted = first_fault_refuses m c.invariant k fault.NotLatch cause.1 accepted.clauses
cause_refuses_for m a c (Repeated k) cause ne accepted = first_fault_refuses m c.invariant k fault.Repeated cause.1 accepted.clauses
cause_refuses_for m a c (Section e k) cause ne accepted = refused_section_not m a c e k cause.2 accepted
cause_refuses_for m a c (OutOfMemory refused) cause ne accepted = ne refl

of_circuit_refuses : (m : Parts) (c : Certificate) (e : CheckError) → IsOfCircuit m c e → e ≢ OutOfMemory witness → IsAcceptedCertificate m c → ⊥
of_circuit_refuses m c e cause ne accepted = cause_refuses_for (circuit_of m c.property) (bad_of m c.property) c e cause.cause ne accepted.accepted

pub cause_refuses : (m : Parts) (c : Certificate) (e : CheckError) → HasCause m c e → e ≢ OutOfMemory witness → IsAcceptedCertificate m c → ⊥
cause_refuses m c (NoProperty n) cause ne accepted = cause.1 accepted.showable.exists
cause_refuses m c Limit (inl large) ne accepted = let within = accepted.showable.within in let over = large.1 in omega (arith, within, over)
cause_refuses m c Limit (inr cause) ne accepted = of_circuit_refuses m c Limit cause ne accepted
cause_refuses m c (Sections n) cause ne accepted = of_circuit_refuses m c (Sections n) cause ne accepted
cause_refuses m c (NotLatch k) cause ne accepted = of_circuit_refuses m c (NotLatch k) cause ne accepted
cause_refuses m c (Repeated k) cause ne accepted = of_circuit_refuses m c (Repeated k) cause ne accepted
cause_refuses m c (Section e k) cause ne accepted = of_circuit_refuses m c (Section e k) cause ne accepted
cause_refuses m c (OutOfMemory refused) cause ne accepted = absurd (ne refl)

-- a cause for the property's circuit is one
pub cause_of_circuit : (m : Parts) (c : Certificate) (e : CheckError) → IsShowable m c.property → HasCauseFor (circuit_of m c.property) (bad_of m c.property) c e → HasCause m c e
cause_of_circuit m c (NoProperty n) showable cause = absurd cause
cause_of_circuit m c Limit showable cause = inr (record { showable = showable; cause = cause })
cause_of_circuit m c (Sections n) showable cause = record { showable = showable; cause = cause }
cause_of_circuit m c (NotLatch k) showable cause = record { showable = showable; cause = cause }
cause_of_circuit m c (Repeated k) showable cause = record { showable = showable; cause = cause }
cause_of_circuit m c (Section e k) showable cause = record { showable = showable; cause = cause }
cause_of_circuit m c (OutOfMemory refused) showable cause = tt

-- what holds of an `Ok` follows from what holds of it
pub if_on_ok : {T E P Q : Type 0} → (r : Result T E) → OnOk r P → (P → Q) → OnOk r Q
if_on_ok (Ok x) p f = f p
if_on_ok (Err e) p f = tt

-- a property that is there can be shown where its circuit is the given one
pub showable_here : (m : Parts) (p : Property) → IsWellFormed m → m ≡ circuit_of m p → HasProperty m p → IsShowable m p
showable_here m p well circuit there = record { exists = there; within = subst (λ (s : Parts). s.max_var ≤ 4194303) circuit well.limits.max_var }

-- what is accepted, and what is refused, for the circuit and the literal of the certificate's property
pub accepted_of : (m s : Parts) (a : Lit) (c : Certificate) (r : Result Unit CheckError) → IsShowable m c.property → s ≡ circuit_of m c.property → a ≡ bad_of m c.property →
    OnOk r (IsAcceptedFor s a c) → OnOk r (IsAcceptedCertificate m c)
accepted_of m s a c r showable circuit literal accepted =
    if_on_ok {P = IsAcceptedFor s a c} {Q = IsAcceptedCertificate m c} r accepted
    (λ h. record {
      showable = showable;
      accepted = subst (λ (b : Lit). IsAcceptedFor (circuit_of m c.property) b c) literal (subst (λ (t : Parts). IsAcceptedFor t a c) circuit h);
    })

pub refused_of : (m s : Parts) (a : Lit) (c : Certificate) (r : Result Unit CheckError) → IsShowable m c.property → s ≡ circuit_of m c.property → a ≡ bad_of m c.property →
    IfErr r (HasCauseFor s a c) → IfErr r (HasCause m c)
refused_of m s a c r showable circuit literal refused =
    if_err (HasCauseFor s a c) (HasCause m c) r
    (λ e h. cause_of_circuit m c e showable (subst (λ (b : Lit). HasCauseFor (circuit_of m c.property) b c e) literal (subst (λ (t : Parts). HasCauseFor t a c e) circuit h))) refused

-- a refusal of the clauses, and one of a section, is a cause
pub clauses_cause : (m : Parts) (a : Lit) (c : Certificate) (e : ClauseError) → IsCounted c → IsClausesFault m c.invariant e → HasCauseFor m a c (of_clauses e)
clauses_cause m a c (clauses.NotLatch k) counts fault = (counts, fault)
clauses_cause m a c (clauses.Repeated k) counts fault = (counts, fault)
clauses_cause m a c (clauses.OutOfMemory refused) counts fault = tt

pub section_cause : (m : Parts) (a : Lit) (c : Certificate) (e : CheckError) → IsCounted c → All (IsGood m) c.invariant → IsSectionFault m a c e → HasCauseFor m a c e
section_cause m a c (Section e k) counts good fault = (counts, good, fault)
section_cause m a c (OutOfMemory refused) counts good fault = tt
section_cause m a c (NoProperty k) counts good fault = absurd fault
section_cause m a c Limit counts good fault = absurd fault
section_cause m a c (Sections k) counts good fault = absurd fault
section_cause m a c (NotLatch k) counts good fault = absurd fault
section_cause m a c (Repeated k) counts good fault = absurd fault

-- a refusal of a case's section is one of a section, where all lemmas are shared
pub case_fault : (m : Parts) (a : Lit) (c : Certificate) (b : Base) → IsShared m c.invariant c.lemmas b → (e : CheckError) →
    IsCaseFault (lemma_sections c.lemmas) (cases m b c.invariant a) c.sections e → IsSectionFault m a c e
case_fault m a c b shared (Section e k) fault = inr (b, shared, fault)
case_fault m a c b shared (OutOfMemory refused) fault = tt
case_fault m a c b shared (NoProperty k) fault = absurd fault
case_fault m a c b shared Limit fault = absurd fault
case_fault m a c b shared (Sections k) fault = absurd fault
case_fault m a c b shared (NotLatch k) fault = absurd fault
case_fault m a c b shared (Repeated k) fault = absurd fault
