-- What comes of a certificate.
use Rattle.std.proofs.Common.{◌≡◌, List, Result, Ok, Err, IfOk, IfErr, inl, inr, refl, sym, subst}
use Rattle.base.specs.Budget.{Steps}
use Rattle.graph.specs.declared.circuit.Gate.{Gate}
use Rattle.graph.specs.declared.circuit.Latch.{Latch}
use Rattle.graph.specs.declared.circuit.Lit.{Lit}
use Rattle.graph.specs.declared.circuit.Property.{Property}
use Rattle.graph.specs.declared.parts.Parts.{Parts}
use Rattle.graph.specs.Circuits.{HasProperty}
use Rattle.graph.specs.WellFormed.{IsWellFormed}
use Rattle.extension.specs.Accepted.{AcceptedLaw}
use Rattle.certify3.specs.Causes.{HasCause}
use Rattle.certify3.specs.Outcomes.{IsCertified}
use Rattle.certify3.specs.declared.certified.Certified.{Certified}
use Rattle.certify3.specs.declared.certified.Certified.TheVariants.{Certificate, NotInvariant, Spent, Unaccepted}
use Rattle.certify3.specs.declared.certify_error.CertifyError.{CertifyError}
use Rattle.certify3.specs.declared.certify_error.CertifyError.TheVariants as certify
use Rattle.inductive_proofs.specs.declared.counterexample.Counterexample.{Counterexample}
use Rattle.verdict.specs.declared.decide_error.DecideError.{DecideError}
use Rattle.shown.specs.Shown.{AreInductive, IsHonest, IsMeant, IsShown, claim_of, found_of, found_on}
use Rattle.shown.specs.declared.answer.Shown.{Shown}

refused_shown : (m : Parts) (p : Property) (e : CertifyError) → IfOk (found_of e) (IsShown m p)
refused_shown m p (certify.NoProperty n) = tt
refused_shown m p (certify.Refused r) = tt
refused_shown m p certify.TooMany = tt
refused_shown m p (certify.Repeated i) = tt
refused_shown m p (certify.IdsTaken used_up) = tt
refused_shown m p (certify.OutOfMemory refused) = tt

shown_so : (m : Parts) (p : Property) (ls : List Latch) (gs : List Gate) (inv : List (List Lit)) (after : Steps) (r : Result Certified CertifyError) → AcceptedLaw → IsWellFormed m →
    IfOk r (IsCertified m (claim_of p) ls gs inv after) → IfOk (found_on r) (IsShown m p)
shown_so m p ls gs inv after (Ok (Certificate text)) law well h = (record { evidence = h.evidence; is_text = h.is_text }, law m p 0 h.evidence well h.is_text.accepted)
shown_so m p ls gs inv after (Ok (NotInvariant x)) law well h = tt
shown_so m p ls gs inv after (Ok Spent) law well h = tt
shown_so m p ls gs inv after (Ok Unaccepted) law well h = tt
shown_so m p ls gs inv after (Err e) law well h = refused_shown m p e

-- what is said to hold has its certificate
pub shown_by : (m : Parts) (p : Property) (ls : List Latch) (gs : List Gate) (inv : List (List Lit)) (after : Steps) (r : Result Certified CertifyError) (t : Result Shown DecideError) → t ≡ found_on r → AcceptedLaw → IsWellFormed m →
    IfOk r (IsCertified m (claim_of p) ls gs inv after) → IfOk t (IsShown m p)
shown_by m p ls gs inv after r t is law well h = subst (λ (q : Result Shown DecideError). IfOk q (IsShown m p)) (sym is) (shown_so m p ls gs inv after r law well h)

refused_meant : (after : Steps) (e : CertifyError) → IfOk (found_of e) (IsMeant after)
refused_meant after (certify.NoProperty n) = tt
refused_meant after (certify.Refused r) = tt
refused_meant after certify.TooMany = tt
refused_meant after (certify.Repeated i) = tt
refused_meant after (certify.IdsTaken used_up) = tt
refused_meant after (certify.OutOfMemory refused) = tt

meant_so : (m : Parts) (p : Property) (ls : List Latch) (gs : List Gate) (inv : List (List Lit)) (after : Steps) (r : Result Certified CertifyError) →
    IfOk r (IsCertified m (claim_of p) ls gs inv after) → IfOk (found_on r) (IsMeant after)
meant_so m p ls gs inv after (Ok (Certificate text)) h = tt
meant_so m p ls gs inv after (Ok (NotInvariant x)) h = tt
meant_so m p ls gs inv after (Ok Spent) h = h
meant_so m p ls gs inv after (Ok Unaccepted) h = tt
meant_so m p ls gs inv after (Err e) h = refused_meant after e

-- a budget that is said to be exhausted is
pub meant_by : (m : Parts) (p : Property) (ls : List Latch) (gs : List Gate) (inv : List (List Lit)) (after : Steps) (r : Result Certified CertifyError) (t : Result Shown DecideError) → t ≡ found_on r →
    IfOk r (IsCertified m (claim_of p) ls gs inv after) → IfOk t (IsMeant after)
meant_by m p ls gs inv after r t is h = subst (λ (q : Result Shown DecideError). IfOk q (IsMeant after)) (sym is) (meant_so m p ls gs inv after r h)

refused_honest : (m : Parts) (p : Property) (ls : List Latch) (gs : List Gate) (inv : List (List Lit)) (e : CertifyError) → HasProperty m p → HasCause m (claim_of p) ls gs inv e → IfOk (found_of e) (IsHonest m p ls gs inv)
refused_honest m p ls gs inv (certify.NoProperty n) there cause = absurd (cause.1 there)
refused_honest m p ls gs inv (certify.Refused r) there cause = inr (inl (r, cause))
refused_honest m p ls gs inv certify.TooMany there cause = tt
refused_honest m p ls gs inv (certify.Repeated k) there cause = inr (inr (k, cause))
refused_honest m p ls gs inv (certify.IdsTaken used_up) there cause = tt
refused_honest m p ls gs inv (certify.OutOfMemory refused) there cause = tt

-- what is said to be no invariant is not inductive
abbrev pub IsHonestOf : Parts → Property → List Latch → List Gate → List (List Lit) → Certified → Type 0
IsHonestOf m p ls gs inv r = (x : Counterexample) → r ≡ NotInvariant x → AreInductive m p ls gs inv → ⊥

honest_so : (m : Parts) (p : Property) (ls : List Latch) (gs : List Gate) (inv : List (List Lit)) (after : Steps) (r : Result Certified CertifyError) → HasProperty m p →
    IfOk r (IsCertified m (claim_of p) ls gs inv after) → IfOk r (IsHonestOf m p ls gs inv) → IfErr r (HasCause m (claim_of p) ls gs inv) → IfOk (found_on r) (IsHonest m p ls gs inv)
honest_so m p ls gs inv after (Ok (Certificate text)) there certified honest cause = certified
honest_so m p ls gs inv after (Ok (NotInvariant x)) there certified honest cause = inl (honest x refl)
honest_so m p ls gs inv after (Ok Spent) there certified honest cause = tt
honest_so m p ls gs inv after (Ok Unaccepted) there certified honest cause = tt
honest_so m p ls gs inv after (Err e) there certified honest cause = refused_honest m p ls gs inv e there cause

-- nothing that was found is hidden
pub honest_by : (m : Parts) (p : Property) (ls : List Latch) (gs : List Gate) (inv : List (List Lit)) (after : Steps) (r : Result Certified CertifyError) (t : Result Shown DecideError) → t ≡ found_on r → HasProperty m p →
    IfOk r (IsCertified m (claim_of p) ls gs inv after) → IfOk r (IsHonestOf m p ls gs inv) → IfErr r (HasCause m (claim_of p) ls gs inv) → IfOk t (IsHonest m p ls gs inv)
honest_by m p ls gs inv after r t is there certified honest cause =
    subst (λ (q : Result Shown DecideError). IfOk q (IsHonest m p ls gs inv)) (sym is) (honest_so m p ls gs inv after r there certified honest cause)
