-- What is said of a property's circuit is said of the property.
use Rattle.std.proofs.Common.{◌≡◌, List, Result, Ok, Err, IfOk, IfErr, inr, sym, subst}
use Rattle.base.specs.Budget.{Steps}
use Rattle.graph.specs.declared.circuit.Lit.{Lit}
use Rattle.graph.specs.declared.circuit.Property.{Property}
use Rattle.graph.specs.declared.parts.Parts.{Parts}
use Rattle.cnf.specs.Invariants.{IsInductive}
use Rattle.certificate.specs.declared.certificate.Certificate.{Certificate}
use Rattle.checker2.specs.Accepted.{circuit_of, bad_of, IsShowable, IsAcceptedFor, IsAcceptedCertificate}
use Rattle.certify.specs.Causes.{HasCause, HasCauseFor}
use Rattle.certify.specs.Outcomes.{IsCertified, IsCertifiedFor}
use Rattle.certify.specs.declared.certified.Certified.{Certified}
use Rattle.certify.specs.declared.certified.Certified.TheVariants as outcome
use Rattle.certify.specs.declared.certify_error.CertifyError.{CertifyError}
use Rattle.certify.specs.declared.counterexample.Counterexample.{Counterexample}
use Rattle.certify.specs.declared.certify_error.CertifyError.TheVariants.{NoProperty, Limit, IdsTaken, NotLatch, Repeated, OutOfMemory}
use Rattle.certify.proofs.Stopped.{not_inductive}

accepted_named : (m : Parts) (p : Property) (c : Certificate) → c.property ≡ p → IsShowable m p → IsAcceptedFor (circuit_of m p) (bad_of m p) c → IsAcceptedCertificate m c
accepted_named m p c is showable accepted =
    let named : p ≡ c.property = sym is in
    record {
      showable = subst (IsShowable m) named showable;
      accepted = subst (λ (r : Property). IsAcceptedFor (circuit_of m r) (bad_of m r) c) named accepted;
    }

certified_of : (m : Parts) (p : Property) (inv : List (List Lit)) (after : Steps) (r : Certified) → IsShowable m p →
    IsCertifiedFor (circuit_of m p) (bad_of m p) p inv after r → IsCertified m p inv after r
certified_of m p inv after (outcome.Certificate c) showable is = (is.0, is.1, accepted_named m p c is.0 showable is.2)
certified_of m p inv after (outcome.NotInvariant c) showable is = is
certified_of m p inv after outcome.Spent showable is = is

pub certified : (m s : Parts) (p : Property) (a : Lit) (inv : List (List Lit)) (after : Steps) (r : Result Certified CertifyError) → IsShowable m p → s ≡ circuit_of m p → a ≡ bad_of m p →
    IfOk r (IsCertifiedFor s a p inv after) → IfOk r (IsCertified m p inv after)
certified m s p a inv after (Ok r) showable circuit literal is =
    certified_of m p inv after r showable
    (subst (λ (b : Lit). IsCertifiedFor (circuit_of m p) b p inv after r) literal (subst (λ (t : Parts). IsCertifiedFor t a p inv after r) circuit is))
certified m s p a inv after (Err e) showable circuit literal is = tt

cause_of : (m : Parts) (p : Property) (inv : List (List Lit)) (e : CertifyError) → IsShowable m p → HasCauseFor (circuit_of m p) inv e → HasCause m p inv e
cause_of m p inv (NoProperty n) showable cause = absurd cause
cause_of m p inv Limit showable cause = inr (showable, cause)
cause_of m p inv (IdsTaken used_up) showable cause = (showable, cause)
cause_of m p inv (NotLatch k) showable cause = (showable, cause)
cause_of m p inv (Repeated k) showable cause = (showable, cause)
cause_of m p inv (OutOfMemory refused) showable cause = showable.exists

pub refused : (m s : Parts) (p : Property) (inv : List (List Lit)) (r : Result Certified CertifyError) → IsShowable m p → s ≡ circuit_of m p →
    IfErr r (HasCauseFor s inv) → IfErr r (HasCause m p inv)
refused m s p inv (Ok r) showable circuit cause = tt
refused m s p inv (Err e) showable circuit cause = cause_of m p inv e showable (subst (λ (t : Parts). HasCauseFor t inv e) circuit cause)

honest_of : (m : Parts) (p : Property) (inv : List (List Lit)) (after : Steps) (r : Certified) (c : Counterexample) → IsCertified m p inv after r → r ≡ outcome.NotInvariant c →
    IsInductive (circuit_of m p) inv (bad_of m p) → ⊥
honest_of m p inv after r c is named inductive =
    not_inductive (circuit_of m p) inv (bad_of m p) c (subst (IsCertified m p inv after) named is) inductive

-- an invariant is never called none
pub honest : (m : Parts) (p : Property) (inv : List (List Lit)) (after : Steps) (r : Result Certified CertifyError) → IfOk r (IsCertified m p inv after) →
    IfOk r (λ x. (c : Counterexample) → x ≡ outcome.NotInvariant c → IsInductive (circuit_of m p) inv (bad_of m p) → ⊥)
honest m p inv after (Ok r) is = λ c. honest_of m p inv after r c is
honest m p inv after (Err e) is = tt
