-- What comes of a certificate of clauses, or of why there is none.
use Rattle.std.proofs.Common.{◌≡◌, List, Result, Ok, Err, IfOk, IfErr, All, refl, sym, subst}
use Rattle.base.specs.Budget.{Steps}
use Rattle.graph.specs.declared.circuit.Lit.{Lit}
use Rattle.graph.specs.declared.circuit.Property.{Property}
use Rattle.graph.specs.declared.parts.Parts.{Parts}
use Rattle.graph.specs.Circuits.{HasProperty}
use Rattle.graph.specs.WellFormed.{IsWellFormed}
use Rattle.cnf.specs.Invariants.{IsInductive}
use Rattle.checker2.specs.Accepted.{IsGood, bad_of, circuit_of}
use Rattle.certify.specs.Causes.{HasCause as IsUncertified}
use Rattle.certify.specs.Outcomes.{IsCertified}
use Rattle.certify.specs.declared.certified.Certified.{Certified}
use Rattle.certify.specs.declared.certified.Certified.TheVariants.{Certificate, NotInvariant, Spent}
use Rattle.certify.specs.declared.certify_error.CertifyError.{CertifyError}
use Rattle.certify.specs.declared.certify_error.CertifyError.TheVariants as certify
use Rattle.certify.specs.declared.counterexample.Counterexample.{Counterexample}
use Rattle.verdict.specs.Asked.{IsOfClauses, Stops}
use Rattle.verdict.specs.Causes.{HasCause, of_certify, verdict_on}
use Rattle.verdict.specs.Verdicts.{IsBacked, IsMeant}
use Rattle.verdict.specs.declared.decide_error.DecideError.{DecideError}
use Rattle.verdict.specs.declared.verdict.Verdict.{Verdict}
use Rattle.verdict.proofs.Asked.{certificate_backs, refused_comes, refused_stops}
use Rattle.verdict.proofs.Answered.{refused_meant}

-- clauses that are inductive are not called no invariant
abbrev pub IsHonestOf : Parts → Property → List (List Lit) → Certified → Type 0
IsHonestOf m p inv r = (x : Counterexample) → r ≡ NotInvariant x → IsInductive (circuit_of m p) inv (bad_of m p) → ⊥

-- what a certificate of clauses says, or why there is none
pub record IsCertification (m : Parts) (p : Property) (inv : List (List Lit)) (after : Steps) (r : Result Certified CertifyError) : Type 0 where
  pub formed : IsWellFormed m
  pub there : HasProperty m p
  pub certified : IfOk r (IsCertified m p inv after)
  pub honest : IfOk r (IsHonestOf m p inv)
  pub refused : IfErr r (IsUncertified m p inv)

refusal_backed : (m : Parts) (p : Property) (e : CertifyError) → IfOk (of_certify e) (IsBacked m p)
refusal_backed m p (certify.NoProperty n) = tt
refusal_backed m p certify.Limit = tt
refusal_backed m p (certify.IdsTaken used_up) = tt
refusal_backed m p (certify.NotLatch k) = tt
refusal_backed m p (certify.Repeated k) = tt
refusal_backed m p (certify.OutOfMemory refused) = tt

refusal_caused : (m : Parts) (p : Property) (e : CertifyError) → HasProperty m p → IfErr (of_certify e) (HasCause m p)
refusal_caused m p (certify.NoProperty n) there = tt
refusal_caused m p certify.Limit there = there
refusal_caused m p (certify.IdsTaken used_up) there = there
refusal_caused m p (certify.NotLatch k) there = tt
refusal_caused m p (certify.Repeated k) there = tt
refusal_caused m p (certify.OutOfMemory refused) there = there

backed_so : (m : Parts) (p : Property) (inv : List (List Lit)) (after : Steps) (r : Result Certified CertifyError) → IsCertification m p inv after r → IfOk (verdict_on r) (IsBacked m p)
backed_so m p inv after (Ok (Certificate c)) h = certificate_backs m p inv after c h.formed h.certified
backed_so m p inv after (Ok (NotInvariant c)) h = tt
backed_so m p inv after (Ok Spent) h = tt
backed_so m p inv after (Err e) h = refusal_backed m p e

meant_so : (m : Parts) (p : Property) (inv : List (List Lit)) (after : Steps) (r : Result Certified CertifyError) → IsCertification m p inv after r → All (IsGood (circuit_of m p)) inv →
    IsInductive (circuit_of m p) inv (bad_of m p) → IfOk (verdict_on r) (IsMeant m p after)
meant_so m p inv after (Ok (Certificate c)) h good inductive = tt
meant_so m p inv after (Ok (NotInvariant c)) h good inductive = absurd (h.honest c refl inductive)
meant_so m p inv after (Ok Spent) h good inductive = h.certified
meant_so m p inv after (Err e) h good inductive = refused_meant m p inv after e (of_certify e) refl h.there h.refused good

comes_so : (m : Parts) (p : Property) (inv : List (List Lit)) (after : Steps) (r : Result Certified CertifyError) → IsCertification m p inv after r → IfOk (verdict_on r) (IsOfClauses m p inv after)
comes_so m p inv after (Ok (Certificate c)) h = h.certified
comes_so m p inv after (Ok (NotInvariant c)) h = λ good inductive. h.honest c refl inductive
comes_so m p inv after (Ok Spent) h = h.certified
comes_so m p inv after (Err e) h = refused_comes m p inv after e (of_certify e) refl h.there h.refused

stopped_so : (m : Parts) (p : Property) (inv : List (List Lit)) (after : Steps) (r : Result Certified CertifyError) → IsCertification m p inv after r → IfErr (verdict_on r) (Stops m p inv)
stopped_so m p inv after (Ok (Certificate c)) h = tt
stopped_so m p inv after (Ok (NotInvariant c)) h = tt
stopped_so m p inv after (Ok Spent) h = tt
stopped_so m p inv after (Err e) h = refused_stops m p inv e (of_certify e) refl h.refused

caused_so : (m : Parts) (p : Property) (inv : List (List Lit)) (after : Steps) (r : Result Certified CertifyError) → IsCertification m p inv after r → IfErr (verdict_on r) (HasCause m p)
caused_so m p inv after (Ok (Certificate c)) h = tt
caused_so m p inv after (Ok (NotInvariant c)) h = tt
caused_so m p inv after (Ok Spent) h = tt
caused_so m p inv after (Err e) h = refusal_caused m p e h.there

-- what a verdict on clauses says
pub record IsVerdictOn (m : Parts) (p : Property) (inv : List (List Lit)) (after : Steps) (v : Result Verdict DecideError) : Type 0 where
  pub backed : IfOk v (IsBacked m p)
  pub meant : All (IsGood (circuit_of m p)) inv → IsInductive (circuit_of m p) inv (bad_of m p) → IfOk v (IsMeant m p after)
  pub comes : IfOk v (IsOfClauses m p inv after)
  pub stopped : IfErr v (Stops m p inv)
  pub refused : IfErr v (HasCause m p)

pub verdict_on_law : (m : Parts) (p : Property) (inv : List (List Lit)) (after : Steps) (r : Result Certified CertifyError) (v : Result Verdict DecideError) → v ≡ verdict_on r → IsCertification m p inv after r →
    IsVerdictOn m p inv after v
verdict_on_law m p inv after r v is h =
    let law : IsVerdictOn m p inv after (verdict_on r) = record {
      backed = backed_so m p inv after r h;
      meant = meant_so m p inv after r h;
      comes = comes_so m p inv after r h;
      stopped = stopped_so m p inv after r h;
      refused = caused_so m p inv after r h;
    } in
    subst (IsVerdictOn m p inv after) (sym is) law
