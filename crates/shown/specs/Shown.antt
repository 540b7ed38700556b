-- What an invariant over an extended circuit shows of a property.
use Rattle.std.specs.Prelude.{◌≡◌, ◌⊎◌, List, ℕ, Result, Ok, Err}
use Rattle.base.specs.Budget.{Steps}
use Rattle.base.specs.Witness.{witness}
use Rattle.graph.specs.declared.circuit.Gate.{Gate}
use Rattle.graph.specs.declared.circuit.Latch.{Latch}
use Rattle.graph.specs.declared.circuit.Lit.{Lit}
use Rattle.graph.specs.declared.circuit.Property.{Property}
use Rattle.graph.specs.declared.parts.Parts.{Parts}
use Rattle.graph.specs.Circuits.{IsUpheld}
use Rattle.solver.specs.Full.{full}
use Rattle.cnf.specs.Evidences.{Evidence}
use Rattle.extension.specs.Accepted.{bad_of, circuit_of}
use Rattle.extension.specs.Extended.{extended}
use Rattle.extension.specs.Inductive.{IsInductiveOver}
use Rattle.certificate3.specs.declared.claim.Claim.{Claim}
use Rattle.checker3.specs.declared.check_error.CheckError.{CheckError}
use Rattle.certify3.specs.Causes.{HasCause}
use Rattle.certify3.specs.Outcomes.{IsCertificateOf, IsTextOf}
use Rattle.certify3.specs.declared.certified.Certified.{Certified}
use Rattle.certify3.specs.declared.certified.Certified.TheVariants.{Certificate, NotInvariant, Spent, Unaccepted as NotAccepted}
use Rattle.certify3.specs.declared.certify_error.CertifyError.{CertifyError}
use Rattle.certify3.specs.declared.certify_error.CertifyError.TheVariants as certify
use Rattle.verdict.specs.declared.decide_error.DecideError.{DecideError}
use Rattle.verdict.specs.declared.decide_error.DecideError.TheVariants.{Limit, IdsTaken, OutOfMemory}
use Rattle.shown.specs.declared.answer.Shown.{Shown}
use Rattle.shown.specs.declared.answer.Shown.TheVariants.{Holds, Unknown}
use Rattle.shown.specs.declared.answer.Cause.{Cause}
use Rattle.shown.specs.declared.answer.Cause.TheVariants.{Budget, Open, Unaccepted, Variables}

-- that the property is upheld, without rounds
abbrev pub claim_of : Property → Claim
claim_of p = record { property = p; rounds = 0 }

-- the text spells an accepted certificate of the property, without rounds
pub record IsShownBy (m : Parts) (p : Property) (text : List ℕ) : Type 0 where
  pub evidence : Evidence
  pub is_text : IsTextOf m (claim_of p) evidence text

-- the certificate is accepted and the property upheld; or nothing is known
abbrev pub IsShown : Parts → Property → Shown → Type 0
IsShown m p (Holds text) = IsShownBy m p text × IsUpheld m p
IsShown m p (Unknown cause) = Unit {0}

-- no step is left where the budget is said to be exhausted; the other causes say nothing of it
abbrev pub IsCause : Steps → Cause → Type 0
IsCause after Budget = after.left ≡ 0
IsCause after Open = Unit {0}
IsCause after Variables = Unit {0}
IsCause after Unaccepted = Unit {0}

abbrev pub IsMeant : Steps → Shown → Type 0
IsMeant after (Holds text) = Unit {0}
IsMeant after (Unknown cause) = IsCause after cause

-- the clauses are an inductive invariant over the circuit with these latches and gates, and exclude what the property watches
abbrev pub AreInductive : Parts → Property → List Latch → List Gate → List (List Lit) → Type 0
AreInductive m p ls gs inv = IsInductiveOver (extended (circuit_of m p 0) ls gs) inv (bad_of m p 0)

-- no certificate may have them: the latches and gates extend nothing, or a clause is not over them and the circuit, or it repeats
-- or opposes a literal
abbrev pub AreRefused : Parts → Property → List Latch → List Gate → List (List Lit) → Type 0
AreRefused m p ls gs inv = ((r : CheckError) × HasCause m (claim_of p) ls gs inv (certify.Refused r)) ⊎ ((k : ℕ) × HasCause m (claim_of p) ls gs inv (certify.Repeated k))

-- what is inductive is left open only where a certificate may not have it, where the budget is exhausted, or where the proofs that
-- were made are not accepted
abbrev pub IsHonestCause : Parts → Property → List Latch → List Gate → List (List Lit) → Cause → Type 0
IsHonestCause m p ls gs inv Budget = Unit {0}
IsHonestCause m p ls gs inv Open = (AreInductive m p ls gs inv → ⊥) ⊎ AreRefused m p ls gs inv
IsHonestCause m p ls gs inv Variables = ⊥
IsHonestCause m p ls gs inv Unaccepted = Unit {0}

-- what is said to hold has a certificate of just these latches, gates and clauses, and nothing that was found is hidden
abbrev pub IsHonest : Parts → Property → List Latch → List Gate → List (List Lit) → Shown → Type 0
IsHonest m p ls gs inv (Holds text) = IsCertificateOf m (claim_of p) ls gs inv text
IsHonest m p ls gs inv (Unknown cause) = IsHonestCause m p ls gs inv cause

-- what comes of a refusal to make a certificate: a limit, used-up ids and out of memory end the call
abbrev pub found_of : CertifyError → Result Shown DecideError
found_of (certify.NoProperty n) = Ok (Unknown Open)
found_of (certify.Refused r) = Ok (Unknown Open)
found_of certify.TooMany = Err Limit
found_of (certify.Repeated k) = Ok (Unknown Open)
found_of (certify.IdsTaken used_up) = Err (IdsTaken full)
found_of (certify.OutOfMemory refused) = Err (OutOfMemory witness)

-- what comes of a certificate of clauses, or of why there is none
abbrev pub found_on : Result Certified CertifyError → Result Shown DecideError
found_on (Ok (Certificate text)) = Ok (Holds text)
found_on (Ok (NotInvariant found)) = Ok (Unknown Open)
found_on (Ok Spent) = Ok (Unknown Budget)
found_on (Ok NotAccepted) = Ok (Unknown Unaccepted)
found_on (Err e) = found_of e
