-- Why nothing is answered of a property.
use Rattle.std.specs.Prelude.{◌≡◌, Result, Ok, Err}
use Rattle.base.specs.Witness.{witness}
use Rattle.graph.specs.declared.circuit.Property.{Property}
use Rattle.graph.specs.declared.parts.Parts.{Parts}
use Rattle.graph.specs.Circuits.{position_of, HasProperty}
use Rattle.engine.specs.declared.finding.Reason.TheVariants.{Budget, NoEvidence}
use Rattle.solver.specs.Full.{full}
use Rattle.certify.specs.declared.certified.Certified.{Certified}
use Rattle.certify.specs.declared.certified.Certified.TheVariants.{Certificate, NotInvariant, Spent}
use Rattle.certify.specs.declared.certify_error.CertifyError.{CertifyError}
use Rattle.certify.specs.declared.certify_error.CertifyError.TheVariants as certify
use Rattle.verdict.specs.declared.verdict.Verdict.{Verdict}
use Rattle.verdict.specs.declared.verdict.Verdict.TheVariants.{Safe, Unknown}
use Rattle.verdict.specs.declared.decide_error.DecideError.{DecideError}
use Rattle.verdict.specs.declared.decide_error.DecideError.TheVariants.{NoProperty, Limit, IdsTaken, OutOfMemory}

-- the circuit has no such property, whose position is reported; otherwise it has, and an engine gave up or memory ran out
abbrev pub HasCause : Parts → Property → DecideError → Type 0
HasCause m p (NoProperty n) = (n ≡ position_of p) × (HasProperty m p → ⊥)
HasCause m p Limit = HasProperty m p
HasCause m p (IdsTaken used_up) = HasProperty m p
HasCause m p (OutOfMemory refused) = HasProperty m p

-- what comes of clauses of which no certificate is made: a limit, used-up ids and out of memory end the asking, and clauses with a
-- fault are no evidence
abbrev pub of_certify : CertifyError → Result Verdict DecideError
of_certify certify.Limit = Err Limit
of_certify (certify.IdsTaken used_up) = Err (IdsTaken full)
of_certify (certify.OutOfMemory refused) = Err (OutOfMemory witness)
of_certify (certify.NoProperty n) = Ok (Unknown NoEvidence)
of_certify (certify.NotLatch k) = Ok (Unknown NoEvidence)
of_certify (certify.Repeated k) = Ok (Unknown NoEvidence)

-- what comes of a certificate of clauses, or of why there is none: what something satisfies is no evidence
abbrev pub verdict_on : Result Certified CertifyError → Result Verdict DecideError
verdict_on (Ok (Certificate c)) = Ok (Safe c)
verdict_on (Ok (NotInvariant c)) = Ok (Unknown NoEvidence)
verdict_on (Ok Spent) = Ok (Unknown Budget)
verdict_on (Err e) = of_certify e
