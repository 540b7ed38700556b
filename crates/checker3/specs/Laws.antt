-- The cause of a refusal tells that the certificate is not accepted.
use Rattle.std.specs.Prelude.{Some}
use Rattle.graph.specs.declared.parts.Parts.{Parts}
use Rattle.extension.specs.Accepted.{IsAcceptedCertificate}
use Rattle.certificate3.specs.Texts.{Certificate}
use Rattle.checker3.specs.declared.check_error.CheckError.{CheckError}
use Rattle.checker3.specs.Judged.{IsJudged}

-- a certificate with a cause is not accepted for the circuit
abbrev pub RefusedLaw : Type 0
RefusedLaw = (m : Parts) (c : Certificate) (r : CheckError) → IsJudged m c (Some r) → IsAcceptedCertificate m c.claim.property c.claim.rounds c.evidence → ⊥
