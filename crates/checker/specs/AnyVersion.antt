-- What is found of a certificate of any version.
use Rattle.std.specs.Prelude.{◌≡◌, ℕ, Option, None, Some}
use Rattle.graph.specs.declared.circuit.Property.{Property}
use Rattle.graph.specs.declared.parts.Parts.{Parts}
use Rattle.extension.specs.Accepted.{IsAcceptedCertificate}
use Rattle.certificate3.specs.Formats.{Certified, earlier, third}
use Rattle.certificate3.specs.Texts.{Certificate}
use Rattle.checker3.specs.declared.check_error.CheckError.{CheckError as ThirdError}
use Rattle.checker3.specs.Judged.{IsJudged}
use Rattle.checker3.specs.Numbers.{number_of}
use Rattle.checker2.specs.Streamed.{IsFound}

-- the property that a certificate names
abbrev pub named_property : Certified → Property
named_property (earlier c) = c.property
named_property (third c) = c.claim.property

-- a certificate of version 3 is accepted for the circuit, or the number is that of the first cause
abbrev pub IsFoundThird : Parts → Certificate → Option ℕ → Type 0
IsFoundThird m c None = IsAcceptedCertificate m c.claim.property c.claim.rounds c.evidence
IsFoundThird m c (Some n) = (r : ThirdError) × IsJudged m c (Some r) × (n ≡ number_of r)

-- the same of a certificate of any version
abbrev pub IsFoundOf : Parts → Certified → Option ℕ → Type 0
IsFoundOf m (earlier c) found = IsFound m c found
IsFoundOf m (third c) found = IsFoundThird m c found
