-- What is said of a circuit's text and a certificate's, and what it means.
use Rattle.std.specs.Prelude.{◌≡◌, ◌≢◌, ℕ, ◌⊎◌, List, Option, Some}
use Rattle.base.specs.Devices.{PutsBeginning}
use Rattle.base.specs.Witness.{witness}
use Rattle.graph.specs.declared.circuit.Property.{Property}
use Rattle.graph.specs.declared.circuit.Property.TheVariants.{Justice}
use Rattle.graph.specs.declared.parts.Parts.{Parts}
use Rattle.graph.specs.File.{File}
use Rattle.graph.specs.Circuits.{HasProperty, IsUpheld}
use Rattle.aiger.specs.Layouts.{SpellsFile, SpellsModel}
use Rattle.aiger.specs.Loading.{IsFileOf, SpellsNoFile}
use Rattle.certificate.specs.declared.certificate.Certificate.{Certificate}
use Rattle.certificate.specs.declared.cert_error.CertError.{CertError}
use Rattle.certificate.specs.declared.cert_error.CertError.TheVariants.{OutOfMemory as NoMemory}
use Rattle.certificate.specs.Numbers.{number_of as certificate_number}
use Rattle.certificate.specs.Texts.{SpellsCertificate}
use Rattle.extension.specs.Accepted.{IsAcceptedCertificate as IsAcceptedThird}
use Rattle.extension.specs.Rounds.{HoldsFew}
use Rattle.certificate3.specs.Formats.{Certified, SpellsCertified, earlier, third}
use Rattle.certificate3.specs.Texts.{Certificate as ThirdCertificate, SpellsCertificate as SpellsThird}
use Rattle.checker3.specs.declared.check_error.CheckError.{CheckError as ThirdError}
use Rattle.checker3.specs.Judged.{IsJudged}
use Rattle.checker3.specs.Numbers.{number_of as third_number}
use Rattle.checker2.specs.declared.check_error.CheckError.{CheckError}
use Rattle.checker2.specs.declared.check_error.CheckError.TheVariants.{OutOfMemory}
use Rattle.checker2.specs.Accepted.{IsAcceptedCertificate}
use Rattle.checker2.specs.Causes.{HasCause}
use Rattle.checker2.specs.Numbers.{number_of}
use Rattle.checker.specs.declared.line.Question.TheVariants.{Safe}
use Rattle.checker.specs.Lines.{yes_line, no_line}

-- the first text spells a circuit, and the second, to its end, a certificate of the property that is accepted for it, of
-- version 1 or 2
pub record AcceptsEarlier (xs ys : List ℕ) (p : Property) : Type 0 where
  pub file : File
  pub certificate : Certificate
  pub first : SpellsFile xs file
  pub second : SpellsCertificate ys certificate
  pub accepted : IsAcceptedCertificate file.model certificate
  pub property : certificate.property ≡ p

-- or of version 3
pub record AcceptsThird (xs ys : List ℕ) (p : Property) : Type 0 where
  pub file : File
  pub certificate : ThirdCertificate
  pub first : SpellsFile xs file
  pub second : SpellsThird ys certificate
  pub accepted : IsAcceptedThird file.model certificate.claim.property certificate.claim.rounds certificate.evidence
  pub property : certificate.claim.property ≡ p

-- of any version
abbrev pub Accepts : List ℕ → List ℕ → Property → Type 0
Accepts xs ys p = AcceptsEarlier xs ys p ⊎ AcceptsThird xs ys p

-- the text begins with one circuit, that has the property and upholds it: no run of it that keeps the constraints sets the literal
-- that the property watches at any time, or holds more rounds of justice than it has states
pub record IsUpheldText (xs : List ℕ) (p : Property) : Type 0 where
  pub circuit : Parts
  pub begins : SpellsModel xs circuit
  pub only : (m : Parts) → SpellsModel xs m → m ≡ circuit
  pub exists : HasProperty circuit p
  pub upheld : IsUpheld circuit p

-- a certificate of justice of version 3 that the second text spells bounds the rounds in the circuit that the first begins with: no
-- run that keeps the constraints holds more than the number that it names
abbrev pub BoundsRounds : List ℕ → List ℕ → Type 0
BoundsRounds xs ys = (m : Parts) (c : ThirdCertificate) (j : ℕ) → SpellsModel xs m → SpellsThird ys c → c.claim.property ≡ Justice j → HoldsFew m j c.claim.rounds

-- the one certificate that the text spells
pub record IsCertificateOf (ys : List ℕ) (c : Certified) : Type 0 where
  pub spells : SpellsCertified ys c
  pub only : (d : Certified) → SpellsCertified ys d → d ≡ c

-- the text spells no certificate, and the number is one of its reader's refusals, but not out of memory
pub record SpellsNoCertificate (ys : List ℕ) (n : ℕ) : Type 0 where
  pub none : (c : Certified) → SpellsCertified ys c → ⊥
  pub error : CertError
  pub other : error ≢ NoMemory witness
  pub number : n ≡ certificate_number error

-- the certificate of version 1 or 2 is not accepted for the circuit, and the number is that of the first cause
pub record IsEarlierNotAccepted (f : File) (c : Certificate) (n : ℕ) : Type 0 where
  pub error : CheckError
  pub other : error ≢ OutOfMemory witness
  pub cause : HasCause f.model c error
  pub number : n ≡ number_of error

-- the same of version 3
pub record IsThirdNotAccepted (f : File) (c : ThirdCertificate) (n : ℕ) : Type 0 where
  pub refusal : ThirdError
  pub cause : IsJudged f.model c (Some refusal)
  pub number : n ≡ third_number refusal

-- and of any version
abbrev pub IsNotAccepted : File → Certified → ℕ → Type 0
IsNotAccepted f (earlier c) n = IsEarlierNotAccepted f c n
IsNotAccepted f (third c) n = IsThirdNotAccepted f c n

-- why the answer is no, with the number reported: the first text is looked at first, then the second, and then what they say
abbrev pub IsRefusal : List ℕ → List ℕ → ℕ → Type 0
IsRefusal xs ys n =
    SpellsNoFile xs n
    ⊎ (((f : File) × IsFileOf xs f × SpellsNoCertificate ys n)
    ⊎ ((f : File) × (c : Certified) × IsFileOf xs f × IsCertificateOf ys c × IsNotAccepted f c n))

-- a beginning of the line that is due was put
abbrev pub BeginsLine : List ℕ → List ℕ → Option (List ℕ) → Option (List ℕ) → Type 0
BeginsLine xs ys before after =
    ((p : Property) × Accepts xs ys p × PutsBeginning before after (yes_line Safe p))
    ⊎ ((n : ℕ) × IsRefusal xs ys n × PutsBeginning before after (no_line n))

-- ---- of one property alone

-- why the answer about this property is no: as before, or the certificate is accepted and is of another property
abbrev pub IsRefusalFor : Property → List ℕ → List ℕ → ℕ → Type 0
IsRefusalFor p xs ys n = IsRefusal xs ys n ⊎ ((q : Property) × Accepts xs ys q × (q ≢ p) × (n ≡ 30))

abbrev pub BeginsLineFor : Property → List ℕ → List ℕ → Option (List ℕ) → Option (List ℕ) → Type 0
BeginsLineFor p xs ys before after =
    (Accepts xs ys p × PutsBeginning before after (yes_line Safe p))
    ⊎ ((n : ℕ) × IsRefusalFor p xs ys n × PutsBeginning before after (no_line n))
