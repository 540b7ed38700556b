-- Certificates of any version.
use Rattle.std.specs.Prelude.{◌≡◌, ◌↔◌, ℕ, List, Some, codes}
use Rattle.scan.specs.Reading.{◌>>=◌, Read, ended}
use Rattle.scan.specs.Bytes.{byte_at, tag_at, choice_at}
use Rattle.certificate.specs.declared.certificate.Certificate.{Certificate as AnEarlier}
use Rattle.certificate.specs.declared.head.Version.TheVariants.{One, Two}
use Rattle.certificate.specs.Reading.{certificate_at as earlier_at}
use Rattle.certificate.specs.Texts.{SpellsCertificate as SpellsEarlier}
use Rattle.certificate3.specs.declared.first_line.Format.{Format}
use Rattle.certificate3.specs.declared.first_line.Format.TheVariants.{Earlier, Three}
use Rattle.certificate3.specs.Reading.{certificate_at, claim_at, evidence_at}
use Rattle.certificate3.specs.Texts.{Certificate, SpellsCertificate}

-- the digit of the version
unfoldable pub digit_at : List ℕ → Read Format
digit_at bytes = choice_at 51 (λ after. Some (Three, after)) (choice_at 50 (λ after. Some (Earlier Two, after)) (λ text. byte_at 49 text >>= λ after. Some (Earlier One, after))) bytes

-- the first line
unfoldable pub format_at : List ℕ → Read Format
format_at bytes = do
  digit ← tag_at (codes "aigcert ") bytes
  format ← digit_at digit
  rest ← byte_at 10 format.1
  Some (format.0, rest)

-- what is behind the first line of version 3
abbrev pub behind_at : List ℕ → Read Certificate
behind_at bytes = do
  claim ← claim_at bytes
  evidence ← evidence_at claim.1
  Some (record { claim = claim.0; evidence = evidence.0 }, evidence.1)

-- a certificate of version 1 or 2, or one of version 3
pub data Certified : Type 0 where
  earlier : AnEarlier → Certified
  third : Certificate → Certified

-- the text is the certificate's
abbrev pub SpellsCertified : List ℕ → Certified → Type 0
SpellsCertified text (earlier c) = SpellsEarlier text c
SpellsCertified text (third c) = SpellsCertificate text c

-- the whole text, of which the first line is of this version
abbrev pub whole_at : Format → List ℕ → Read Certified
whole_at (Earlier version) bytes = earlier_at bytes >>= λ c. Some (earlier c.0, c.1)
whole_at Three bytes = certificate_at bytes >>= λ c. Some (third c.0, c.1)

-- a certificate of the version that its first line names
unfoldable pub certified_at : List ℕ → Read Certified
certified_at bytes = format_at bytes >>= λ format. whole_at format.0 bytes

-- a certificate of any version is read of a text, and nothing is left, exactly where the text spells it
abbrev pub CertifiedLaw : Type 0
CertifiedLaw = (text : List ℕ) (c : Certified) → (ended (certified_at text) ≡ Some c) ↔ SpellsCertified text c
