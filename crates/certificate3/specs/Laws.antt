-- What is read of a text, and what it spells.
use Rattle.std.specs.Prelude.{◌≡◌, ◌↔◌, ℕ, List, Some}
use Rattle.scan.specs.Reading.{ended}
use Rattle.certificate3.specs.Reading.{certificate_at}
use Rattle.certificate3.specs.Limits.{IsInLimits}
use Rattle.certificate3.specs.Texts.{Certificate, SpellsCertificate, certificate_text}

-- a certificate is read of a text, and nothing is left, exactly where the text spells it
abbrev pub ReadLaw : Type 0
ReadLaw = (text : List ℕ) (c : Certificate) → (ended (certificate_at text) ≡ Some c) ↔ SpellsCertificate text c

-- no text spells two
abbrev pub OneLaw : Type 0
OneLaw = (text : List ℕ) (c d : Certificate) → SpellsCertificate text c → SpellsCertificate text d → c ≡ d

-- and from what is written just the certificate is read again
abbrev pub WrittenLaw : Type 0
WrittenLaw = (c : Certificate) → IsInLimits c → ended (certificate_at (certificate_text c)) ≡ Some c
