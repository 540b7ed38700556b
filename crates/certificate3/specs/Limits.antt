-- Which certificates have a text.
use Rattle.std.specs.Prelude.{ℕ, List, Option}
use Rattle.base.specs.Devices.{PutsBeginning}
use Rattle.certificate3.specs.Texts.{Certificate, IsClaim, IsEvidence, certificate_text}
use Rattle.certificate3.specs.declared.write_error.WriteError.{WriteError}
use Rattle.certificate3.specs.declared.write_error.WriteError.TheVariants.{Unspelled, Device}

-- numbers and counts are in their limits
abbrev pub IsInLimits : Certificate → Type 0
IsInLimits c = IsClaim c.claim × IsEvidence c.evidence

-- why a certificate is not written: no text spells it; or the device failed after a beginning
abbrev pub IsUnwritten : Certificate → Option (List ℕ) → Option (List ℕ) → WriteError → Type 0
IsUnwritten c before after Unspelled = IsInLimits c → ⊥
IsUnwritten c before after Device = IsInLimits c × PutsBeginning before after (certificate_text c)
