-- Where the reading and checking of two texts stops.
use Rattle.std.specs.Prelude.{◌≡◌, ℕ, ◌+◌, ◌⊎◌, ◌==◌, if◌then◌else◌, Result, IsErrOf}
use Rattle.base.specs.Witness.{witness}
use Rattle.graph.specs.Refusals.{number_of as read_number}
use Rattle.aiger.specs.declared.load_error.LoadError.{LoadError}
use Rattle.aiger.specs.declared.load_error.LoadError.TheVariants.{Refused, Device as LoadDevice}
use Rattle.certificate.specs.Numbers.{number_of as certificate_number}
use Rattle.certificate.specs.declared.reader_error.ReaderError.{ReaderError}
use Rattle.certificate.specs.declared.reader_error.ReaderError.TheVariants.{Refused as CertificateRefused, Device as SourceFailed}
use Rattle.stimulus.specs.Numbers.{stim_number_of}
use Rattle.replay.specs.declared.text_error.TextError.{TextError}
use Rattle.replay.specs.declared.text_error.TextError.TheVariants.{Refused as StimulusRefused, Device as TextFailed}
use Rattle.checker.specs.declared.answer_error.AnswerError.{AnswerError}
use Rattle.checker.specs.declared.answer_error.AnswerError.TheVariants.{No, OutOfMemory, Device}

-- a refusal is a no with its number, but for out of memory
abbrev pub error_numbered : ℕ → AnswerError
error_numbered n = if n == 20 then OutOfMemory witness else No n

abbrev pub error_of_load : LoadError → AnswerError
error_of_load (Refused e) = error_numbered (read_number e)
error_of_load LoadDevice = Device

abbrev pub error_of_reader : ReaderError → AnswerError
error_of_reader (CertificateRefused e) = error_numbered (certificate_number e)
error_of_reader SourceFailed = Device

abbrev pub error_of_text : TextError → AnswerError
error_of_text (StimulusRefused e) = error_numbered (stim_number_of e)
error_of_text TextFailed = Device

-- where it stops, a no has a number of which this holds
abbrev pub IsAnswerError : (ℕ → Type 0) → AnswerError → Type 0
IsAnswerError IsNo (No n) = IsNo n
IsAnswerError IsNo (OutOfMemory refused) = Unit {0}
IsAnswerError IsNo Device = Unit {0}

-- counts of the failures of the three devices
pub record Counts : Type 0 where
  pub circuit : ℕ
  pub evidence : ℕ
  pub out : ℕ

-- one of the devices failed, once
abbrev pub OneFailed : Counts → Counts → Type 0
OneFailed before after =
    (after ≡ record before { circuit = before.circuit + 1 })
    ⊎ ((after ≡ record before { evidence = before.evidence + 1 }) ⊎ (after ≡ record before { out = before.out + 1 }))

-- one of the devices failed where this is the error, and else none
pub record FailsOne {X E : Type 0} (result : Result X E) (device : E) (before after : Counts) : Type 0 where
  pub failed : IsErrOf result device → OneFailed before after
  pub kept : (IsErrOf result device → ⊥) → after ≡ before
