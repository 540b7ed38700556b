-- What is reported of a text that is refused.
use Rattle.std.specs.Prelude.{ℕ, ◌-◌, Result, Ok, Err}
use Rattle.base.specs.Witness.{witness}
use Rattle.scan.specs.declared.fault.Fault.{Fault}
use Rattle.scan.specs.declared.fault.Fault.TheVariants.{Memory, Text}
use Rattle.certificate.specs.declared.cert_error.CertError.{CertError}
use Rattle.certificate.specs.declared.cert_error.CertError.TheVariants as error
use Rattle.pieces.specs.declared.line_error.LineError.{LineError}
use Rattle.pieces.specs.declared.line_error.LineError.TheVariants as line
use Rattle.certificate.specs.declared.reader_error.ReaderError.{ReaderError}
use Rattle.certificate.specs.declared.reader_error.ReaderError.TheVariants.{Refused, Device}
use Rattle.certificate.specs.declared.cert_fault.CertFault.{CertFault}
use Rattle.certificate.specs.declared.cert_fault.CertFault.TheVariants.{Version, PropertyLine, Number, Section, Byte, Truncated}

-- a refusal at a byte
abbrev pub at_byte : CertFault → ℕ → CertError
at_byte Version p = error.Version p
at_byte PropertyLine p = error.PropertyLine p
at_byte Number p = error.Number p
at_byte Section p = error.Section p
at_byte Byte p = error.Byte p
at_byte Truncated p = error.Truncated p

-- the error that a fault is in a text of this length
abbrev pub error_of : ℕ → Fault CertFault → CertError
error_of length (Memory refused) = error.OutOfMemory witness
error_of length (Text kind left) = at_byte kind (length - left)

-- what it is for a reader that no line comes
abbrev pub of_line : LineError CertFault → ReaderError
of_line (line.Refused length fault) = Refused (error_of length fault)
of_line line.Device = Device

-- what an answer is for a reader
abbrev pub answer_of : {A : Type 0} → Result A (LineError CertFault) → Result A ReaderError
answer_of (Ok x) = Ok x
answer_of (Err e) = Err (of_line e)
