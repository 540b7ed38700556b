-- What is reported of a text that is refused.
use Rattle.std.specs.Prelude.{ℕ, ◌-◌}
use Rattle.base.specs.Witness.{witness}
use Rattle.scan.specs.declared.fault.Fault.{Fault}
use Rattle.scan.specs.declared.fault.Fault.TheVariants.{Memory, Text}
use Rattle.certificate.specs.declared.cert_error.CertError.{CertError}
use Rattle.certificate.specs.declared.cert_error.CertError.TheVariants as cert
use Rattle.invariant.specs.declared.invariant_error.InvariantError.{InvariantError}
use Rattle.invariant.specs.declared.invariant_error.InvariantError.TheVariants as error
use Rattle.invariant.specs.declared.invariant_fault.InvariantFault.{InvariantFault}
use Rattle.invariant.specs.declared.invariant_fault.InvariantFault.TheVariants.{Number, Byte, Truncated, Latch}

-- a refusal at a byte
abbrev pub at_byte : InvariantFault → ℕ → InvariantError
at_byte Number p = error.Number p
at_byte Byte p = error.Byte p
at_byte Truncated p = error.Truncated p
at_byte Latch p = error.Latch p

-- the error that a fault is in a text of this length
abbrev pub error_of : ℕ → Fault InvariantFault → InvariantError
error_of length (Memory refused) = error.OutOfMemory witness
error_of length (Text kind left) = at_byte kind (length - left)

-- the error that a certificate's is: out of memory stays what it is
abbrev pub of_certificate : CertError → InvariantError
of_certificate (cert.Number p) = error.Certificate (cert.Number p)
of_certificate (cert.Byte p) = error.Certificate (cert.Byte p)
of_certificate (cert.Truncated p) = error.Certificate (cert.Truncated p)
of_certificate (cert.Version p) = error.Certificate (cert.Version p)
of_certificate (cert.PropertyLine p) = error.Certificate (cert.PropertyLine p)
of_certificate (cert.Section p) = error.Certificate (cert.Section p)
of_certificate (cert.OutOfMemory refused) = error.OutOfMemory witness
