-- The numbers and places of refusals.
use Rattle.std.specs.Prelude.{ℕ}
use Rattle.certificate.specs.declared.cert_error.CertError.{CertError}
use Rattle.certificate.specs.declared.cert_error.CertError.TheVariants.{Number, Byte, Truncated, Version, PropertyLine, Section, OutOfMemory}
use Rattle.certificate.specs.declared.cert_write_error.CertWriteError.{CertWriteError}
use Rattle.certificate.specs.declared.cert_write_error.CertWriteError.TheVariants.{Sections, Number as TooMany, Device}
use Rattle.certificate.specs.declared.reader_error.ReaderError.{ReaderError}
use Rattle.certificate.specs.declared.reader_error.ReaderError.TheVariants.{Refused, Device as SourceFailed}

abbrev pub number_of : CertError → ℕ
number_of (Number place) = 3
number_of (Byte place) = 5
number_of (Truncated place) = 6
number_of (Version place) = 70
number_of (PropertyLine place) = 71
number_of (Section place) = 72
number_of (OutOfMemory refused) = 20

abbrev pub place_of : CertError → ℕ
place_of (Number place) = place
place_of (Byte place) = place
place_of (Truncated place) = place
place_of (Version place) = place
place_of (PropertyLine place) = place
place_of (Section place) = place
place_of (OutOfMemory refused) = 0

abbrev pub write_number_of : CertWriteError → ℕ
write_number_of (Sections found) = 34
write_number_of TooMany = 3
write_number_of Device = 21

abbrev pub write_place_of : CertWriteError → ℕ
write_place_of (Sections found) = found
write_place_of TooMany = 0
write_place_of Device = 0

abbrev pub reader_number_of : ReaderError → ℕ
reader_number_of (Refused e) = number_of e
reader_number_of SourceFailed = 21

abbrev pub reader_place_of : ReaderError → ℕ
reader_place_of (Refused e) = place_of e
reader_place_of SourceFailed = 0
