-- The numbers and places of refusals.
use Rattle.std.specs.Prelude.{ℕ}
use Rattle.certificate.specs.Numbers.{number_of as cert_number, place_of as cert_place}
use Rattle.invariant.specs.declared.invariant_error.InvariantError.{InvariantError}
use Rattle.invariant.specs.declared.invariant_error.InvariantError.TheVariants.{Number, Byte, Truncated, Latch, Certificate, OutOfMemory}

abbrev pub number_of : InvariantError → ℕ
number_of (Number place) = 3
number_of (Byte place) = 5
number_of (Truncated place) = 6
number_of (Latch place) = 32
number_of (Certificate e) = cert_number e
number_of (OutOfMemory refused) = 20

abbrev pub place_of : InvariantError → ℕ
place_of (Number place) = place
place_of (Byte place) = place
place_of (Truncated place) = place
place_of (Latch place) = place
place_of (Certificate e) = cert_place e
place_of (OutOfMemory refused) = 0
