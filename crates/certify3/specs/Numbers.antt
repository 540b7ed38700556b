-- The numbers and places of refusals.
use Rattle.std.specs.Prelude.{ℕ}
use Rattle.checker3.specs.Numbers.{number_of as refusal_number, place_of as refusal_place}
use Rattle.certify3.specs.declared.certify_error.CertifyError.{CertifyError}
use Rattle.certify3.specs.declared.certify_error.CertifyError.TheVariants.{NoProperty, Refused, TooMany, Repeated, IdsTaken, OutOfMemory}

abbrev pub number_of : CertifyError → ℕ
number_of (NoProperty n) = 30
number_of (Refused r) = refusal_number r
number_of TooMany = 4
number_of (Repeated k) = 33
number_of (IdsTaken used_up) = 4
number_of (OutOfMemory refused) = 20

abbrev pub place_of : CertifyError → ℕ
place_of (NoProperty n) = n
place_of (Refused r) = refusal_place r
place_of TooMany = 0
place_of (Repeated k) = k
place_of (IdsTaken used_up) = 0
place_of (OutOfMemory refused) = 0
