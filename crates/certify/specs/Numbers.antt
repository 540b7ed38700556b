-- The numbers and places of refusals.
use Rattle.std.specs.Prelude.{ℕ}
use Rattle.certify.specs.declared.certify_error.CertifyError.{CertifyError}
use Rattle.certify.specs.declared.certify_error.CertifyError.TheVariants.{NoProperty, Limit, IdsTaken, NotLatch, Repeated, OutOfMemory}

abbrev pub number_of : CertifyError → ℕ
number_of (NoProperty n) = 30
number_of Limit = 4
number_of (IdsTaken used_up) = 4
number_of (NotLatch k) = 32
number_of (Repeated k) = 33
number_of (OutOfMemory refused) = 20

abbrev pub place_of : CertifyError → ℕ
place_of (NoProperty n) = n
place_of Limit = 0
place_of (IdsTaken used_up) = 0
place_of (NotLatch k) = k
place_of (Repeated k) = k
place_of (OutOfMemory refused) = 0
