-- The numbers and places of refusals.
use Rattle.std.specs.Prelude.{ℕ}
use Rattle.lrat.specs.Numbers.{number_of as fault_number}
use Rattle.checker2.specs.declared.check_error.CheckError.{CheckError}
use Rattle.checker2.specs.declared.check_error.CheckError.TheVariants.{NoProperty, Limit, Sections, NotLatch, Repeated, Section, OutOfMemory}

abbrev pub number_of : CheckError → ℕ
number_of (NoProperty n) = 30
number_of Limit = 4
number_of (Sections n) = 34
number_of (NotLatch k) = 32
number_of (Repeated k) = 33
number_of (Section e k) = fault_number e.fault
number_of (OutOfMemory refused) = 20

abbrev pub place_of : CheckError → ℕ
place_of (NoProperty n) = n
place_of Limit = 0
place_of (Sections n) = n
place_of (NotLatch k) = k
place_of (Repeated k) = k
place_of (Section e k) = e.line
place_of (OutOfMemory refused) = 0

abbrev pub section_of : CheckError → ℕ
section_of (Section e k) = k
section_of _ = 0
