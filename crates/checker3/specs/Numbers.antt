-- The numbers and places of refusals.
use Rattle.std.specs.Prelude.{ℕ}
use Rattle.lrat.specs.Numbers.{number_of as fault_number}
use Rattle.checker3.specs.declared.check_error.CheckError.{CheckError}
use Rattle.checker3.specs.declared.check_error.CheckError.TheVariants.{NoProperty, TooManyRounds, Limit, NotExtension, Outside, Line}

abbrev pub number_of : CheckError → ℕ
number_of NoProperty = 30
number_of TooManyRounds = 56
number_of Limit = 4
number_of NotExtension = 54
number_of (Outside k) = 55
number_of (Line fault) = fault_number fault

abbrev pub place_of : CheckError → ℕ
place_of (Outside k) = k
place_of _ = 0
