-- The numbers and places of refusals.
use Rattle.std.specs.Prelude.{ℕ}
use Rattle.graph.specs.Refusals.{number_of as read_number, place_of as read_place}
use Rattle.aiger.specs.declared.load_error.LoadError.{LoadError}
use Rattle.aiger.specs.declared.load_error.LoadError.TheVariants.{Refused, Device}

abbrev pub number_of : LoadError → ℕ
number_of (Refused e) = read_number e
number_of Device = 21

abbrev pub place_of : LoadError → ℕ
place_of (Refused e) = read_place e
place_of Device = 0
