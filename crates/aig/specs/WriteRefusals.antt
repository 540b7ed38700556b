-- The numbers of the refusals to write.
use Rattle.std.specs.Prelude.{ℕ}
use Rattle.aig.specs.declared.aig_write_error.AigWriteError.{AigWriteError}
use Rattle.aig.specs.declared.aig_write_error.AigWriteError.TheVariants.{Unordered, Device}

abbrev pub number_of : AigWriteError → ℕ
number_of Unordered = 17
number_of Device = 21
