-- The numbers of refusals.
use Rattle.std.specs.Prelude.{ℕ}
use Rattle.cnf.specs.declared.error.CnfError.{CnfError}
use Rattle.cnf.specs.declared.error.CnfError.TheVariants.{Limit, OutOfMemory}

abbrev pub number_of : CnfError → ℕ
number_of Limit = 4
number_of (OutOfMemory refused) = 20
