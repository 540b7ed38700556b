-- The numbers of what leaves no answer.
use Rattle.std.specs.Prelude.{ℕ}
use Rattle.checker.specs.declared.run_error.RunError.{RunError}
use Rattle.checker.specs.declared.run_error.RunError.TheVariants.{OutOfMemory, Device}

abbrev pub run_number_of : RunError → ℕ
run_number_of (OutOfMemory refused) = 20
run_number_of Device = 21
