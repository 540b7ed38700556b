-- The numbers and places of refusals.
use Rattle.std.specs.Prelude.{ℕ}
use Rattle.aig.specs.declared.aig_write_error.AigWriteError.{AigWriteError}
use Rattle.aig.specs.declared.aig_write_error.AigWriteError.TheVariants as write
use Rattle.aiger.specs.Numbers.{number_of as load_number, place_of as load_place}
use Rattle.stimulus.specs.Numbers.{stim_number_of, stim_place_of, sim_number_of, sim_place_of}
use Rattle.certificate.specs.Numbers.{write_number_of, write_place_of}
use Rattle.verdict.specs.Numbers.{number_of as decide_number, place_of as decide_place}
use Rattle.aigmc_files.specs.declared.command_error.CommandError.{CommandError}
use Rattle.aigmc_files.specs.declared.command_error.CommandError.TheVariants.{Load, Stimulus, Sim, Decide, Certificate, Unordered, OutOfMemory, Device}

abbrev pub number_of : CommandError → ℕ
number_of (Load e) = load_number e
number_of (Stimulus e) = stim_number_of e
number_of (Sim e) = sim_number_of e
number_of (Decide e) = decide_number e
number_of (Certificate e) = write_number_of e
number_of Unordered = 17
number_of (OutOfMemory refused) = 20
number_of Device = 21

abbrev pub place_of : CommandError → ℕ
place_of (Load e) = load_place e
place_of (Stimulus e) = stim_place_of e
place_of (Sim e) = sim_place_of e
place_of (Decide e) = decide_place e
place_of (Certificate e) = write_place_of e
place_of Unordered = 0
place_of (OutOfMemory refused) = 0
place_of Device = 0

-- what a refusal of the binary layout's writer is here
abbrev pub written : AigWriteError → CommandError
written write.Unordered = Unordered
written write.Device = Device
