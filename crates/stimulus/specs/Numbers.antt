-- Numbers and places of refusals.
use Rattle.std.specs.Prelude.{ℕ}
use Rattle.base.specs.Witness.{witness}
use Rattle.stimulus.specs.declared.stim_error.StimError.{StimError}
use Rattle.stimulus.specs.declared.stim_error.StimError.TheVariants.{Status, PropertyLine, Character, Truncated, AfterEnd, OutOfMemory}
use Rattle.simulate.specs.declared.replay_error.ReplayError.{ReplayError}
use Rattle.simulate.specs.declared.replay_error.ReplayError.TheVariants as replay
use Rattle.stimulus.specs.declared.judge_error.JudgeError.{JudgeError}
use Rattle.stimulus.specs.declared.judge_error.JudgeError.TheVariants as judge
use Rattle.stimulus.specs.declared.sim_error.SimError.{SimError}
use Rattle.stimulus.specs.declared.sim_error.SimError.TheVariants as sim

abbrev pub stim_number_of : StimError → ℕ
stim_number_of (Status place) = 80
stim_number_of (PropertyLine place) = 81
stim_number_of (Character place) = 83
stim_number_of (Truncated place) = 84
stim_number_of (AfterEnd place) = 85
stim_number_of (OutOfMemory refused) = 20

abbrev pub stim_place_of : StimError → ℕ
stim_place_of (Status place) = place
stim_place_of (PropertyLine place) = place
stim_place_of (Character place) = place
stim_place_of (Truncated place) = place
stim_place_of (AfterEnd place) = place
stim_place_of (OutOfMemory refused) = 0

abbrev pub judge_number_of : JudgeError → ℕ
judge_number_of judge.NotViolated = 65
judge_number_of (judge.NoProperty n) = 30
judge_number_of (judge.LineLength line) = 66
judge_number_of judge.NoInputLine = 64
judge_number_of (judge.InitialReset latch) = 60
judge_number_of (judge.ConstraintBroken time) = 61
judge_number_of judge.BadNotSet = 62
judge_number_of judge.NoLasso = 63
judge_number_of (judge.OutOfMemory refused) = 20

abbrev pub judge_place_of : JudgeError → ℕ
judge_place_of judge.NotViolated = 0
judge_place_of (judge.NoProperty n) = n
judge_place_of (judge.LineLength line) = line
judge_place_of judge.NoInputLine = 0
judge_place_of (judge.InitialReset latch) = latch
judge_place_of (judge.ConstraintBroken time) = time
judge_place_of judge.BadNotSet = 0
judge_place_of judge.NoLasso = 0
judge_place_of (judge.OutOfMemory refused) = 0

-- what a replay's refusal is here
abbrev pub judged : ReplayError → JudgeError
judged (replay.InitialReset latch) = judge.InitialReset latch
judged (replay.OutOfMemory refused) = judge.OutOfMemory witness

abbrev pub sim_number_of : SimError → ℕ
sim_number_of sim.NotViolated = 65
sim_number_of (sim.LineLength line) = 66
sim_number_of sim.NoInputLine = 64
sim_number_of (sim.InitialReset latch) = 60
sim_number_of sim.Device = 21
sim_number_of (sim.OutOfMemory refused) = 20

abbrev pub sim_place_of : SimError → ℕ
sim_place_of sim.NotViolated = 0
sim_place_of (sim.LineLength line) = line
sim_place_of sim.NoInputLine = 0
sim_place_of (sim.InitialReset latch) = latch
sim_place_of sim.Device = 0
sim_place_of (sim.OutOfMemory refused) = 0

-- what a replay's refusal is for a table
abbrev pub untold : ReplayError → SimError
untold (replay.InitialReset latch) = sim.InitialReset latch
untold (replay.OutOfMemory refused) = sim.OutOfMemory witness
