-- The numbers and places of refusals.
use Rattle.std.specs.Prelude.{ℕ}
use Rattle.stimulus.specs.Numbers.{judge_number_of, judge_place_of}
use Rattle.witness.specs.declared.witness_error.WitnessError.{WitnessError}
use Rattle.witness.specs.declared.witness_error.WitnessError.TheVariants.{NoViolation, Property, Character, Truncated, LineLength, NotShown, OutOfMemory}

abbrev pub number_of : WitnessError → ℕ
number_of (NoViolation place) = 65
number_of (Property place) = 81
number_of (Character place) = 83
number_of (Truncated place) = 84
number_of (LineLength place) = 66
number_of (NotShown e) = judge_number_of e
number_of (OutOfMemory refused) = 20

abbrev pub place_of : WitnessError → ℕ
place_of (NoViolation place) = place
place_of (Property place) = place
place_of (Character place) = place
place_of (Truncated place) = place
place_of (LineLength place) = place
place_of (NotShown e) = judge_place_of e
place_of (OutOfMemory refused) = 0
