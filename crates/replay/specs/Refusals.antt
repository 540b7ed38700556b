-- What a reader says where no line comes.
use Rattle.std.specs.Prelude.{Result, Ok, Err}
use Rattle.pieces.specs.declared.line_error.LineError.{LineError}
use Rattle.pieces.specs.declared.line_error.LineError.TheVariants as line
use Rattle.stimulus.specs.Refusals.{error_of}
use Rattle.stimulus.specs.declared.reading.StimFault.{StimFault}
use Rattle.replay.specs.declared.text_error.TextError.{TextError}
use Rattle.replay.specs.declared.text_error.TextError.TheVariants.{Refused, Device}

-- what it is for a reader that no line comes
abbrev pub of_line : LineError StimFault → TextError
of_line (line.Refused length fault) = Refused (error_of length fault)
of_line line.Device = Device

-- what an answer is for a reader
abbrev pub answer_of : {A : Type 0} → Result A (LineError StimFault) → Result A TextError
answer_of (Ok x) = Ok x
answer_of (Err e) = Err (of_line e)
