-- The numbers of refusals.
use Rattle.std.specs.Prelude.{ℕ}
use Rattle.lrat.specs.declared.lrat_error.LratError.{LratError}
use Rattle.lrat.specs.declared.lrat_error.LratError.TheVariants.{Number, Byte, Truncated, OutOfMemory as NoMemory}
use Rattle.lrat.specs.declared.fault.Fault.{Fault}
use Rattle.lrat.specs.declared.fault.Fault.TheVariants.{OutOfMemory, UnknownId, IdOrder, SeveralLeft, TrueAlready, NotFalse, EarlyConflict, NoHints, NegativeHint, RepeatedLiteral, NoEmptyClause, AfterEmpty, VariableRange, EmptyLemma, NoIds}

abbrev pub number_of : Fault → ℕ
number_of (OutOfMemory refused) = 20
number_of UnknownId = 40
number_of IdOrder = 41
number_of SeveralLeft = 42
number_of TrueAlready = 43
number_of NotFalse = 44
number_of EarlyConflict = 45
number_of NoHints = 46
number_of NegativeHint = 47
number_of RepeatedLiteral = 48
number_of NoEmptyClause = 49
number_of AfterEmpty = 50
number_of VariableRange = 51
number_of EmptyLemma = 52
number_of NoIds = 53

abbrev pub lrat_number_of : LratError → ℕ
lrat_number_of (Number place) = 3
lrat_number_of (Byte place) = 5
lrat_number_of (Truncated place) = 6
lrat_number_of (NoMemory refused) = 20

abbrev pub lrat_place_of : LratError → ℕ
lrat_place_of (Number place) = place
lrat_place_of (Byte place) = place
lrat_place_of (Truncated place) = place
lrat_place_of (NoMemory refused) = 0
