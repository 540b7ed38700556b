-- The numbers and places of refusals.
use Rattle.std.specs.Prelude.{ℕ}
use Rattle.graph.specs.declared.error.ReadError.{ReadError}
use Rattle.graph.specs.declared.error.ReadError.TheVariants.{TooLong, Header, Number, Limit, Byte, Truncated, LiteralRange, Defining, DefinedTwice, Undefined, Cyclic, Reset, Delta, Symbol, Counts, NoProperty, OutOfMemory}

abbrev pub number_of : ReadError → ℕ
number_of TooLong = 1
number_of (Header p) = 2
number_of (Number p) = 3
number_of (Limit p) = 4
number_of (Byte p) = 5
number_of (Truncated p) = 6
number_of (LiteralRange p) = 7
number_of (Defining p) = 8
number_of (DefinedTwice v) = 9
number_of (Undefined v) = 10
number_of (Cyclic v) = 11
number_of (Reset p) = 12
number_of (Delta p) = 13
number_of (Symbol p) = 14
number_of (Counts p) = 16
number_of (NoProperty n) = 30
number_of (OutOfMemory refused) = 20

abbrev pub place_of : ReadError → ℕ
place_of TooLong = 67108864
place_of (Header p) = p
place_of (Number p) = p
place_of (Limit p) = p
place_of (Byte p) = p
place_of (Truncated p) = p
place_of (LiteralRange p) = p
place_of (Defining p) = p
place_of (DefinedTwice v) = v
place_of (Undefined v) = v
place_of (Cyclic v) = v
place_of (Reset p) = p
place_of (Delta p) = p
place_of (Symbol p) = p
place_of (Counts p) = p
place_of (NoProperty n) = n
place_of (OutOfMemory refused) = 0
