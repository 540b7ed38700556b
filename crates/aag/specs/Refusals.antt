-- What is reported of a text that is refused.
use Rattle.std.specs.Prelude.{ℕ, ◌-◌, List, [], ◌∷◌}
use Rattle.base.specs.Witness.{witness}
use Rattle.scan.specs.declared.fault.Fault.{Fault}
use Rattle.scan.specs.declared.fault.Fault.TheVariants.{Memory, Text}
use Rattle.graph.specs.declared.error.ReadError.{ReadError}
use Rattle.graph.specs.declared.error.ReadError.TheVariants as error
use Rattle.aag.specs.declared.read_fault.ReadFault.{ReadFault}
use Rattle.aag.specs.declared.read_fault.ReadFault.TheVariants.{Header, Number, Limit, Byte, Truncated, LiteralRange, Reset, Counts, Symbol, Layout}

-- a refusal at a byte, where this is what the layout alone refuses
abbrev pub at_byte : {L : Type 0} → (L → ℕ → ReadError) → ReadFault L → ℕ → ReadError
at_byte own Header p = error.Header p
at_byte own Number p = error.Number p
at_byte own Limit p = error.Limit p
at_byte own Byte p = error.Byte p
at_byte own Truncated p = error.Truncated p
at_byte own LiteralRange p = error.LiteralRange p
at_byte own Reset p = error.Reset p
at_byte own Counts p = error.Counts p
at_byte own Symbol p = error.Symbol p
at_byte own (Layout refusal) p = own refusal p

-- the error that a fault is in a text of this length
abbrev pub error_of : {L : Type 0} → (L → ℕ → ReadError) → ℕ → Fault (ReadFault L) → ReadError
error_of own length (Memory refused) = error.OutOfMemory witness
error_of own length (Text kind left) = at_byte own kind (length - left)

-- the numbers of the refusals of a text
abbrev pub refusal_numbers : List ℕ
refusal_numbers = 1 ∷ 2 ∷ 3 ∷ 4 ∷ 5 ∷ 6 ∷ 7 ∷ 8 ∷ 9 ∷ 10 ∷ 11 ∷ 12 ∷ 14 ∷ 16 ∷ 20 ∷ []
