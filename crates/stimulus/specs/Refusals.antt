-- What is reported of a text that is refused.
use Rattle.std.specs.Prelude.{◌≡◌, ℕ, ◌-◌, Result, MatchResult, List, [], ◌∷◌, length}
use Rattle.base.specs.Witness.{witness}
use Rattle.scan.specs.declared.fault.Fault.{Fault}
use Rattle.scan.specs.declared.fault.Fault.TheVariants.{Memory, Text}
use Rattle.stimulus.specs.declared.stim_error.StimError.{StimError}
use Rattle.stimulus.specs.declared.stim_error.StimError.TheVariants.{Status, PropertyLine, Character, Truncated, AfterEnd, OutOfMemory}
use Rattle.stimulus.specs.declared.reading.StimFault.{StimFault}
use Rattle.stimulus.specs.declared.reading.StimFault.TheVariants as refusal
use Rattle.stimulus.specs.declared.value.Stimulus.{Stimulus}

-- this stimulus is read, unless memory runs out
abbrev pub IsRead : Result Stimulus StimError → Stimulus → Type 0
IsRead result s = MatchResult result (λ v. v ≡ s) (λ e. e ≡ OutOfMemory witness)

-- a refusal at a byte
abbrev pub at_byte : StimFault → ℕ → StimError
at_byte refusal.Status p = Status p
at_byte refusal.PropertyLine p = PropertyLine p
at_byte refusal.Character p = Character p
at_byte refusal.Truncated p = Truncated p
at_byte refusal.AfterEnd p = AfterEnd p

-- the error for a fault in a text of this number of bytes
abbrev pub error_of : ℕ → Fault StimFault → StimError
error_of length (Memory refused) = OutOfMemory witness
error_of length (Text kind left) = at_byte kind (length - left)

-- the fault of a text that begins otherwise than it is to: at its first byte, or that it ends
abbrev pub fault_at : List ℕ → StimFault → Fault StimFault
fault_at [] kind = Text refusal.Truncated 0
fault_at (b ∷ text) kind = Text kind (length (b ∷ text))
