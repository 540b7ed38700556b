-- Which fault is reported, and at which place.
use Rattle.std.specs.Prelude.{◌≡◌, ℕ, ◌<◌, ◌≤◌, List, [], ◌∷◌, ◌++◌, length, take, get_or, Result, Ok, Err, Some, None, if◌then◌else◌, ◌==◌}
use Rattle.scan.specs.declared.fault.Fault.{Fault}
use Rattle.scan.specs.declared.fault.Fault.TheVariants.{Memory, Text}
use Rattle.scan.specs.declared.fault.Kinds.{Kinds}
use Rattle.scan.specs.Reading.{Read}
use Rattle.scan.specs.Numbers.{begins_number, number_at}
use Rattle.scan.specs.Bytes.{byte_at}

-- no out of memory, and a place from which at most so much is left
abbrev pub IsWithin : {K X : Type 0} → ℕ → Result X (Fault K) → Type 0
IsWithin most (Ok x) = Unit {0}
IsWithin most (Err (Memory refused)) = ⊥
IsWithin most (Err (Text kind left)) = left ≤ most

-- no out of memory, and a place in the text
abbrev pub IsPlaced : {K X : Type 0} → List ℕ → Result X (Fault K) → Type 0
IsPlaced text result = IsWithin (length text) result

-- what is reported of a text with no number of at most the limit, at the place from which so much is left
abbrev pub number_fault : {K : Type 0} → Kinds K → ℕ → List ℕ → Fault K
number_fault kinds left [] = Text kinds.truncated 0
number_fault kinds left (c ∷ cs) = Text (if begins_number c cs then kinds.over else kinds.number) left

-- what is reported of a text that begins with another byte
abbrev pub byte_fault : {K : Type 0} → Kinds K → List ℕ → Fault K
byte_fault kinds [] = Text kinds.truncated 0
byte_fault kinds (c ∷ cs) = Text kinds.byte (length (c ∷ cs))

-- what is reported behind a number, or of it where there is none
abbrev pub fault_behind : {K : Type 0} → Kinds K → List ℕ → Read ℕ → Fault K
fault_behind kinds text None = number_fault kinds (length text) text
fault_behind kinds text (Some n) = byte_fault kinds n.1

-- what is reported of a text with no number and byte behind it
abbrev pub word_fault : {K : Type 0} → Kinds K → ℕ → List ℕ → Fault K
word_fault kinds limit text = fault_behind kinds text (number_at limit text)

-- what is reported of a text with no number behind a minus, which stands at the place from which left bytes are left
abbrev pub fault_behind_minus : {K : Type 0} → Kinds K → ℕ → List ℕ → Read ℕ → Fault K
fault_behind_minus kinds left text None = number_fault kinds left text
fault_behind_minus kinds left text (Some n) = if n.0 == 0 then Text kinds.number left else byte_fault kinds n.1

-- what is reported of a text with no signed number and byte behind it: a fault of a number with a minus has the place of the minus
abbrev pub signed_fault : {K : Type 0} → Kinds K → ℕ → List ℕ → Fault K
signed_fault kinds limit [] = word_fault kinds limit []
signed_fault kinds limit (c ∷ cs) = if c == 45 then fault_behind_minus kinds (length (c ∷ cs)) cs (number_at limit cs) else word_fault kinds limit (c ∷ cs)

-- the fault is that of the first byte that differs
pub record IsTagFault {K : Type 0} (kinds : Kinds K) (wanted text : List ℕ) (e : Fault K) : Type 0 where
  pub same : ℕ
  pub rest : List ℕ
  pub begins : text ≡ take same wanted ++ rest
  pub short : same < length wanted
  pub differs : byte_at (get_or wanted same 0) rest ≡ None
  pub fault : e ≡ byte_fault kinds rest
