-- What is said of two readers of std, of one property where it is wanted, or of the one that the evidence names.
use Rattle.std.specs.Prelude.{ℕ, List, Option, None, Some}
use Rattle.base.specs.Devices.{IsAtEnd, Reader, Reads, IsLeft}
use Rattle.graph.specs.declared.circuit.Property.{Property}
use Rattle.checker.specs.Replayed.{BeginsRunLine, BeginsRunLineFor, IsRunRefusal, IsRunRefusalFor}
use Rattle.checker.specs.Verdicts.{BeginsLine, BeginsLineFor, IsRefusal, IsRefusalFor}

-- the fact is true of what the reader gave in this call, followed by whatever may still come
abbrev pub Gives : {R : Type 0} → Reader R → Reader R → (R → Option (List ℕ)) → (List ℕ → Type 0) → Type 0
Gives before after remaining P =
    Reads (IsLeft before.given before.ended (remaining before.reader)) (IsLeft after.given after.ended (remaining after.reader)) (λ xs _. P xs)

-- nothing of the reader is still to come
abbrev pub IsDone : {R : Type 0} → Reader R → (R → Option (List ℕ)) → Type 0
IsDone reader remaining = IsAtEnd (IsLeft reader.given reader.ended (remaining reader.reader))

-- why the answer is no
abbrev pub IsRefusalOf : Option Property → List ℕ → List ℕ → ℕ → Type 0
IsRefusalOf None = IsRefusal
IsRefusalOf (Some p) = IsRefusalFor p

-- why the answer about a stimulus is no
abbrev pub IsRunRefusalOf : Option Property → List ℕ → List ℕ → ℕ → Type 0
IsRunRefusalOf None = IsRunRefusal
IsRunRefusalOf (Some p) = IsRunRefusalFor p

-- a beginning of the line that is due was put
abbrev pub BeginsLineOf : Option Property → List ℕ → List ℕ → Option (List ℕ) → Option (List ℕ) → Type 0
BeginsLineOf None = BeginsLine
BeginsLineOf (Some p) = BeginsLineFor p

-- a beginning of the line that is due about a stimulus was put
abbrev pub BeginsRunLineOf : Option Property → List ℕ → List ℕ → Option (List ℕ) → Option (List ℕ) → Type 0
BeginsRunLineOf None = BeginsRunLine
BeginsRunLineOf (Some p) = BeginsRunLineFor p
