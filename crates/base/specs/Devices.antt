-- What a device does in one call.
use Rattle.std.specs.Prelude.{◌≡◌, ◌↔◌, ℕ, ◌+◌, ◌<◌, ◌≤◌, List, [], ◌++◌, length, take, Bool, Option, Result, IfOk, IsErrOf, MatchResult, false, IsTrue, IfSome}
use Rattle.std.specs.Io.KnownBytes.{Appends}

-- no more bytes are moved than the slice has
abbrev pub FitsSlice : {E : Type 0} → Result ℕ E → List ℕ → Type 0
FitsSlice result bytes = IfOk result (λ n. n ≤ length bytes)

-- of a slice that is not empty, at least one byte is moved
abbrev pub MovesSome : {E : Type 0} → Result ℕ E → List ℕ → Type 0
MovesSome result bytes = IfOk result (λ n. 0 < length bytes → 0 < n)

-- a failure adds one to the count of failures, and a success nothing
abbrev pub CountsFailure : {X E : Type 0} → ℕ → ℕ → Result X E → Type 0
CountsFailure before after result = MatchResult result (λ _. after ≡ before) (λ _. after ≡ before + 1)

-- in a call of several steps, the device failed once where this is the error, and else not
pub record FailsOnce {X E : Type 0} (result : Result X E) (device : E) (before after : ℕ) : Type 0 where
  pub failed : IsErrOf result device ↔ (after ≡ before + 1)
  pub kept : (IsErrOf result device → ⊥) → after ≡ before

-- what was given lowers what can still be given, and a failure leaves it
abbrev pub LowersMost : {E : Type 0} → ℕ → ℕ → Result ℕ E → Type 0
LowersMost before after result = MatchResult result (λ n. after + n ≡ before) (λ _. after ≡ before)

-- a source's state, as a relation: the first list is a text that it may be giving, the second is the part that is still to come
abbrev pub Leaves : Type 1
Leaves = List ℕ → List ℕ → Type 0

-- the bytes were moved, in this order and no others
abbrev pub Moves : Leaves → Leaves → List ℕ → Type 0
Moves before after bytes = (text later : List ℕ) → after text later → before text (bytes ++ later)

-- nothing is still to come
abbrev pub IsAtEnd : Leaves → Type 0
IsAtEnd after = (text later : List ℕ) → after text later → later ≡ []

-- the first n bytes of the slice were moved, none into room only at the end, and nothing after a failure
abbrev pub TakeMoves : {E : Type 0} → Leaves → Leaves → Result ℕ E → List ℕ → Type 0
TakeMoves before after result bytes =
    MatchResult result (λ n. Moves before after (take n bytes) × (n ≡ 0 → 0 < length bytes → IsAtEnd after)) (λ _. Moves before after [])

-- the fact is true of the bytes that were to come before the call and of those that are to come after it, whatever the latter
-- turn out to be
abbrev pub Reads : Leaves → Leaves → (List ℕ → List ℕ → Type 0) → Type 0
Reads before after P = (text later : List ℕ) → after text later → (xs : List ℕ) × before text xs × P xs later

-- a beginning of the bytes was put, and nothing else
pub record PutsBeginning (before after : Option (List ℕ)) (bytes : List ℕ) : Type 0 where
  pub done : List ℕ
  pub later : List ℕ
  pub whole : done ++ later ≡ bytes
  pub appends : Appends before after done

-- what was put into memory, and how often there was none
pub record Written : Type 0 where
  pub bytes : List ℕ
  pub failures : ℕ

-- a reader of std behind a source: the bytes that it gave, how many, whether it told its end, and how often it failed
pub record Reader (R : Type 0) : Type 0 where
  pub reader : R
  pub given : List ℕ
  pub count : ℕ
  pub ended : Bool
  pub failures : ℕ

-- a writer of std behind a sink, and how often it failed
pub record Writer (W : Type 0) : Type 0 where
  pub writer : W
  pub failures : ℕ

-- the bytes were put, or after a failure a beginning of them
abbrev pub Puts : {X E : Type 0} → Result X E → Option (List ℕ) → Option (List ℕ) → List ℕ → Type 0
Puts result before after bytes = MatchResult result (λ _. Appends before after bytes) (λ _. PutsBeginning before after bytes)

-- what may still come of a text whose beginning was given: nothing after the end, and where the reader tells its bytes, these
abbrev pub IsLeft : List ℕ → Bool → Option (List ℕ) → List ℕ → List ℕ → Type 0
IsLeft given ended remaining text later =
    (text ≡ given ++ later) × (IsTrue ended → later ≡ []) × (ended ≡ false → IfSome remaining (λ known. later ≡ known))
