-- Reading from left to right: a function on lists answers a value and the text behind it.
use Rattle.std.specs.Prelude.{◌≡◌, ℕ, List, length, Option, Some, None, Result, Ok, Err, option_and_then, ◌==◌, if◌then◌else◌}
use Rattle.scan.specs.declared.fault.Fault.{Fault}
use Rattle.scan.specs.declared.fault.Fault.TheVariants.{Memory, Text}

infixl 10 ◌>>=◌
-- one step after another, as long as none fails
abbrev pub ◌>>=◌ : {A B : Type 0} → Option A → (A → Option B) → Option B
o >>= f = option_and_then f o

-- a value, and the text behind it
abbrev pub Read : Type 0 → Type 0
Read A = Option (A × List ℕ)

-- what was read, where nothing is left behind it
abbrev pub ended : {A : Type 0} → Read A → Option A
ended read = read >>= λ r. if length r.1 == 0 then Some r.0 else None

-- this fault is reported where reading gives nothing, and out of memory anywhere
abbrev pub Fails : {K Y : Type 0} → Fault K → Option Y → Type 0
Fails (Memory refused) read = Unit {0}
Fails (Text kind left) read = read ≡ None

-- what a function returned, seen by view, is what reading gives, unless memory ran out
abbrev pub Gives : {K X Y : Type 0} → (X → Y) → Result X (Fault K) → Option Y → Type 0
Gives view (Ok x) read = read ≡ Some (view x)
Gives view (Err e) read = Fails e read
