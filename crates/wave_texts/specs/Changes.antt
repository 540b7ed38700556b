-- The values of a waveform, at each time those that changed.
use Rattle.std.specs.Prelude.{ℕ, ◌+◌, ◌-◌, Bool, Option, List, [], ◌∷◌, ◌++◌, take, drop, codes, decimal, if◌then◌else◌}
use Rattle.std.specs.List.{flat_map}
use Rattle.std.specs.Bool.{beq}
use Rattle.std.specs.Option.{option_eq}
use Rattle.std.specs.Cmp.Lexicographic.{pointwise}
use Rattle.wave_signals.specs.declared.bits.Bit.{Bit}
use Rattle.wave_signals.specs.declared.signals.Signal.{Signal}
use Rattle.wave_signals.specs.Signals.{bits_of}
use Rattle.bit_numbers.specs.Numbers.{binary_digit, binary_text}
use Rattle.wave_texts.specs.Variables.{code_of}

-- the value of a vector
abbrev pub vector_text : List (Option Bool) → List ℕ
vector_text bits = (codes "b" ++ binary_text bits) ++ codes " "

-- the value of a variable: the digit of one bit, or `b`, the digits of several and a space
abbrev pub wave_value : List (Option Bool) → List ℕ
wave_value [] = vector_text []
wave_value (b ∷ []) = binary_digit b ∷ []
wave_value (b ∷ c ∷ bits) = vector_text (b ∷ c ∷ bits)

-- what a signal has of a row of values, one of each bit
abbrev pub part_of : List (Option Bool) → Signal → List (Option Bool)
part_of row s = take (s.end - s.first) (drop s.first row)

-- a signal's value and code
abbrev pub told_text : List Bit → List (Option Bool) → List ℕ
told_text bits values = (wave_value values ++ code_of bits) ++ codes "\n"

-- a signal's change from a row of values to the next: nothing where its value stays
abbrev pub change_text : List Bit → List (Option Bool) → List (Option Bool) → Signal → List ℕ
change_text bits before now s = if pointwise (option_eq beq) (part_of before s) (part_of now s) then [] else told_text (bits_of bits s) (part_of now s)

-- the changes of all signals from a row of values to the next
abbrev pub changes_text : List Bit → List Signal → List (Option Bool) → List (Option Bool) → List ℕ
changes_text bits signals before now = flat_map (change_text bits before now) signals

-- a time begins
abbrev pub stamp_text : ℕ → List ℕ
stamp_text t = (codes "#" ++ decimal t) ++ codes "\n"

-- each time from t on with its changes, behind a row of values, and the time after the last
abbrev pub times_text : List Bit → List Signal → ℕ → List (Option Bool) → List (List (Option Bool)) → List ℕ
times_text bits signals t before [] = stamp_text t
times_text bits signals t before (now ∷ rows) = (stamp_text t ++ changes_text bits signals before now) ++ times_text bits signals (t + 1) now rows
