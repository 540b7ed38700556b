-- What loose rows of values leave open, and what completes them.
use Rattle.std.specs.Prelude.{◌≡◌, ◌==◌, if◌then◌else◌, Bool, true, false, List, [], ◌∷◌, Option, None, Some}
use Rattle.graph.specs.declared.circuit.Latch.{Latch}

-- a value that is given stands; one that is not given is any
abbrev pub Keeps : Option Bool → Bool → Type 0
Keeps None value = Unit {0}
Keeps (Some given) value = value ≡ given

-- as many values, each of which stands where it is given
abbrev pub Completes : List (Option Bool) → List Bool → Type 0
Completes [] [] = Unit {0}
Completes [] (value ∷ values) = ⊥
Completes (given ∷ row) [] = ⊥
Completes (given ∷ row) (value ∷ values) = Keeps given value × Completes row values

-- the lines complete the first rows, and the rows behind them are cut off
abbrev pub CompleteFirst : List (List (Option Bool)) → List (List Bool) → Type 0
CompleteFirst rows [] = Unit {0}
CompleteFirst [] (line ∷ lines) = ⊥
CompleteFirst (row ∷ rows) (line ∷ lines) = Completes row line × CompleteFirst rows lines

-- the value that is given, or else this one
abbrev pub value_or : Bool → Option Bool → Bool
value_or other None = other
value_or other (Some given) = given

-- the value that the latch is reset to, or else this one
abbrev pub reset_or : Bool → Latch → Bool
reset_or other l = if l.reset.0 == 0 then false else (if l.reset.0 == 1 then true else other)

-- the value that the latch, if there is one, is reset to, or else this one
abbrev pub reset_at : Bool → Option Latch → Bool
reset_at other None = other
reset_at other (Some l) = reset_or other l

-- the row with a value in place of each that is not given: a latch's reset, where there is one, and else this one
abbrev pub completion : List Latch → Bool → List (Option Bool) → List Bool
completion latches other [] = []
completion [] other (given ∷ row) = value_or other given ∷ completion [] other row
completion (l ∷ latches) other (given ∷ row) = value_or (reset_or other l) given ∷ completion latches other row
