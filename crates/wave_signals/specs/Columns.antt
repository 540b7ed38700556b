-- The values of bits at each time of a replay.
use Rattle.std.specs.Prelude.{◌≡◌, ℕ, zero, suc, Bool, List, [], ◌∷◌, Option, Some, map, take, drop}
use Rattle.std.specs.List.{flat_map}
use Rattle.graph.specs.declared.parts.Parts.{Parts}
use Rattle.graph.specs.Circuits.{Valuation, value_of}
use Rattle.simulate.specs.Replays.{Replayed}
use Rattle.stimulus.specs.Courses.{IsPlayed}
use Rattle.wave_signals.specs.declared.bits.Bit.{Bit}

-- the values of the bits at a time
abbrev pub values_at : List Bit → Valuation → List Bool
values_at bits w = map (λ b. value_of w b.lit) bits

-- the values of the bits at a time, each of them known
abbrev pub known_at : List Bit → Valuation → List (Option Bool)
known_at bits w = map Some (values_at bits w)

-- this many rows of this width, that stand one after the other
abbrev pub rows_of : ℕ → ℕ → List (Option Bool) → List (List (Option Bool))
rows_of width zero values = []
rows_of width (suc n) values = take width values ∷ rows_of width n (drop width values)

-- the first i lines were stepped, and these are the values of the bits at the time of each
pub record HasValues (m : Parts) (state : List Bool) (lines : List (List Bool)) (bits : List Bit) (i : ℕ) (now : Replayed) (values : List (Option Bool)) : Type 0 where
  pub valuations : List Valuation
  pub played : IsPlayed m state lines i now valuations
  pub are : values ≡ flat_map (known_at bits) valuations
