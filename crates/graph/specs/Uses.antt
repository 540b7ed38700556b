-- How the literals of a circuit's parts stand there, one by one.
use Rattle.std.specs.Prelude.{◌≡◌, ℕ, ◌+◌, ◌*◌, ◌%◌, ◌<◌, ◌≤◌, ◌⊎◌, List, [], ◌∷◌, ◌++◌, map, flat_map, length, All}
use Rattle.graph.specs.declared.circuit.Latch.{Latch}
use Rattle.graph.specs.declared.circuit.Gate.{Gate}
use Rattle.graph.specs.declared.parts.Parts.{Parts}
use Rattle.graph.specs.declared.circuit.Use.{Use}
use Rattle.graph.specs.declared.circuit.Use.TheVariants.{Defines, Mentions, Resets}
use Rattle.graph.specs.Circuits.{HasReset, justice_literals}

abbrev pub latch_uses : Latch → List Use
latch_uses l = Defines l.lit ∷ Mentions l.next ∷ Resets l ∷ []

abbrev pub gate_uses : Gate → List Use
gate_uses g = Defines g.lhs ∷ Mentions g.rhs0 ∷ Mentions g.rhs1 ∷ []

-- all literals, in the order of the lists
abbrev pub uses_of : Parts → List Use
uses_of m =
    map Defines m.inputs ++ flat_map latch_uses m.latches ++ map Mentions m.outputs ++ map Mentions m.bad
    ++ map Mentions m.constraints ++ map Mentions (justice_literals m.justice) ++ map Mentions m.fairness ++ flat_map gate_uses m.gates

-- above the greatest literal
abbrev pub IsOutOfRange : ℕ → Use → Type 0
IsOutOfRange max (Defines a) = 2 * max + 1 < a.0
IsOutOfRange max (Mentions a) = 2 * max + 1 < a.0
IsOutOfRange max (Resets l) = ⊥

-- it defines something, and is odd or below 2
abbrev pub IsNotDefining : ℕ → Use → Type 0
IsNotDefining max (Defines a) = (a.0 ≤ 2 * max + 1) × ((a.0 % 2 ≡ 1) ⊎ (a.0 < 2))
IsNotDefining max (Mentions a) = ⊥
IsNotDefining max (Resets l) = ⊥

-- a reset that is neither 0, 1 nor the latch's own literal
abbrev pub IsWrongReset : Use → Type 0
IsWrongReset (Defines a) = ⊥
IsWrongReset (Mentions a) = ⊥
IsWrongReset (Resets l) = HasReset l → ⊥

-- nothing is wrong with it
abbrev pub IsFine : ℕ → Use → Type 0
IsFine max (Defines a) = (2 ≤ a.0) × (a.0 % 2 ≡ 0) × (a.0 ≤ 2 * max + 1)
IsFine max (Mentions a) = a.0 ≤ 2 * max + 1
IsFine max (Resets l) = HasReset l

-- the use has k others before it, which are fine, and this fault
pub record IsFirst (max : ℕ) (uses : List Use) (k : ℕ) (IsFault : Use → Type 0) : Type 0 where
  pub before : List Use
  pub use_here : Use
  pub after : List Use
  pub whole : uses ≡ before ++ use_here ∷ after
  pub count : length before ≡ k
  pub fine : All (IsFine max) before
  pub fault : IsFault use_here
