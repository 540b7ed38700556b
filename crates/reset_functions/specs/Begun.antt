-- Runs of a circuit of whose latches some begin with the value of a function.
use Rattle.std.specs.Prelude.{◌≡◌, List, [], ◌∷◌, Option, Some, None, All}
use Rattle.graph.specs.declared.circuit.Lit.{Lit}
use Rattle.graph.specs.declared.circuit.Latch.{Latch}
use Rattle.graph.specs.declared.parts.Parts.{Parts}
use Rattle.graph.specs.Circuits.{Valuation, value_of, Fires, IsReset, IsRun, Steps}
use Rattle.reset_functions.specs.Made.{head, others}

-- the latch begins with the value of the literal, where there is one, and else with its reset
abbrev pub Begins : Valuation → Latch → Option Lit → Type 0
Begins w l None = IsReset w l
Begins w l (Some x) = value_of w l.lit ≡ value_of w x

-- each latch does, by the literals at the latches' positions
abbrev pub AllBegin : Valuation → List Latch → List (Option Lit) → Type 0
AllBegin w [] resets = Unit {0}
AllBegin w (l ∷ ls) resets = Begins w l (head resets) × AllBegin w ls (others resets)

abbrev pub StartsBegun : Parts → List (Option Lit) → List Valuation → Type 0
StartsBegun m resets [] = ⊥
StartsBegun m resets (w ∷ r) = AllBegin w m.latches resets

-- at each time each gate is the conjunction of its right sides; at the first one each latch begins so, and after each
-- other one it has the value of its next literal before
pub record IsBegunRun (m : Parts) (resets : List (Option Lit)) (r : List Valuation) : Type 0 where
  pub gates : All (λ w. All (Fires w) m.gates) r
  pub starts : StartsBegun m resets r
  pub steps : Steps m r

-- each run of the second circuit is one of the first with these resets
abbrev pub RunsAs : Parts → List (Option Lit) → Parts → Type 0
RunsAs m resets n = (r : List Valuation) → IsRun n r → IsBegunRun m resets r
