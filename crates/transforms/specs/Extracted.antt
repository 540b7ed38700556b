-- The circuit of one property alone.
use Rattle.std.specs.Prelude.{◌≡◌, ◌↔◌, Bool, if◌then◌else◌, List, [], ◌∷◌, map, filter}
use Rattle.graph.specs.declared.circuit.Lit.{Lit}
use Rattle.graph.specs.declared.circuit.Latch.{Latch}
use Rattle.graph.specs.declared.circuit.Property.{Property}
use Rattle.graph.specs.declared.circuit.Property.TheVariants.{Bad, Justice, Output}
use Rattle.graph.specs.declared.parts.Parts.{Parts}
use Rattle.graph.specs.Circuits.{at, IsWatched, position_of, IsRun, KeepsConstraints, IsSafe, Valuation, variable, place, value_of, state_of, inputs_of}
use Rattle.transforms.specs.declared.error.TransformError.{TransformError}
use Rattle.transforms.specs.declared.error.TransformError.TheVariants.{NoProperty, Circuit, Shadow, OutOfMemory, Name}
use Rattle.sequential_cones.specs.Cones.{IsConeOf}

-- the latch where it is marked, and else one that keeps its value
abbrev pub kept_latch : List Bool → Latch → Latch
kept_latch marks l = if place marks (variable l.lit) then l else record l { next = l.lit }

-- the first property of the same kind
abbrev pub first_of : Property → Property
first_of (Bad n) = Bad 0
first_of (Justice n) = Justice 0
first_of (Output n) = Output 0

-- the literal as the one output, or as the one bad literal
abbrev pub outputs_of : Property → Lit → List Lit
outputs_of (Bad n) a = []
outputs_of (Justice n) a = []
outputs_of (Output n) a = a ∷ []

abbrev pub bad_of : Property → Lit → List Lit
bad_of (Bad n) a = a ∷ []
bad_of (Justice n) a = a ∷ []
bad_of (Output n) a = []

-- the circuit with the marked gates alone, with latches that keep their values where they are not marked, and with one
-- property alone
abbrev pub extract : Parts → Property → Lit → List Bool → Parts
extract m p a marks = record m {
  latches = map (kept_latch marks) m.latches;
  outputs = outputs_of p a;
  bad = bad_of p a;
  justice = [];
  fairness = [];
  gates = filter (λ g. place marks (variable g.lhs)) m.gates;
}

-- the second circuit is the first without what is not of a cone of the property's literal
pub record IsPartOf (m : Parts) (p : Property) (one : Parts) : Type 0 where
  pub bad : Lit
  pub watched : IsWatched m p bad
  pub marks : List Bool
  pub cone : IsConeOf m bad marks
  pub whole : one ≡ extract m p bad marks

-- runs of as many times, which begin in the same state, and have the same inputs and the same value of the literal at each
pub record AreAlike (m : Parts) (a : Lit) (r s : List Valuation) : Type 0 where
  pub inputs : map (inputs_of m) s ≡ map (inputs_of m) r
  pub begins : state_of m (at s 0) ≡ state_of m (at r 0)
  pub sets : map (λ w. value_of w a) s ≡ map (λ w. value_of w a) r

-- the second circuit's first property stands for the property of the first: each run of one of them that keeps the
-- constraints has one of the other that is alike. So a violation of the one is a violation of the other.
pub record StandsFor (m : Parts) (p : Property) (one : Parts) : Type 0 where
  pub bad : Lit
  pub watched : IsWatched m p bad
  pub watches : IsWatched one (first_of p) bad
  pub carried : (r : List Valuation) → IsRun m r → KeepsConstraints m r → (s : List Valuation) × IsRun one s × KeepsConstraints one s × AreAlike m bad r s
  pub restricted : (s : List Valuation) → IsRun one s → KeepsConstraints one s → (r : List Valuation) × IsRun m r × KeepsConstraints m r × AreAlike m bad s r
  pub safe : IsSafe m p ↔ IsSafe one (first_of p)

-- the circuit is not made for another reason than that the property is not there
abbrev pub IsUnmade : TransformError → Type 0
IsUnmade (NoProperty n) = ⊥
IsUnmade (Circuit e) = Unit {0}
IsUnmade (Shadow e) = ⊥
IsUnmade (OutOfMemory refused) = Unit {0}
IsUnmade Name = Unit {0}

-- the property is not there exactly where the refusal says so
abbrev pub HasCause : Parts → Property → TransformError → Type 0
HasCause m p (NoProperty n) = (n ≡ position_of p) × ((a : Lit) → IsWatched m p a → ⊥)
HasCause m p (Circuit e) = (a : Lit) × IsWatched m p a
HasCause m p (Shadow e) = ⊥
HasCause m p (OutOfMemory refused) = (a : Lit) × IsWatched m p a
HasCause m p Name = (a : Lit) × IsWatched m p a
