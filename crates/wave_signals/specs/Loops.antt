-- Where the loop of a lasso begins.
use Rattle.std.specs.Prelude.{◌≡◌, ℕ, ◌<◌, Bool, List, length, Option, Some, None}
use Rattle.graph.specs.declared.circuit.Lit.{Lit}
use Rattle.graph.specs.declared.circuit.Property.{Property}
use Rattle.graph.specs.declared.circuit.Property.TheVariants.{Justice}
use Rattle.graph.specs.declared.parts.Parts.{Parts}
use Rattle.graph.specs.Circuits.{wanted_of, Valuation}
use Rattle.stimulus.specs.Shown.{ClosesLasso}

-- the first time from which the replay closes a lasso with this closing state in which each wanted literal is set, or none
abbrev pub IsFirstLasso : Parts → List Lit → List Bool → List Valuation → Option ℕ → Type 0
IsFirstLasso m wanted closing r None = (t : ℕ) → ClosesLasso m wanted closing r t → ⊥
IsFirstLasso m wanted closing r (Some start) = ClosesLasso m wanted closing r start × ((t : ℕ) → t < start → ClosesLasso m wanted closing r t → ⊥)

-- the property is a justice property that there is, and from this time on the replay closes a lasso of it
pub record LoopsFrom (m : Parts) (p : Property) (closing : List Bool) (r : List Valuation) (start : ℕ) : Type 0 where
  pub position : ℕ
  pub names : p ≡ Justice position
  pub exists : position < length m.justice
  pub lasso : ClosesLasso m (wanted_of m position) closing r start

-- the first time from which the replay closes a lasso of the property, or none
abbrev pub IsLoopStart : Parts → Property → List Bool → List Valuation → Option ℕ → Type 0
IsLoopStart m p closing r None = (t : ℕ) → LoopsFrom m p closing r t → ⊥
IsLoopStart m p closing r (Some start) = LoopsFrom m p closing r start × ((t : ℕ) → t < start → LoopsFrom m p closing r t → ⊥)
