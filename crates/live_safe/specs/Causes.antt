-- Why a justice property has no shadow circuit, and the refusals' numbers and places.
use Rattle.std.specs.Prelude.{◌≡◌, ℕ, ◌<◌, ◌≤◌, length}
use Rattle.graph.specs.declared.parts.Parts.{Parts}
use Rattle.live_safe.specs.declared.error.LiveError.{LiveError}
use Rattle.live_safe.specs.declared.error.LiveError.TheVariants.{NoProperty, Limit, OutOfMemory}
use Rattle.live_safe.specs.Shadow.{shadow_of}

-- the property is there, and the shadow circuit has no variable over the limit
pub record IsSmall (m : Parts) (j : ℕ) : Type 0 where
  pub exists : j < length m.justice
  pub within : (shadow_of m j).max_var ≤ 4194303

-- the reason for which a property is refused; only where there is none is memory asked for
abbrev pub HasCause : Parts → ℕ → LiveError → Type 0
HasCause m j (NoProperty n) = (n ≡ j) × (length m.justice ≤ j)
HasCause m j Limit = (j < length m.justice) × (4194303 < (shadow_of m j).max_var)
HasCause m j (OutOfMemory refused) = IsSmall m j

abbrev pub number_of : LiveError → ℕ
number_of (NoProperty n) = 30
number_of Limit = 4
number_of (OutOfMemory refused) = 20

abbrev pub place_of : LiveError → ℕ
place_of (NoProperty n) = n
place_of Limit = 0
place_of (OutOfMemory refused) = 0
