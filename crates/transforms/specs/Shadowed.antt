-- When the shadow circuit of a justice property is not made.
use Rattle.std.specs.Prelude.{ℕ}
use Rattle.graph.specs.declared.parts.Parts.{Parts}
use Rattle.live_safe.specs.Causes.{IsSmall, HasCause}
use Rattle.transforms.specs.declared.error.TransformError.{TransformError}
use Rattle.transforms.specs.declared.error.TransformError.TheVariants.{NoProperty, Circuit, Shadow, OutOfMemory, Name}

-- a refusal of the shadow circuit has its cause, and another one comes only where there is such a circuit
abbrev pub IsRefused : Parts → ℕ → TransformError → Type 0
IsRefused m j (NoProperty n) = ⊥
IsRefused m j (Circuit e) = IsSmall m j
IsRefused m j (Shadow e) = HasCause m j e
IsRefused m j (OutOfMemory refused) = IsSmall m j
IsRefused m j Name = IsSmall m j
