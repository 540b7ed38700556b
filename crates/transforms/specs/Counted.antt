-- When the circuit that counts rounds of a justice property is not made.
use Rattle.std.specs.Prelude.{ℕ}
use Rattle.graph.specs.declared.parts.Parts.{Parts}
use Rattle.extension.specs.Rows.{IsCountable, HasCause}
use Rattle.transforms.specs.declared.error.TransformError.{TransformError}
use Rattle.transforms.specs.declared.error.TransformError.TheVariants.{NoProperty, Circuit, Shadow, OutOfMemory, Name}

-- a refusal of that circuit has its cause, and another one comes only where there is such a circuit
abbrev pub IsUncounted : Parts → ℕ → ℕ → TransformError → Type 0
IsUncounted m j k (NoProperty n) = ⊥
IsUncounted m j k (Circuit e) = IsCountable m j k
IsUncounted m j k (Shadow e) = HasCause m j k e
IsUncounted m j k (OutOfMemory refused) = IsCountable m j k
IsUncounted m j k Name = IsCountable m j k
