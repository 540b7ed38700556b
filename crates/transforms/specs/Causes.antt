-- The refusals' numbers and places.
use Rattle.std.specs.Prelude.{ℕ}
use Rattle.graph.specs.Refusals as circuits
use Rattle.live_safe.specs.Causes as shadows
use Rattle.transforms.specs.declared.error.TransformError.{TransformError}
use Rattle.transforms.specs.declared.error.TransformError.TheVariants.{NoProperty, Circuit, Shadow, OutOfMemory, Name}

abbrev pub number_of : TransformError → ℕ
number_of (NoProperty n) = 30
number_of (Circuit e) = circuits.number_of e
number_of (Shadow e) = shadows.number_of e
number_of (OutOfMemory refused) = 20
number_of Name = 20

abbrev pub place_of : TransformError → ℕ
place_of (NoProperty n) = n
place_of (Circuit e) = circuits.place_of e
place_of (Shadow e) = shadows.place_of e
place_of (OutOfMemory refused) = 0
place_of Name = 0
