use Rattle.std.proofs.Common.{◌≡◌, ℕ, ◌<◌, None}
use Rattle.wave_signals.specs.OpenValues.{open_place}
use Rattle.wave_signals.proofs.open_values.clear.Given as goal

abbrev pub invariant-loop-value : goal.invariant-loop-value
invariant-loop-value l = (v : ℕ) → v < l.value-index → open_place l.out v ≡ None
