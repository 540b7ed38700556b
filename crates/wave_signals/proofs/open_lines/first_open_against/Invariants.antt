use Rattle.std.proofs.Common.{ℕ, ◌<◌}
use Rattle.wave_signals.specs.OpenRows.{IsOpenFineAt}
use Rattle.wave_signals.proofs.open_lines.first_open_against.Given as goal

abbrev pub invariant-loop-k : goal.invariant-loop-k
invariant-loop-k l = (i : ℕ) → i < l.k → IsOpenFineAt l.latches l.given i
