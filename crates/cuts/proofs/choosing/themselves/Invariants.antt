use Rattle.std.proofs.Common.{◌≡◌, ℕ, ◌+◌, ◌<◌, length}
use Rattle.cuts.specs.Cuts.{cut_at}
use Rattle.cuts.specs.Joining.{trivial}
use Rattle.cuts.proofs.choosing.themselves.Given as goal

abbrev pub invariant-loop-variable : goal.invariant-loop-variable
invariant-loop-variable l = (length l.cuts.items ≡ l.max_var + 1) × ((v : ℕ) → v < l.variable → cut_at l.cuts.items v ≡ trivial v)
