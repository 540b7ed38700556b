use Rattle.std.proofs.Common.{◌≡◌, ◌<◌, ℕ, length}
use Rattle.signal_classes.specs.Paired.{later_in, lit_at}
use Rattle.signal_classes.proofs.pairing.lits_by.Given as goal

abbrev pub invariant-loop-variable : goal.invariant-loop-variable
invariant-loop-variable l = record {
  places : length l.later.items ≡ l.variable;
  constant : lit_at l.later.items 0 ≡ record { 0 = 0 };
  each : (v : ℕ) → 0 < v → v < l.variable → lit_at l.later.items v ≡ later_in l.nexts l.most v;
}
