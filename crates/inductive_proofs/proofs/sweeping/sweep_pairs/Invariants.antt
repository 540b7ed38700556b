use Rattle.std.proofs.Common.{◌≡◌}
use Rattle.base.specs.Budget.{Spends}
use Rattle.inductive_proofs.proofs.sweeping.sweep_pairs.Given as goal

abbrev pub invariant-sweeping : goal.invariant-sweeping
invariant-sweeping l = record {
  same : l.refuter ≡ l.initial.refuter;
  sweep : l.sweep ≡ l.initial.sweep;
  spends : Spends l.initial.budget l.budget;
}
