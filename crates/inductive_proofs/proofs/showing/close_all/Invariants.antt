use Rattle.std.proofs.Common.{◌≡◌, ℤ, List, All}
use Rattle.base.specs.Budget.{Spends}
use Rattle.cdcl_log.specs.Closings.{IsClosingOf}
use Rattle.inductive_proofs.proofs.showing.close_all.Given as goal

abbrev pub invariant-loop-place : goal.invariant-loop-place
invariant-loop-place l = record {
  formula : l.refuter.formula ≡ l.initial.refuter.formula;
  spends : Spends l.initial.budget l.budget;
  closed : All (λ k. (us : List ℤ) × IsClosingOf l.refuter us k) l.closings;
}
