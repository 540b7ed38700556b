use Rattle.base.specs.Budget.{Spends}
use Rattle.signal_rounds.proofs.finding.correspond_implied.Given as goal

abbrev pub invariant-corresponding : goal.invariant-corresponding
invariant-corresponding g l = Spends l.initial.budget l.budget

abbrev pub decreases-corresponding : goal.decreases-corresponding
decreases-corresponding g l = l.budget.left
