use Rattle.base.specs.Budget.{Spends}
use Rattle.signal_rounds.proofs.search.Search.sample.Given as goal

abbrev pub invariant-simulating : goal.invariant-simulating
invariant-simulating l = Spends l.initial.budget l.budget
