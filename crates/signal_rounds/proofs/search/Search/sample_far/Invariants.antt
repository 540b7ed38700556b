use Rattle.base.specs.Budget.{Spends}
use Rattle.signal_rounds.proofs.search.Search.sample_far.Given as goal

abbrev pub invariant-going : goal.invariant-going
invariant-going l = Spends l.initial.budget l.budget
