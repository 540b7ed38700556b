use Rattle.base.specs.Budget.{Spends}
use Rattle.lrat_trim.proofs.pairing.paired.Given as goal

abbrev pub invariant-round : goal.invariant-round
invariant-round l = Spends l.initial.budget l.budget
