use Rattle.strategies.specs.Searched.{IsBegun, IsBounded, IsInductive}
use Rattle.strategies.proofs.beginning.BeginningEngine.find.Goals as goal

pub returns-clause-begun : goal.returns-clause-begun
unfolding IsBegun IsBounded IsInductive
returns-clause-begun c = c.find.ensures.answered
