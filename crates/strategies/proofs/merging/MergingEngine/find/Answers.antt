use Rattle.strategies.specs.Searched.{IsSearched, IsBounded, IsInductive}
use Rattle.strategies.proofs.merging.MergingEngine.find.Goals as goal

pub returns-clause-searched : goal.returns-clause-searched
unfolding IsSearched IsBounded IsInductive
returns-clause-searched c = c.find.ensures.answered
