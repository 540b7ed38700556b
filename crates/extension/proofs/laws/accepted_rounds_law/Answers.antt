use Rattle.extension.proofs.Accepted as all
use Rattle.extension.proofs.laws.accepted_rounds_law.Goals as goal

pub returns : goal.returns
returns c = all.accepted_rounds_law
