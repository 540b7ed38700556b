use Rattle.checker3.proofs.Refused.{refused_not_accepted}
use Rattle.checker3.proofs.laws.refused_law.Goals as goal

pub returns : goal.returns
returns c = refused_not_accepted
