use Rattle.std.proofs.Common.{inr}
use Rattle.verdict.proofs.deciding.decide.Goals as goal

pub returns-clause-asked : goal.returns-clause-asked
returns-clause-asked g c = inr (record { circuit = _; asked = c.in_ok-asked.ensures.asked; order = c.verdict_of_each.ensures.asked })
