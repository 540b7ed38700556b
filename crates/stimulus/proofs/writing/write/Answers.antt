use Rattle.std.proofs.Common.{refl}
use Rattle.stimulus.proofs.writing.write.Goals as goal

pub returns-in_err-put_stimulus-clause-spelled : goal.returns-in_err-put_stimulus-clause-spelled
returns-in_err-put_stimulus-clause-spelled g c = record { spells = refl; within = c.put_stimulus.ensures.within }

pub returns-clause-spelled : goal.returns-clause-spelled
returns-clause-spelled g c = record { spells = refl; within = c.put_stimulus.ensures.within }
