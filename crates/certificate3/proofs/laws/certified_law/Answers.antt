use Rattle.scan.proofs.Toolbox.{ended_again, ended_takes}
use Rattle.certificate3.proofs.FormatLaws.{certified_reads}
use Rattle.certificate3.proofs.laws.certified_law.Goals as goal

pub returns : goal.returns
returns c = λ text d. (ended_takes certified_reads text d, ended_again certified_reads text d)
