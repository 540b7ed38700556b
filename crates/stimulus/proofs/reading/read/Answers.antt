use Rattle.std.proofs.Common.{sym, ◌∙◌, length}
use Rattle.std.proofs.lemmas.Option.{same_Some}
use Rattle.scan.specs.Reading.{ended}
use Rattle.scan.proofs.Toolbox.{ended_takes, ended_again}
use Rattle.stimulus.specs.Reading.{stimulus_at}
use Rattle.stimulus.proofs.TextLaws.{stimulus_reads}
use Rattle.stimulus.proofs.ReadLaws.{refused_for_memory}
use Rattle.stimulus.proofs.reading.read.Goals as goal

pub returns-in-Ok-clause-found : goal.returns-in-Ok-clause-found
returns-in-Ok-clause-found c = ended_takes stimulus_reads c.args.text.now c.in-Ok.stimulus c.in-Ok.ensures

pub returns-in-Ok-clause-only : goal.returns-in-Ok-clause-only
returns-in-Ok-clause-only c = λ s r. same_Some c.in-Ok.stimulus s (sym c.in-Ok.ensures ∙ ended_again stimulus_reads c.args.text.now s r)

pub returns-in-Err-clause-only : goal.returns-in-Err-clause-only
returns-in-Err-clause-only c =
    λ s r. c.text_error.ensures ∙ refused_for_memory (length c.args.text.now) c.in-Err.fault s (ended (stimulus_at c.args.text.now)) c.in-Err.ensures (ended_again stimulus_reads c.args.text.now s r)
