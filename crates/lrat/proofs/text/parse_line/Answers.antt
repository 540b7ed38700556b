use Rattle.std.proofs.Common.{sym, ◌∙◌, length}
use Rattle.std.proofs.lemmas.Option.{same_Some}
use Rattle.scan.specs.Reading.{ended}
use Rattle.scan.proofs.Toolbox.{ended_takes, ended_again}
use Rattle.lrat.specs.Reading.{line_at}
use Rattle.lrat.proofs.TextLaws.{line_reads}
use Rattle.lrat.proofs.ProofLaws.{refused_for_memory}
use Rattle.lrat.proofs.text.parse_line.Goals as goal

pub returns-in-Ok-clause-found : goal.returns-in-Ok-clause-found
returns-in-Ok-clause-found c = ended_takes line_reads c.args.text.now c.in-Ok.line c.in-Ok.ensures

pub returns-in-Ok-clause-only : goal.returns-in-Ok-clause-only
returns-in-Ok-clause-only c = λ line s. same_Some c.in-Ok.line line (sym c.in-Ok.ensures ∙ ended_again line_reads c.args.text.now line s)

pub returns-in-Err-clause-only : goal.returns-in-Err-clause-only
returns-in-Err-clause-only c =
    λ line s. c.error.ensures ∙ refused_for_memory (length c.args.text.now) c.in-Err.fault line (ended (line_at c.args.text.now)) c.in-Err.ensures (ended_again line_reads c.args.text.now line s)
