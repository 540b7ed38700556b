use Rattle.std.proofs.Common.{sym, ◌∙◌, length}
use Rattle.std.proofs.lemmas.Option.{same_Some}
use Rattle.scan.specs.Reading.{ended}
use Rattle.scan.proofs.Toolbox.{ended_takes, ended_again}
use Rattle.certificate.specs.Reading.{certificate_at}
use Rattle.certificate.proofs.CertificateLaws.{certificate_reads, refused_for_memory}
use Rattle.certificate.proofs.reading.read.Goals as goal

pub returns-in-Ok-clause-found : goal.returns-in-Ok-clause-found
returns-in-Ok-clause-found c = ended_takes certificate_reads c.args.text.now c.in-Ok.certificate c.in-Ok.ensures

pub returns-in-Ok-clause-only : goal.returns-in-Ok-clause-only
returns-in-Ok-clause-only c = λ d s. same_Some c.in-Ok.certificate d (sym c.in-Ok.ensures ∙ ended_again certificate_reads c.args.text.now d s)

pub returns-in-Err-clause-only : goal.returns-in-Err-clause-only
returns-in-Err-clause-only c =
    λ d s. c.error.ensures ∙ refused_for_memory (length c.args.text.now) c.in-Err.fault d (ended (certificate_at c.args.text.now)) c.in-Err.ensures (ended_again certificate_reads c.args.text.now d s)
