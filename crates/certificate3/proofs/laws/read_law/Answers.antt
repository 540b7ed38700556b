use Rattle.std.proofs.Common.{refl}
use Rattle.scan.proofs.Toolbox.{ended_again, ended_takes}
use Rattle.certificate3.specs.Texts.{certificate_text}
use Rattle.certificate3.proofs.CertificateLaws.{certificate_reads, one_certificate}
use Rattle.certificate3.proofs.laws.read_law.Goals as goal

pub returns : goal.returns
returns c = record {
  read = λ text d. (ended_takes certificate_reads text d, ended_again certificate_reads text d);
  one = one_certificate;
  written = λ d within. ended_again certificate_reads (certificate_text d) d (record { spells = refl; claim = within.0; within = within.1 });
}
