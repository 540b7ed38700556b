use Rattle.std.proofs.Common.{◌++◌}
use Rattle.certificate.specs.Reading.{section_at}
use Rattle.certificate.specs.Streams.{letter_of}
use Rattle.certificate.proofs.StreamLaws.{err_finds, section_finds, section_refused}
use Rattle.certificate.proofs.streaming.skip_section.Goals as goal

pub returns-in_err-section-clause-says : goal.returns-in_err-section-clause-says
returns-in_err-section-clause-says g c text later left =
    let (ys, before, refused) = c.in_err-section.ensures.says text later left in (
      ys,
      before,
      err_finds (λ lines x. Unit {0}) (section_at (letter_of c.args.kind) (c.args.reader.now.held ++ ys)) c.from_residual.result c.in_err-section.field-0.0 c.section.new.self.held later c.from_residual.ensures.1
          (section_refused c.args.kind c.in_err-section.field-0.0 (c.args.reader.now.held ++ ys) refused),
    )

pub returns-clause-says : goal.returns-clause-says
returns-clause-says g c text later left =
    let (zs, between, lines) = c.skip_lines.ensures.says text later left in
    let (ys, before, letter) = c.in_ok-section.ensures.says text zs between in
    (ys, before, section_finds (λ lines x. Unit {0}) c.args.kind (c.args.reader.now.held ++ ys) c.section.new.self.held c.skip_lines.new.reader.held zs later c.skip_lines.result letter lines)
