use Rattle.std.proofs.Common.{◌++◌}
use Rattle.certificate.specs.Reading.{section_at}
use Rattle.certificate.specs.Streams.{letter_of}
use Rattle.certificate.proofs.StreamLaws.{err_finds, section_finds, section_refused}
use Rattle.checker3.specs.Judged.{AreFed}
use Rattle.checker3.proofs.lines.feed_section.Goals as goal

pub returns-in_err-section-clause-says : goal.returns-in_err-section-clause-says
returns-in_err-section-clause-says g c text later left =
    let (ys, before, refused) = c.in_err-section.ensures.says text later left in (
      ys,
      before,
      err_finds (AreFed c.args.refuter.now.base.vars c.args.refuter.now.stage c.args.refuter.now.stage) (section_at (letter_of c.args.kind) (c.args.reader.now.held ++ ys)) c.from_residual.result c.in_err-section.field-0.0 c.section.new.self.held later c.from_residual.ensures.1
          (section_refused c.args.kind c.in_err-section.field-0.0 (c.args.reader.now.held ++ ys) refused),
    )

pub returns-clause-says : goal.returns-clause-says
returns-clause-says g c text later left =
    let (zs, between, lines) = c.feed_lines.ensures.says text later left in
    let (ys, before, letter) = c.in_ok-section.ensures.says text zs between in (
      ys,
      before,
      section_finds (AreFed c.args.refuter.now.base.vars c.args.refuter.now.stage c.feed_lines.new.refuter.stage) c.args.kind (c.args.reader.now.held ++ ys) c.section.new.self.held c.feed_lines.new.reader.held zs later c.feed_lines.result letter lines,
    )
