use Rattle.std.proofs.Common.{◌++◌}
use Rattle.certificate.specs.Reading.{section_at}
use Rattle.certificate.specs.declared.kinds.SectionKind.TheVariants.{Lemmas}
use Rattle.certificate.proofs.StreamLaws.{err_finds, section_finds, section_refused}
use Rattle.checker2.specs.Streamed.{AreLemmas}
use Rattle.checker2.proofs.section_text.take_lemmas.Goals as goal

pub returns-in_err-section-clause-says : goal.returns-in_err-section-clause-says
returns-in_err-section-clause-says g c text later left =
    let (ys, before, refused) = c.in_err-section.ensures.says text later left in (
      ys,
      before,
      err_finds (AreLemmas c.args.refuter.now.base.vars c.args.refuter.now.stage c.args.refuter.now.base) (section_at 108 (c.args.reader.now.held ++ ys)) c.from_residual.result c.in_err-section.field-0.0 c.section.new.self.held later c.from_residual.ensures.1
          (section_refused Lemmas c.in_err-section.field-0.0 (c.args.reader.now.held ++ ys) refused),
    )

pub returns-clause-says : goal.returns-clause-says
returns-clause-says g c text later left =
    let (zs, between, lines) = c.share_lines.ensures.says text later left in
    let (ys, before, letter) = c.in_ok-section.ensures.says text zs between in
    (ys, before, section_finds (AreLemmas c.args.refuter.now.base.vars c.args.refuter.now.stage c.share_lines.new.refuter.base) Lemmas (c.args.reader.now.held ++ ys) c.section.new.self.held c.share_lines.new.reader.held zs later c.share_lines.result letter lines)
