use Rattle.base.specs.Witness.{witness}
use Rattle.scan.specs.Lists.{items_at}
use Rattle.lrat.specs.declared.fault.Fault.TheVariants.{OutOfMemory}
use Rattle.std.proofs.Common.{◌≡◌, ◌≢◌, ◌++◌, Some}
use Rattle.certificate.specs.Reading.{item_at, section_at}
use Rattle.certificate.specs.Streams.{letter_of}
use Rattle.certificate.proofs.StreamLaws.{err_finds, section_finds, section_refused}
use Rattle.checker2.specs.Accepted.{Case}
use Rattle.checker2.specs.Streamed.{IsFed, IsOfCase}
use Rattle.checker2.proofs.Streaming.{fed_behind, of_begun}
use Rattle.checker2.proofs.TextParts.{finds_more}
use Rattle.checker2.proofs.section_text.check_section.Goals as goal

pub returns-in_err-section-clause-says : goal.returns-in_err-section-clause-says
returns-in_err-section-clause-says g c text later left =
    let case : Case = record { base = c.args.refuter.now.base; units = c.args.units.now } in
    let (ys, before, refused) = c.in_err-section.ensures.says text later left in (
      ys,
      before,
      err_finds (IsOfCase case) (section_at (letter_of c.args.kind) (c.args.reader.now.held ++ ys)) c.from_residual.result c.in_err-section.field-0.0 c.section.new.self.held later c.from_residual.ensures.1
          (section_refused c.args.kind c.in_err-section.field-0.0 (c.args.reader.now.held ++ ys) refused),
    )

pub returns-in-Err-clause-says : goal.returns-in-Err-clause-says
returns-in-Err-clause-says g c text later left =
    let case : Case = record { base = c.args.refuter.now.base; units = c.args.units.now } in
    let fault = c.in-Err.fault in
    let (zs, between, skipped) = c.skip_refused.ensures.says text later left in
    let (ys, before, letter) = c.in_ok-section.ensures.says text zs between in (
      ys,
      before,
      section_finds (IsOfCase case) c.args.kind (c.args.reader.now.held ++ ys) c.section.new.self.held c.skip_refused.new.reader.held zs later c.skip_refused.result letter
          (finds_more (λ lines found. (found ≡ Some fault) × (fault ≢ OutOfMemory witness)) (IsOfCase case) (items_at item_at (c.section.new.self.held ++ zs)) c.skip_refused.result c.skip_refused.new.reader.held later
          (of_begun case fault (c.in-Err.ensures.memory c.requires.fresh)) skipped),
    )

pub returns-clause-says : goal.returns-clause-says
returns-clause-says g c text later left =
    let case : Case = record { base = c.args.refuter.now.base; units = c.args.units.now } in
    let (zs, between, fed) = c.feed_lines.ensures.says text later left in
    let (ys, before, letter) = c.in_ok-section.ensures.says text zs between in (
      ys,
      before,
      section_finds (IsOfCase case) c.args.kind (c.args.reader.now.held ++ ys) c.section.new.self.held c.feed_lines.new.reader.held zs later c.feed_lines.result letter
          (finds_more (IsFed c.begin.new.self.base.vars c.begin.new.self.stage) (IsOfCase case) (items_at item_at (c.section.new.self.held ++ zs)) c.feed_lines.result c.feed_lines.new.reader.held later
          (fed_behind case c.in_default.ensures.few c.begin.new.self c.in_default.ensures.ok.1) fed),
    )
