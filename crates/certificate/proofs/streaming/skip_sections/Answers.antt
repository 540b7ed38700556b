use Rattle.std.proofs.Common.{rules, ◌++◌, ◌∷◌, []}
use Rattle.scan.specs.Lists.{many_at}
use Rattle.certificate.specs.Reading.{section_at}
use Rattle.certificate.specs.Streams.{letter_of}
use Rattle.certificate.proofs.StreamLaws.{err_finds, many_goes_with, many_read, many_refused}
use Rattle.certificate.proofs.streaming.skip_sections.Goals as goal

pub returns-in_err-skip_section-clause-says : goal.returns-in_err-skip_section-clause-says
returns-in_err-skip_section-clause-says g c text later left =
    let (zs, between, refused) = c.in_err-skip_section.ensures.says text later left in
    let (ys, before, (front, still)) = c.loop.invariant.reads text zs between in
    let one = section_at (letter_of c.args.kind) in
    let read = many_at one c.args.count (c.args.reader.now.held ++ ys) in (
      ys,
      before,
      err_finds (λ sections x. Unit {0}) read c.from_residual.result c.in_err-skip_section.field-0.0 c.skip_section.new.reader.held later c.from_residual.ensures.1
          (many_refused one read front c.args.count c.loop.counter c.in_err-skip_section.field-0.0 c.loop.reader.held zs c.loop-test.true still refused),
    )

pub loop-preserved : goal.loop-preserved
loop-preserved g c = record {
  steady = search rules;
  reads = λ text later left.
      let (zs, between, section) = c.in_ok-skip_section.ensures.says text later left in
      let (ys, before, (front, still)) = c.loop.invariant.reads text zs between in
      let one = section_at (letter_of c.args.kind) in
      let read = many_at one c.args.count (c.args.reader.now.held ++ ys) in
      let (lines, any, goes) = many_goes_with (λ ls x. Unit {0}) one read front c.args.count c.loop.counter (tt {0}) c.loop.reader.held c.skip_section.new.reader.held zs later c.loop-test.true still section in
      (ys, before, (front ++ lines ∷ [], goes));
}

pub returns-clause-says : goal.returns-clause-says
returns-clause-says g c text later left =
    let (ys, before, (front, still)) = c.loop.invariant.reads text later left in
    let one = section_at (letter_of c.args.kind) in
    let read = many_at one c.args.count (c.args.reader.now.held ++ ys) in
    (ys, before, (front, many_read one read front c.args.count c.loop.counter c.loop.reader.held later c.loop-test.false still, tt))
