use Rattle.std.proofs.Common.{rules, ◌++◌, ◌∷◌, []}
use Rattle.scan.specs.Lists.{many_at}
use Rattle.certificate.proofs.StreamLaws.{err_finds, many_goes, many_read, many_refused}
use Rattle.certificate3.specs.Reading.{hints_at}
use Rattle.certificate3.proofs.PieceLaws.{hints_of_piece}
use Rattle.certificate3.proofs.streaming.skip_hints.Goals as goal

pub line_in-requires-clause-line : goal.line_in-requires-clause-line
line_in-requires-clause-line g c = hints_of_piece

pub returns-in_err-line_in-clause-says : goal.returns-in_err-line_in-clause-says
returns-in_err-line_in-clause-says g c text later left =
    let (zs, between, refused) = c.in_err-line_in.ensures.says text later left in
    let (ys, before, (front, still)) = c.loop.invariant.reads text zs between in
    let read = many_at hints_at c.args.count (c.args.reader.now.held ++ ys) in (
      ys,
      before,
      err_finds (λ hints x. Unit {0}) read c.from_residual.result c.in_err-line_in.field-0.0 c.line_in.new.self.held later c.from_residual.ensures.1
          (many_refused hints_at read front c.args.count c.loop.counter c.in_err-line_in.field-0.0 c.loop.reader.held zs c.loop-test.true still refused),
    )

pub loop-preserved : goal.loop-preserved
loop-preserved g c = record {
  steady = search rules;
  reads = λ text later left.
      let (zs, between, one) = c.in_ok-line_in.ensures.says text later left in
      let (ys, before, (front, still)) = c.loop.invariant.reads text zs between in
      let read = many_at hints_at c.args.count (c.args.reader.now.held ++ ys) in (
        ys,
        before,
        (front ++ c.line_in.new.buffer.items ∷ [], many_goes hints_at read front c.args.count c.loop.counter c.line_in.new.buffer.items c.loop.reader.held c.line_in.new.self.held zs later c.loop-test.true still one),
      );
}

pub returns-clause-says : goal.returns-clause-says
returns-clause-says g c text later left =
    let (ys, before, (front, still)) = c.loop.invariant.reads text later left in
    let read = many_at hints_at c.args.count (c.args.reader.now.held ++ ys) in
    (ys, before, (front, many_read hints_at read front c.args.count c.loop.counter c.loop.reader.held later c.loop-test.false still, tt))
