use Rattle.std.proofs.Common.{rules, ◌++◌, ◌∷◌, [], Ok, subst}
use Rattle.scan.specs.Lists.{items_at}
use Rattle.certificate.specs.Reading.{item_at, line_where}
use Rattle.certificate.specs.Streams.{Finds}
use Rattle.certificate.proofs.StreamLaws.{err_finds, items_go, items_end, items_refused}
use Rattle.certificate.proofs.streaming.skip_lines.Goals as goal

pub returns-in_err-there-clause-says : goal.returns-in_err-there-clause-says
returns-in_err-there-clause-says g c text later left =
    let (zs, between, refused) = c.in_err-there.ensures.says text later left in
    let (ys, before, (front, still)) = c.skipping.invariant.reads text zs between in
    let read = items_at item_at (c.args.reader.now.held ++ ys) in (
      ys,
      before,
      err_finds (λ lines x. Unit {0}) read c.from_residual.result c.in_err-there.field-0.0 c.line_into.new.self.held later c.from_residual.ensures.1
          (items_refused read front c.in_err-there.field-0.0 c.skipping.reader.held zs still refused),
    )

pub returns-then-not-there-clause-says : goal.returns-then-not-there-clause-says
returns-then-not-there-clause-says g c text later left =
    let (zs, between, item) = c.in_ok-there.ensures.says text later left in
    let (ys, before, (front, still)) = c.skipping.invariant.reads text zs between in
    let read = items_at item_at (c.args.reader.now.held ++ ys) in (
      ys,
      before,
      (
        front,
        items_end read front c.skipping.reader.held c.line_into.new.self.held zs later still
            (subst (λ b. Finds (item_at (c.skipping.reader.held ++ zs)) (Ok (line_where b c.line_into.new.line)) c.line_into.new.self.held later) c.if-not-there.true item),
        tt,
      ),
    )

pub skipping-preserved : goal.skipping-preserved
skipping-preserved g c = record {
  steady = search rules;
  reads = λ text later left.
      let (zs, between, item) = c.in_ok-there.ensures.says text later left in
      let (ys, before, (front, still)) = c.skipping.invariant.reads text zs between in
      let read = items_at item_at (c.args.reader.now.held ++ ys) in (
        ys,
        before,
        (
          front ++ c.line_into.new.line ∷ [],
          items_go read front c.line_into.new.line c.skipping.reader.held c.line_into.new.self.held zs later still
              (subst (λ b. Finds (item_at (c.skipping.reader.held ++ zs)) (Ok (line_where b c.line_into.new.line)) c.line_into.new.self.held later) c.if-not-there.false item),
        ),
      );
}
