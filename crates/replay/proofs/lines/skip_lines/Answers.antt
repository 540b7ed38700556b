use Rattle.std.proofs.Common.{rules, ◌≡◌, ◌++◌, ◌∷◌, [], refl, Some}
use Rattle.scan.specs.Lists.{items_at}
use Rattle.stimulus.specs.Reading.{line_at}
use Rattle.replay.proofs.StreamLaws.{err_finds, items_begin, line_ends, line_goes, line_refused}
use Rattle.replay.proofs.lines.skip_lines.Goals as goal

pub skipping-init : goal.skipping-init
skipping-init g c = record { steady = refl; reads = λ text later left. (later, left, ([], items_begin line_at c.args.reader.now later)) }

pub returns-in_err-there-clause-says : goal.returns-in_err-there-clause-says
returns-in_err-there-clause-says g c text later left =
    let (zs, between, refused) = c.in_err-there.ensures.says text later left in
    let (ys, before, so_far) = c.skipping.invariant.reads text zs between in
    let (front, still) = so_far in
    let read = items_at line_at (c.args.reader.now ++ ys) in (
      ys,
      before,
      err_finds (λ lines found. found ≡ Some c.args.number) read c.from_residual.result c.in_err-there.field-0.0 c.line_into.new.self later c.from_residual.ensures.1
          (line_refused read front c.in_err-there.field-0.0 c.skipping.reader zs still refused),
    )

pub returns-then-not-there-clause-says : goal.returns-then-not-there-clause-says
returns-then-not-there-clause-says g c text later left =
    let (zs, between, end) = c.in_ok-there.ensures.says text later left in
    let (ys, before, so_far) = c.skipping.invariant.reads text zs between in
    let (front, still) = so_far in
    let read = items_at line_at (c.args.reader.now ++ ys) in
    (ys, before, (front, line_ends read front c.line_into.new.line.items c.in_ok-there.there c.skipping.reader c.line_into.new.self zs later c.if-not-there.true still end, refl))

pub skipping-preserved : goal.skipping-preserved
skipping-preserved g c = record {
  steady = search rules;
  reads = λ text later left.
      let (zs, between, next) = c.in_ok-there.ensures.says text later left in
      let (ys, before, so_far) = c.skipping.invariant.reads text zs between in
      let (front, still) = so_far in
      let read = items_at line_at (c.args.reader.now ++ ys) in
      let line = c.line_into.new.line.items in
      (ys, before, (front ++ line ∷ [], line_goes read front line c.in_ok-there.there c.skipping.reader c.line_into.new.self zs later c.if-not-there.false still next));
}
