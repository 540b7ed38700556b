use Rattle.std.proofs.Common.{rules, Bool, List, ◌≡◌, ◌++◌, ◌∷◌, [], refl, sym, subst, ap, ◌∙◌, Some}
use Rattle.scan.specs.Lists.{items_at}
use Rattle.stimulus.specs.Reading.{line_at}
use Rattle.replay.proofs.StreamLaws.{err_read, items_begin, line_ends, line_goes, line_refused}
use Rattle.replay.specs.Streams.{StillReads}
use Rattle.replay.proofs.lines.read_lines.Goals as goal

pub reading-init : goal.reading-init
reading-init g c = record {
  steady = refl;
  reads = λ text later left. (
    later,
    left,
    subst (λ (ls : List (List Bool)). StillReads (items_at line_at (c.args.reader.now ++ later)) ls (items_at line_at) c.args.reader.now later) (sym c.new-lines.ensures.items)
        (items_begin line_at c.args.reader.now later),
  );
}

pub returns-in_err-there-clause-says : goal.returns-in_err-there-clause-says
returns-in_err-there-clause-says g c text later left =
    let (zs, between, refused) = c.in_err-there.ensures.says text later left in
    let (ys, before, still) = c.reading.invariant.reads text zs between in
    let read = items_at line_at (c.args.reader.now ++ ys) in (
      ys,
      before,
      err_read read c.from_residual.result c.in_err-there.field-0.0 c.line_into.new.self later c.from_residual.ensures.1
          (line_refused read c.reading.lines.items c.in_err-there.field-0.0 c.reading.reader zs still refused),
    )

pub returns-then-not-there-clause-says : goal.returns-then-not-there-clause-says
returns-then-not-there-clause-says g c text later left =
    let (zs, between, end) = c.in_ok-there.ensures.says text later left in
    let (ys, before, still) = c.reading.invariant.reads text zs between in
    let read = items_at line_at (c.args.reader.now ++ ys) in (
      ys,
      before,
      line_ends read c.reading.lines.items c.line_into.new.line.items c.in_ok-there.there c.reading.reader c.line_into.new.self zs later c.if-not-there.true still end ∙ ap (λ (ls : List (List Bool)). Some (ls, c.line_into.new.self ++ later)) (sym c.from_vec.ensures),
    )

pub reading-preserved : goal.reading-preserved
reading-preserved g c = record {
  steady = search rules;
  reads = λ text later left.
      let (zs, between, next) = c.in_ok-there.ensures.says text later left in
      let (ys, before, still) = c.reading.invariant.reads text zs between in
      let read = items_at line_at (c.args.reader.now ++ ys) in
      let line = c.line_into.new.line.items in
      let same : c.from_vec-in-reading.result ≡ line = c.from_vec-in-reading.ensures ∙ c.in_ok-copied.ensures ∙ c.as_slice.ensures.value in
      let pushed : c.push.new.to.items ≡ c.reading.lines.items ++ line ∷ [] = c.in_ok-push.ensures.items ∙ ap (λ (x : List Bool). c.reading.lines.items ++ x ∷ []) same in (
        ys,
        before,
        subst (λ (ls : List (List Bool)). StillReads read ls (items_at line_at) c.line_into.new.self later) (sym pushed)
            (line_goes read c.reading.lines.items line c.in_ok-there.there c.reading.reader c.line_into.new.self zs later c.if-not-there.false still next),
      );
}
