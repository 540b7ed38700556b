use Rattle.std.proofs.Common.{rules, Bool, List, ◌++◌, ◌∷◌, [], refl, sym, subst, ap, append_assoc, Some}
use Rattle.std.proofs.lemmas.List.{append-nil}
use Rattle.scan.specs.Lists.{items_at}
use Rattle.stimulus.specs.Reading.{line_at}
use Rattle.replay.specs.Found.{AreOfLengths, AreRefused}
use Rattle.replay.proofs.StreamLaws.{err_finds, items_begin, line_ends, line_goes, line_refused}
use Rattle.replay.proofs.lines.refuse_lines.Goals as goal

pub measuring-init : goal.measuring-init
measuring-init g c = record {
  steady = refl;
  reads = λ text later left.
      (later, left, λ front are. ([], subst (λ (ls : List (List Bool)). AreOfLengths c.args.long ls c.args.before) (sym (append-nil front)) are, items_begin line_at c.args.reader.now later));
}

pub returns-in_err-there-clause-says : goal.returns-in_err-there-clause-says
returns-in_err-there-clause-says g c text later left =
    let (zs, between, refused) = c.in_err-there.ensures.says text later left in
    let (ys, before, so_far) = c.measuring.invariant.reads text zs between in
    let read = items_at line_at (c.args.reader.now ++ ys) in (
      ys,
      before,
      λ front are.
          let (more, all, still) = so_far front are in
          err_finds (λ more found. AreRefused c.args.number c.args.long (front ++ more) found) read c.from_residual.result c.in_err-there.field-0.0 c.line_into.new.self later c.from_residual.ensures.1
          (line_refused read more c.in_err-there.field-0.0 c.measuring.reader zs still refused),
    )

pub returns-then-not-there-clause-says : goal.returns-then-not-there-clause-says
returns-then-not-there-clause-says g c text later left =
    let (zs, between, end) = c.in_ok-there.ensures.says text later left in
    let (ys, before, so_far) = c.measuring.invariant.reads text zs between in
    let read = items_at line_at (c.args.reader.now ++ ys) in (
      ys,
      before,
      λ front are.
          let (more, all, still) = so_far front are in
          (more, line_ends read more c.line_into.new.line.items c.in_ok-there.there c.measuring.reader c.line_into.new.self zs later c.if-not-there.true still end, (c.measuring.lengths, all, ap (λ n. Some n) c.cause.ensures)),
    )

pub measuring-preserved : goal.measuring-preserved
measuring-preserved g c = record {
  steady = search rules;
  reads = λ text later left.
      let (zs, between, next) = c.in_ok-there.ensures.says text later left in
      let (ys, before, so_far) = c.measuring.invariant.reads text zs between in
      let read = items_at line_at (c.args.reader.now ++ ys) in
      let line = c.line_into.new.line.items in (
        ys,
        before,
        λ front are.
            let (more, all, still) = so_far front are in (
              more ++ line ∷ [],
              subst (λ (ls : List (List Bool)). AreOfLengths c.args.long ls c.with-lengths.result) (append_assoc front more (line ∷ [])) (c.with-lengths.ensures c.args.long (front ++ more) line (search rules) all),
              line_goes read more line c.in_ok-there.there c.measuring.reader c.line_into.new.self zs later c.if-not-there.false still next,
            ),
      );
}
