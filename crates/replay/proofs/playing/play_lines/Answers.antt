use Rattle.std.proofs.Common.{rules, ◌≡◌, ◌≢◌, ◌++◌, ◌∷◌, ◌∙◌, [], Some, length, refl, sym, subst}
use Rattle.graph.proofs.Alone.{watched_there}
use Rattle.scan.specs.Lists.{items_at}
use Rattle.simulate.specs.Replays.{Steps}
use Rattle.stimulus.specs.Causes.{KeepsAt}
use Rattle.stimulus.specs.Reading.{line_at}
use Rattle.stimulus.proofs.CourseLaws.{moves_of}
use Rattle.replay.specs.Found.{AreFound, AreRefused}
use Rattle.replay.proofs.StreamLaws.{err_finds, items_begin, line_ends, line_goes, line_refused, others_found}
use Rattle.replay.proofs.Trials.{line_breaks, line_fits, line_wrong, none_played, played_on}
use Rattle.replay.proofs.playing.play_lines.Goals as goal

pub playing-init : goal.playing-init
playing-init g c = record {
  steady = refl;
  circuit = refl;
  stepped = λ some. absurd cc;
  reads = λ text later left. (later, left, λ initial begun. ([], none_played c.args.replay.now.circuit initial c.args.replay.now begun, items_begin line_at c.args.reader.now later));
}

pub returns-in_err-there-clause-says : goal.returns-in_err-there-clause-says
returns-in_err-there-clause-says g c text later left =
    let (zs, between, refused) = c.in_err-there.ensures.says text later left in
    let (ys, before, so_far) = c.playing.invariant.reads text zs between in
    let read = items_at line_at (c.args.reader.now ++ ys) in (
      ys,
      before,
      λ p initial watched begun starts long.
          let (front, played, still) = so_far initial begun in
          err_finds (AreFound c.args.replay.now.circuit p initial) read c.from_residual.result c.in_err-there.field-0.0 c.line_into.new.self later c.from_residual.ensures.1
          (line_refused read front c.in_err-there.field-0.0 c.playing.reader zs still refused),
    )

pub returns-then-not-there-clause-says : goal.returns-then-not-there-clause-says
returns-then-not-there-clause-says g c text later left =
    let (zs, between, end) = c.in_ok-there.ensures.says text later left in
    let (ys, before, so_far) = c.playing.invariant.reads text zs between in
    let read = items_at line_at (c.args.reader.now ++ ys) in (
      ys,
      before,
      λ p initial watched begun starts long.
          let (front, played, still) = so_far initial begun in (
            front,
            line_ends read front c.line_into.new.line.items c.in_ok-there.there c.playing.reader c.line_into.new.self zs later c.if-not-there.true still end,
            c.found_at_end.ensures c.args.replay.now.circuit p initial front watched starts long played,
          ),
    )

pub returns-then-len-watched-clause-says : goal.returns-then-len-watched-clause-says
returns-then-len-watched-clause-says g c text later left =
    let (us, behind, others) = c.skip_lines.ensures.says text later left in
    let (zs, between, next) = c.in_ok-there.ensures.says text us behind in
    let (ys, before, so_far) = c.playing.invariant.reads text zs between in
    let m = c.args.replay.now.circuit in
    let line = c.line_into.new.line.items in
    let read = items_at line_at (c.args.reader.now ++ ys) in
    let same : c.line_into.new.line.len ≡ length line = search rules in
    let wrong : length line ≢ c.args.watched.long = λ e. c.if-len-watched.true (c.len.ensures ∙ same ∙ e) in (
      ys,
      before,
      λ p initial watched begun starts long.
          let (front, played, still) = so_far initial begun in
          let further = line_goes read front line c.in_ok-there.there c.playing.reader c.line_into.new.self zs us c.if-not-there.false still next in
          others_found (λ lines found. found ≡ Some 66) (AreFound m p initial) read (front ++ line ∷ []) (items_at line_at) c.line_into.new.self c.skip_lines.new.reader us later c.skip_lines.result further others
          (λ more x found. line_wrong m p initial line c.playing.some front more c.playing.replay c.args.watched.long x c.requires.long (watched_there m p c.args.watched.bad watched) long played wrong found),
    )

pub returns-then-not-keeps-clause-says : goal.returns-then-not-keeps-clause-says
returns-then-not-keeps-clause-says g c text later left =
    let (us, behind, others) = c.refuse_lines.ensures.says text later left in
    let (zs, between, next) = c.in_ok-there.ensures.says text us behind in
    let (ys, before, so_far) = c.playing.invariant.reads text zs between in
    let m = c.args.replay.now.circuit in
    let line = c.line_into.new.line.items in
    let read = items_at line_at (c.args.reader.now ++ ys) in
    let same : c.line_into.new.line.len ≡ length line = search rules in
    let one : length line ≡ c.args.watched.long = sym same ∙ sym c.len.ensures ∙ c.if-len-watched.false in
    let steps : Steps c.playing.replay c.step.new.self line = subst (λ l. Steps c.playing.replay c.step.new.self l) c.as_slice.ensures.value c.step.ensures in
    let s = moves_of m c.playing.replay c.step.new.self line c.playing.invariant.circuit steps in
    let breaks : KeepsAt m steps.now → ⊥ = λ kept. let on = (c.keeps.ensures steps.now s.is_now).1 (rw c.requires.constraints kept) in absurd cc in (
      ys,
      before,
      λ p initial watched begun starts long.
          let (front, played, still) = so_far initial begun in
          let further = line_goes read front line c.in_ok-there.there c.playing.reader c.line_into.new.self zs us c.if-not-there.false still next in
          others_found (λ more found. AreRefused 61 c.args.watched.long ((front ++ line ∷ []) ++ more) found) (AreFound m p initial) read (front ++ line ∷ []) (items_at line_at) c.line_into.new.self c.refuse_lines.new.reader us later c.refuse_lines.result further
          (others (front ++ line ∷ []) (line_fits m initial line c.playing.some front c.playing.replay c.args.watched.long c.requires.long played one))
          (λ more x refused. line_breaks m p initial line c.playing.some front more c.playing.replay c.step.new.self steps.now c.args.watched.long x c.requires.long (watched_there m p c.args.watched.bad watched) long starts played s breaks refused),
    )

pub playing-preserved : goal.playing-preserved
playing-preserved g c =
    let m = c.args.replay.now.circuit in
    let line = c.line_into.new.line.items in
    let steps : Steps c.playing.replay c.step.new.self line = subst (λ l. Steps c.playing.replay c.step.new.self l) c.as_slice.ensures.value c.step.ensures in
    let s = moves_of m c.playing.replay c.step.new.self line c.playing.invariant.circuit steps in
    let same : c.line_into.new.line.len ≡ length line = search rules in
    let one : length line ≡ c.args.watched.long = sym same ∙ sym c.len.ensures ∙ c.if-len-watched.false in
    let kept : KeepsAt m steps.now = let k = (c.keeps.ensures steps.now s.is_now).0 cc in rw c.requires.constraints at k in
    record {
      steady = search rules;
      circuit = s.circuit;
      stepped = λ some. rw s.is_now refl;
      reads = λ text later left.
          let (zs, between, next) = c.in_ok-there.ensures.says text later left in
          let (ys, before, so_far) = c.playing.invariant.reads text zs between in
          let read = items_at line_at (c.args.reader.now ++ ys) in (
            ys,
            before,
            λ initial begun.
                let (front, played, still) = so_far initial begun in (
                  front ++ line ∷ [],
                  played_on m initial line c.playing.some front c.playing.replay c.step.new.self steps.now c.args.watched.long c.requires.long played one s kept,
                  line_goes read front line c.in_ok-there.there c.playing.reader c.line_into.new.self zs later c.if-not-there.false still next,
                ),
          );
    }
