use Rattle.std.proofs.Common.{◌≡◌, ◌<◌, ◌∙◌, ◌++◌, ℕ, length, arith, ap}
use Rattle.wave_texts.specs.Changes.{stamp_text}
use Rattle.wave_signals.specs.Columns.{rows_of}
use Rattle.wave_texts.proofs.ChangeLaws.{times_all, times_more}
use Rattle.wave_signals.proofs.ColumnLaws.{row_fits, row_front, row_later, row_long, rows_long}
use Rattle.wave_texts.proofs.changes.push_times.Goals as goal

pub split_at-requires : goal.split_at-requires
split_at-requires c =
    row_fits (length c.args.bits.now) c.args.times c.loop-time.time c.args.values.now c.loop-time.rest.now (omega arith) c.requires.values c.loop-time.invariant.left

pub push_changes-requires-clause-now : goal.push_changes-requires-clause-now
push_changes-requires-clause-now c =
    row_long (length c.args.bits.now) c.args.times c.loop-time.time c.args.values.now c.loop-time.rest.now c.split_at.result.0.now (omega arith) c.requires.values c.loop-time.invariant.left c.split_at.ensures.front

pub loop-time-preserved : goal.loop-time-preserved
loop-time-preserved c =
    let bits = c.args.bits.now in
    let values = c.args.values.now in
    let times = c.args.times in
    let n = c.loop-time.time in
    let rest = c.loop-time.rest.now in
    let rows = rows_of (length bits) times values in
    let n_in : n < times = omega arith in
    let n_row : n < length rows = omega (arith, n_in, rows_long (length bits) times values) in
    let row = c.split_at.ensures.front ∙ row_front (length bits) times n values rest n_in c.loop-time.invariant.left in
    record {
      fits = λ some. row_long (length bits) times n values rest c.split_at.result.0.now n_in c.requires.values c.loop-time.invariant.left c.split_at.ensures.front;
      left = c.split_at.ensures.back ∙ row_later (length bits) n values rest c.loop-time.invariant.left;
      put = times_more bits c.args.signals.now rows n c.loop-time.before.now c.split_at.result.0.now c.loop-time.text.items c.push_stamp.new.text.items c.push_changes.new.text.items _ n_row row
          c.in_ok-push_stamp.ensures c.in_ok-push_changes.ensures c.loop-time.invariant.put;
    }

pub returns : goal.returns
returns c =
    let rows = rows_of (length c.args.bits.now) c.args.times c.args.values.now in
    let ended : c.args.times ≡ c.loop-time.time = omega arith in
    times_all c.args.bits.now c.args.signals.now rows c.loop-time.time c.loop-time.before.now c.loop-time.text.items c.push_stamp-2.new.text.items _ (omega (arith, rows_long (length c.args.bits.now) c.args.times c.args.values.now))
    (c.in_ok-push_stamp-2.ensures ∙ ap (λ (n : ℕ). c.loop-time.text.items ++ stamp_text n) ended) c.loop-time.invariant.put
