use Rattle.std.proofs.Common.{◌<◌, ◌∙◌, ℕ, [], List, Bool, Option, length, subst, arith}
use Rattle.std.specs.List.{flat_map}
use Rattle.std.specs.Io.KnownBytes.{Appends}
use Rattle.std.proofs.lemmas.List.{take_all}
use Rattle.base.specs.Devices.{PutsBeginning}
use Rattle.base.proofs.Putting.{begins_at, puts_err, puts_next}
use Rattle.wave_signals.specs.Columns.{rows_of}
use Rattle.trace.specs.Traces.{cell_text}
use Rattle.wave_signals.proofs.ColumnLaws.{row_fits, row_front, row_later, rows_long}
use Rattle.trace.proofs.WidthLaws.{cell_now}
use Rattle.trace.proofs.table.put_values.Goals as goal

pub split_at-requires : goal.split_at-requires
split_at-requires g c =
    row_fits (length c.args.bits.now) (length c.args.widths.now) c.loop-width.width-index c.args.values.now c.loop-width.rest.now (omega arith) c.requires.values c.loop-width.invariant.left

pub loop-width-preserved : goal.loop-width-preserved
loop-width-preserved g c = record {
  steady = c.in_ok-put_value.ensures.counts ∙ c.loop-width.invariant.steady;
  left = c.split_at.ensures.back ∙ row_later (length c.args.bits.now) c.loop-width.width-index c.args.values.now c.loop-width.rest.now c.loop-width.invariant.left;
  put = λ signals widths.
      let s = c.args.signal in
      let n = c.loop-width.width-index in
      let times = length c.args.widths.now in
      let rows = rows_of (length c.args.bits.now) times c.args.values.now in
      let n_in : n < times = omega arith in
      let n_row : n < length rows = omega (arith, n_in, rows_long (length c.args.bits.now) times c.args.values.now) in
      let between = g.W.Sink.contents c.loop-width.out in
      let after = g.W.Sink.contents c.put_value.new.out in
      let row = c.split_at.ensures.front ∙ row_front (length c.args.bits.now) times n c.args.values.now c.loop-width.rest.now n_in c.loop-width.invariant.left in
      let here = cell_now signals rows n c.args.widths.now s c.split_at.result.0.now n_row widths row in
      puts_next (cell_text signals s) rows n [] (g.W.Sink.contents c.args.out.now) between after n_row (c.loop-width.invariant.put signals widths) (subst (λ (t : List ℕ). Appends between after t) here c.in_ok-put_value.ensures.puts);
}

pub returns-in_err-put_value-clause-puts : goal.returns-in_err-put_value-clause-puts
returns-in_err-put_value-clause-puts g c = λ signals widths.
    let s = c.args.signal in
    let n = c.loop-width.width-index in
    let times = length c.args.widths.now in
    let rows = rows_of (length c.args.bits.now) times c.args.values.now in
    let n_in : n < times = omega arith in
    let n_row : n < length rows = omega (arith, n_in, rows_long (length c.args.bits.now) times c.args.values.now) in
    let before = g.W.Sink.contents c.args.out.now in
    let between = g.W.Sink.contents c.loop-width.out in
    let after = g.W.Sink.contents c.put_value.new.out in
    let row = c.split_at.ensures.front ∙ row_front (length c.args.bits.now) times n c.args.values.now c.loop-width.rest.now n_in c.loop-width.invariant.left in
    let here = cell_now signals rows n c.args.widths.now s c.split_at.result.0.now n_row widths row in
    puts_err c.from_residual.result before after (flat_map (cell_text signals s) rows) c.from_residual.ensures.0
    (begins_at (cell_text signals s) rows n [] before between after n_row (c.loop-width.invariant.put signals widths) (subst (λ (t : List ℕ). PutsBeginning between after t) here c.in_err-put_value.ensures.puts))

pub returns-clause-puts : goal.returns-clause-puts
returns-clause-puts g c = λ signals widths.
    let text = cell_text signals c.args.signal in
    let times = length c.args.widths.now in
    let rows = rows_of (length c.args.bits.now) times c.args.values.now in
    let long = rows_long (length c.args.bits.now) times c.args.values.now in
    subst (λ (w : List (List (Option Bool))). Appends (g.W.Sink.contents c.args.out.now) (g.W.Sink.contents c.loop-width.out) (flat_map text w)) (take_all c.loop-width.width-index rows (omega (arith, long))) (c.loop-width.invariant.put signals widths)
