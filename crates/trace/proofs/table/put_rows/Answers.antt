use Rattle.std.proofs.Common.{length}
use Rattle.std.specs.List.{flat_map}
use Rattle.base.proofs.Putting.{begins_at, puts_err}
use Rattle.wave_signals.specs.Columns.{rows_of}
use Rattle.trace.specs.Traces.{row_text}
use Rattle.trace.proofs.table.put_rows.Goals as goal

pub returns-in_err-put_row-clause-puts : goal.returns-in_err-put_row-clause-puts
returns-in_err-put_row-clause-puts g c = λ widths.
    let bits = c.args.bits.now in
    let signals = c.args.signals.now in
    let rows = rows_of (length bits) (length c.args.widths.now) c.args.values.now in
    let before = g.W.Sink.contents c.args.out.now in
    let between = g.W.Sink.contents c.loop-signal.out in
    let after = g.W.Sink.contents c.put_row.new.out in
    puts_err c.from_residual.result before after (flat_map (row_text bits signals rows) signals) c.from_residual.ensures.0
    (begins_at (row_text bits signals rows) signals c.loop-signal.signal-index (record { first = 0; end = 0 }) before between after c.loop-signal-test.true (c.loop-signal.invariant.put widths)
    (c.in_err-put_row.ensures.puts signals c.names_width-names.ensures widths))
