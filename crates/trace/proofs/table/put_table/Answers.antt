use Rattle.std.proofs.Common.{length}
use Rattle.std.specs.List.{flat_map}
use Rattle.base.proofs.Putting.{puts_then}
use Rattle.stimulus.proofs.WriteLaws.{first_fails}
use Rattle.wave_signals.specs.Columns.{rows_of}
use Rattle.trace.specs.Traces.{loop_text, row_text}
use Rattle.trace.proofs.table.put_table.Goals as goal

pub returns-in_err-put_rows-clause-puts : goal.returns-in_err-put_rows-clause-puts
returns-in_err-put_rows-clause-puts g c = λ widths.
    let rows = rows_of (length c.args.bits.now) (length c.args.widths.now) c.args.values.now in
    first_fails c.from_residual.result _ _ (flat_map (row_text c.args.bits.now c.args.signals.now rows) c.args.signals.now) (loop_text c.args.start) c.from_residual.ensures.0 (c.in_err-put_rows.ensures.puts widths)

pub returns-clause-puts : goal.returns-clause-puts
returns-clause-puts g c = λ widths.
    let rows = rows_of (length c.args.bits.now) (length c.args.widths.now) c.args.values.now in
    puts_then c.put_loop.result _ (g.W.Sink.contents c.put_rows.new.out) _ (flat_map (row_text c.args.bits.now c.args.signals.now rows) c.args.signals.now) (loop_text c.args.start)
    (c.in_ok-put_rows.ensures.puts widths) c.put_loop.ensures.puts
