use Rattle.std.proofs.Common.{◌++◌, length}
use Rattle.std.specs.Prelude.{codes}
use Rattle.std.specs.List.{flat_map}
use Rattle.base.proofs.Putting.{puts_of, puts_then}
use Rattle.stimulus.proofs.WriteLaws.{first_fails}
use Rattle.wave_signals.specs.Columns.{rows_of}
use Rattle.wave_signals.specs.Signals.{bits_of, signal_name}
use Rattle.trace.specs.Traces.{cell_text, names_width}
use Rattle.trace.specs.Widths.{at_left}
use Rattle.trace.proofs.table.put_row.Goals as goal

pub returns-in_err-put_name-clause-puts : goal.returns-in_err-put_name-clause-puts
returns-in_err-put_name-clause-puts g c = λ signals names widths.
    let bits = c.args.bits.now in
    let rows = rows_of (length bits) (length c.args.widths.now) c.args.values.now in
    let e = c.from_residual in
    first_fails e.result _ _ (at_left (names_width bits signals) (signal_name (bits_of bits c.args.signal))) (flat_map (cell_text signals c.args.signal) rows ++ codes "\n") e.ensures.0
    (rw names at c.in_err-put_name.ensures.puts)

pub returns-in_err-put_values-clause-puts : goal.returns-in_err-put_values-clause-puts
returns-in_err-put_values-clause-puts g c = λ signals names widths.
    let bits = c.args.bits.now in
    let rows = rows_of (length bits) (length c.args.widths.now) c.args.values.now in
    let name = at_left (names_width bits signals) (signal_name (bits_of bits c.args.signal)) in
    let values = flat_map (cell_text signals c.args.signal) rows in
    let e = c.from_residual-in_err-put_values in
    puts_then e.result _ (g.W.Sink.contents c.put_name.new.out) _ name (values ++ codes "\n") (rw names at c.in_ok-put_name.ensures.puts)
    (first_fails e.result _ _ values (codes "\n") e.ensures.0 (c.in_err-put_values.ensures.puts signals widths))

pub returns-clause-puts : goal.returns-clause-puts
returns-clause-puts g c = λ signals names widths.
    let bits = c.args.bits.now in
    let rows = rows_of (length bits) (length c.args.widths.now) c.args.values.now in
    let name = at_left (names_width bits signals) (signal_name (bits_of bits c.args.signal)) in
    let values = flat_map (cell_text signals c.args.signal) rows in
    let e = c.put_all in
    puts_then e.result _ (g.W.Sink.contents c.put_name.new.out) _ name (values ++ codes "\n") (rw names at c.in_ok-put_name.ensures.puts)
    (puts_then e.result _ (g.W.Sink.contents c.put_values.new.out) _ values (codes "\n") (c.in_ok-put_values.ensures.puts signals widths) (puts_of e.result _ _ (codes "\n") e.ensures.whole e.ensures.beginning))
