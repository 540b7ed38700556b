use Rattle.std.proofs.Common.{◌≡◌, ◌∙◌, ◌*◌, ℕ, length, map, sym, ap, subst}
use Rattle.std.specs.Io.KnownBytes.{Appends}
use Rattle.base.specs.Devices.{PutsBeginning}
use Rattle.stimulus.specs.declared.sim_error.SimError.TheVariants.{Device}
use Rattle.stimulus.proofs.RowLaws.{err_at}
use Rattle.wave_signals.specs.Columns.{rows_of}
use Rattle.trace.specs.Traces.{IsCutShort, trace_text, values_width}
use Rattle.trace.proofs.WidthLaws.{widths_long}
use Rattle.trace.proofs.table.put_shown.Goals as goal

pub values_widths-requires-clause-values : goal.values_widths-requires-clause-values
values_widths-requires-clause-values g c = rw (c.deref.ensures.value, c.deref-3.ensures.value) c.requires.values

pub put_table-requires-clause-values : goal.put_table-requires-clause-values
put_table-requires-clause-values g c =
    let shown = c.args.shown.now in
    let widths = rw (c.deref.ensures.value, c.deref-2.ensures.value, c.deref-3.ensures.value) at c.in_ok-widths.ensures in
    let long = widths_long (length shown.bits.items) c.args.times shown.signals.items shown.values.items c.in_ok-widths.widths.items widths in
    rw (c.deref-4.ensures.value, c.deref-6.ensures.value, c.deref-7.ensures.value) (c.requires.values ∙ ap (λ (n : ℕ). n * length shown.bits.items) (sym long))

pub returns-in_err-put_table-clause-cut : goal.returns-in_err-put_table-clause-cut
returns-in_err-put_table-clause-cut g c =
    let shown = c.args.shown.now in
    let bits = shown.bits.items in
    let before = g.W.Sink.contents c.args.out.now in
    let after = g.W.Sink.contents c.put_table.new.out in
    let widths = rw (c.deref.ensures.value, c.deref-2.ensures.value, c.deref-3.ensures.value) at c.in_ok-widths.ensures in
    let long = widths_long (length bits) c.args.times shown.signals.items shown.values.items c.in_ok-widths.widths.items widths in
    let puts = rw (c.deref-4.ensures.value, c.deref-5.ensures.value, c.deref-6.ensures.value, c.deref-7.ensures.value) at c.in_err-put_table.ensures.puts in
    let same = subst (λ (n : ℕ). c.in_ok-widths.widths.items ≡ map (values_width shown.signals.items) (rows_of (length bits) n shown.values.items)) (sym long) widths in
    let r = c.from_residual-in_err-put_table in
    err_at r.result Device (IsCutShort before after (trace_text bits shown.signals.items (rows_of (length bits) c.args.times shown.values.items) shown.start)) r.ensures.1
    (subst (λ (n : ℕ). PutsBeginning before after (trace_text bits shown.signals.items (rows_of (length bits) n shown.values.items) shown.start)) long (puts same))

pub returns-clause-put : goal.returns-clause-put
returns-clause-put g c =
    let shown = c.args.shown.now in
    let bits = shown.bits.items in
    let before = g.W.Sink.contents c.args.out.now in
    let after = g.W.Sink.contents c.put_table.new.out in
    let widths = rw (c.deref.ensures.value, c.deref-2.ensures.value, c.deref-3.ensures.value) at c.in_ok-widths.ensures in
    let long = widths_long (length bits) c.args.times shown.signals.items shown.values.items c.in_ok-widths.widths.items widths in
    let puts = rw (c.deref-4.ensures.value, c.deref-5.ensures.value, c.deref-6.ensures.value, c.deref-7.ensures.value) at c.in_ok-put_table.ensures.puts in
    let same = subst (λ (n : ℕ). c.in_ok-widths.widths.items ≡ map (values_width shown.signals.items) (rows_of (length bits) n shown.values.items)) (sym long) widths in
    subst (λ (n : ℕ). Appends before after (trace_text bits shown.signals.items (rows_of (length bits) n shown.values.items) shown.start)) long (puts same)
