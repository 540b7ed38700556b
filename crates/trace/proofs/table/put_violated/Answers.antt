use Rattle.std.proofs.Common.{List, Bool, Option, length, subst}
use Rattle.std.specs.Io.KnownBytes.{Appends}
use Rattle.base.specs.Devices.{PutsBeginning}
use Rattle.stimulus.proofs.RowLaws.{err_at}
use Rattle.wave_signals.specs.Columns.{rows_of}
use Rattle.trace.specs.Traces.{Signals, HasTraceCauseIn, trace_text}
use Rattle.trace.proofs.TraceLaws.{if_err, on_ok, trace_cause, trace_cut}
use Rattle.trace.proofs.table.put_violated.Goals as goal

pub returns-in_err-shown-clause-refused : goal.returns-in_err-shown-clause-refused
returns-in_err-shown-clause-refused g c =
    let before = g.W.Sink.contents c.args.out.now in
    let refused = c.in_err-shown.ensures.refused in
    let e = c.in_err-shown.field-0.0 in
    err_at c.from_residual.result e (HasTraceCauseIn c.args.file.now c.args.all c.args.property c.args.initial.now c.args.inputs.now before before) c.from_residual.ensures.1
    (trace_cause c.args.file.now c.args.all c.args.property c.args.initial.now c.args.inputs.now before before e refused.0 (refused.1 before before))

pub put_shown-requires-clause-inside : goal.put_shown-requires-clause-inside
put_shown-requires-clause-inside g c = c.in_ok-shown.ensures.values.are_signals.inside

pub put_shown-requires-clause-values : goal.put_shown-requires-clause-values
put_shown-requires-clause-values g c = c.in_ok-shown.ensures.values.of.long

pub returns-clause-put : goal.returns-clause-put
returns-clause-put g c =
    let shown = c.in_ok-shown.shown in
    let is = c.in_ok-shown.ensures.values in
    let x = is.of.replay in
    let shows : Signals c.args.file.now c.args.all = record { bits = _; signals = _; are_shown = is.are_shown; are_signals = is.are_signals } in
    on_ok _ _ c.put_shown.result (λ h. record {
      replay = x;
      replays = is.of.replays;
      only = is.of.only;
      starts = is.starts;
      shows = shows;
      start = shown.start;
      loops = is.loops x is.of.replays;
      appends = subst (λ (rows : List (List (Option Bool))). Appends (g.W.Sink.contents c.args.out.now) (g.W.Sink.contents c.put_shown.new.out) (trace_text shown.bits.items shown.signals.items rows shown.start)) (is.of.rows_are x is.of.replays) h;
    }) c.put_shown.ensures.put

pub returns-clause-refused : goal.returns-clause-refused
returns-clause-refused g c =
    let shown = c.in_ok-shown.shown in
    let is = c.in_ok-shown.ensures.values in
    let before = g.W.Sink.contents c.args.out.now in
    let after = g.W.Sink.contents c.put_shown.new.out in
    let shows : Signals c.args.file.now c.args.all = record { bits = _; signals = _; are_shown = is.are_shown; are_signals = is.are_signals } in
    if_err _ _ c.put_shown.result
    (trace_cut c.args.file.now c.args.all c.args.property c.args.initial.now c.args.inputs.now before after
    (trace_text shown.bits.items shown.signals.items (rows_of (length shown.bits.items) (length c.args.inputs.now) shown.values.items) shown.start)
    (λ begins. record {
      playable = is.playable;
      starts = is.starts;
      shows = shows;
      start = shown.start;
      loops = is.loops;
      begins = λ x x_is. subst (λ (rows : List (List (Option Bool))). PutsBeginning before after (trace_text shown.bits.items shown.signals.items rows shown.start)) (is.of.rows_are x x_is) begins;
    })) c.put_shown.ensures.cut
