use Rattle.std.proofs.Common.{ℕ, Option, length, subst}
use Rattle.std.specs.Io.KnownBytes.{Appends}
use Rattle.base.specs.Devices.{PutsBeginning}
use Rattle.stimulus.proofs.RowLaws.{err_at}
use Rattle.wave_signals.specs.Columns.{rows_of}
use Rattle.trace.specs.OpenTraces.{HasOpenWaveCause}
use Rattle.trace.specs.Traces.{Signals}
use Rattle.trace.specs.Waves.{wave_text}
use Rattle.trace.proofs.OpenTraceLaws.{open_wave_cause, open_wave_cut}
use Rattle.trace.proofs.TraceLaws.{if_err, on_ok}
use Rattle.trace.proofs.waves.put_open_vcd.Goals as goal

pub returns-in_err-shown-clause-refused : goal.returns-in_err-shown-clause-refused
returns-in_err-shown-clause-refused g c =
    let before = g.W.Sink.contents c.args.out.now in
    let e = c.in_err-shown.field-0.0 in
    err_at c.from_residual.result e (HasOpenWaveCause c.args.file.now c.args.all c.args.initial.now c.args.inputs.now before before) c.from_residual.ensures.1
    (open_wave_cause c.args.file.now c.args.all c.args.initial.now c.args.inputs.now before before e c.in_err-shown.ensures.refused.1)

pub put_shown-requires-clause-inside : goal.put_shown-requires-clause-inside
put_shown-requires-clause-inside g c = c.in_ok-shown.ensures.values.are_signals.inside

pub put_shown-requires-clause-values : goal.put_shown-requires-clause-values
put_shown-requires-clause-values g c = c.in_ok-shown.ensures.values.long

pub returns-clause-wave : goal.returns-clause-wave
returns-clause-wave g c =
    let shown = c.in_ok-shown.shown in
    let is = c.in_ok-shown.ensures.values in
    let shows : Signals c.args.file.now c.args.all = record { bits = _; signals = _; are_shown = is.are_shown; are_signals = is.are_signals } in
    let rows = rows_of (length shown.bits.items) (length c.args.inputs.now) shown.values.items in
    on_ok _ _ c.put_shown.result (λ h. record {
      playable = is.playable;
      shows = shows;
      rows = rows;
      known = is.known;
      appends = subst (λ (start : Option ℕ). Appends (g.W.Sink.contents c.args.out.now) (g.W.Sink.contents c.put_shown.new.out) (wave_text shown.bits.items shown.signals.items rows start)) c.in_ok-shown.ensures.no_loop h;
    }) c.put_shown.ensures.put

pub returns-clause-refused : goal.returns-clause-refused
returns-clause-refused g c =
    let shown = c.in_ok-shown.shown in
    let is = c.in_ok-shown.ensures.values in
    let before = g.W.Sink.contents c.args.out.now in
    let after = g.W.Sink.contents c.put_shown.new.out in
    let shows : Signals c.args.file.now c.args.all = record { bits = _; signals = _; are_shown = is.are_shown; are_signals = is.are_signals } in
    let rows = rows_of (length shown.bits.items) (length c.args.inputs.now) shown.values.items in
    if_err _ _ c.put_shown.result
    (open_wave_cut c.args.file.now c.args.all c.args.initial.now c.args.inputs.now before after (wave_text shown.bits.items shown.signals.items rows shown.start)
    (λ begins. record {
      playable = is.playable;
      shows = shows;
      rows = rows;
      known = is.known;
      begins = subst (λ (start : Option ℕ). PutsBeginning before after (wave_text shown.bits.items shown.signals.items rows start)) c.in_ok-shown.ensures.no_loop begins;
    })) c.put_shown.ensures.cut
