use Rattle.std.proofs.Common.{◌∙◌, length, subst}
use Rattle.std.specs.Io.KnownBytes.{Appends}
use Rattle.base.specs.Devices.{PutsBeginning}
use Rattle.stimulus.specs.declared.sim_error.SimError.TheVariants.{Device}
use Rattle.stimulus.proofs.RowLaws.{err_at}
use Rattle.wave_signals.specs.Columns.{rows_of}
use Rattle.trace.specs.Traces.{IsCutShort}
use Rattle.trace.specs.Waves.{wave_text}
use Rattle.trace.proofs.WaveLaws.{wave_at}
use Rattle.trace.proofs.waves.put_shown.Goals as goal

pub wave-requires-clause-values : goal.wave-requires-clause-values
wave-requires-clause-values g c = rw (c.deref.ensures.value, c.deref-3.ensures.value) c.requires.values

pub returns-in_err-put_all-clause-cut : goal.returns-in_err-put_all-clause-cut
returns-in_err-put_all-clause-cut g c =
    let shown = c.args.shown.now in
    let before = g.W.Sink.contents c.args.out.now in
    let after = g.W.Sink.contents c.put_all.new.out in
    let text = wave_at c.deref.result.now shown.bits.items c.deref-2.result.now shown.signals.items c.deref-3.result.now shown.values.items c.args.times shown.start c.in_ok-text.text.items c.deref.ensures.value c.deref-2.ensures.value c.deref-3.ensures.value c.in_ok-text.ensures in
    let r = c.from_residual-in_err-put_all in
    err_at r.result Device (IsCutShort before after (wave_text shown.bits.items shown.signals.items (rows_of (length shown.bits.items) c.args.times shown.values.items) shown.start)) r.ensures.1
    (subst (PutsBeginning before after) (c.as_slice.ensures.value ∙ text) c.in_err-put_all.ensures.beginning)

pub returns-clause-put : goal.returns-clause-put
returns-clause-put g c =
    let shown = c.args.shown.now in
    let text = wave_at c.deref.result.now shown.bits.items c.deref-2.result.now shown.signals.items c.deref-3.result.now shown.values.items c.args.times shown.start c.in_ok-text.text.items c.deref.ensures.value c.deref-2.ensures.value c.deref-3.ensures.value c.in_ok-text.ensures in
    subst (Appends (g.W.Sink.contents c.args.out.now) (g.W.Sink.contents c.put_all.new.out)) (c.as_slice.ensures.value ∙ text) c.in_ok-put_all.ensures.whole
