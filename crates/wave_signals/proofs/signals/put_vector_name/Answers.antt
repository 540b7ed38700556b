use Rattle.std.proofs.Common.{◌+◌, ◌-◌, subst, sym}
use Rattle.base.specs.Devices.{Puts}
use Rattle.base.proofs.Putting.{puts_then}
use Rattle.wave_signals.specs.Signals.{range_text}
use Rattle.wave_signals.proofs.SignalLaws.{ranged_name}
use Rattle.wave_signals.proofs.signals.put_vector_name.Goals as goal

pub returns-clause-puts : goal.returns-clause-puts
returns-clause-puts g c =
    let r = c.put_range in
    let low = c.args.low in
    subst (Puts r.result (g.W.Sink.contents c.args.out.now) (g.W.Sink.contents r.new.out)) (sym (ranged_name c.args.base.now low c.args.count c.if-low-eq0.false))
    (puts_then r.result _ (g.W.Sink.contents c.put_all-2.new.out) _ c.args.base.now (range_text (low + c.args.count - 1) low) c.in_ok-put_all.ensures.whole (rw (c.from.ensures, c.from-2.ensures) at r.ensures.puts))
