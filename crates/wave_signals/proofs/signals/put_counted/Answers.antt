use Rattle.std.proofs.Common.{◌≡◌, ◌∙◌}
use Rattle.std.specs.Prelude.{decimal}
use Rattle.base.proofs.Putting.{puts_of, puts_then}
use Rattle.wave_signals.proofs.signals.put_counted.Goals as goal

pub returns-clause-puts : goal.returns-clause-puts
returns-clause-puts g c =
    let same : c.as_bytes.result.now ≡ decimal c.args.number = c.as_bytes.ensures.value ∙ c.format.ensures.text in
    let a = c.put_all-2 in
    puts_then a.result _ (g.W.Sink.contents c.put_all.new.out) _ c.args.before.now (decimal c.args.number) c.in_ok-put_all.ensures.whole
    (puts_of a.result _ _ (decimal c.args.number) (rw same at a.ensures.whole) (rw same at a.ensures.beginning))
