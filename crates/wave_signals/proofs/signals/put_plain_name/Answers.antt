use Rattle.std.proofs.Common.{◌≡◌, ◌∙◌}
use Rattle.std.specs.Prelude.{decimal}
use Rattle.base.proofs.Putting.{puts_of, puts_then}
use Rattle.stimulus.proofs.WriteLaws.{first_fails}
use Rattle.wave_signals.specs.Bits.{letter_of}
use Rattle.wave_signals.proofs.signals.put_plain_name.Goals as goal

pub returns-in_err-put_all-clause-puts : goal.returns-in_err-put_all-clause-puts
returns-in_err-put_all-clause-puts g c =
    first_fails c.from_residual.result _ _ (letter_of c.args.kind) (decimal c.args.position) c.from_residual.ensures.0 (rw c.letter.ensures at c.in_err-put_all.ensures.beginning)

pub returns-clause-puts : goal.returns-clause-puts
returns-clause-puts g c =
    let same : c.as_bytes.result.now ≡ decimal c.args.position = c.as_bytes.ensures.value ∙ c.format.ensures.text in
    let a = c.put_all-2 in
    puts_then a.result _ (g.W.Sink.contents c.put_all.new.out) _ (letter_of c.args.kind) (decimal c.args.position) (rw c.letter.ensures at c.in_ok-put_all.ensures.whole)
    (puts_of a.result _ _ (decimal c.args.position) (rw same at a.ensures.whole) (rw same at a.ensures.beginning))
