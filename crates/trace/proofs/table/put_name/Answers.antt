use Rattle.std.proofs.Common.{◌≡◌, ◌-◌, ◌∙◌, ap, length}
use Rattle.base.proofs.Putting.{puts_then}
use Rattle.stimulus.proofs.WriteLaws.{first_fails}
use Rattle.wave_signals.specs.Signals.{signal_name}
use Rattle.trace.specs.Widths.{spaces}
use Rattle.trace.proofs.table.put_name.Goals as goal

pub returns-in_err-put_signal_name-clause-puts : goal.returns-in_err-put_signal_name-clause-puts
returns-in_err-put_signal_name-clause-puts g c =
    let name = signal_name c.args.bits.now in
    first_fails c.from_residual.result _ _ name (spaces (c.args.width - length name)) c.from_residual.ensures.0 c.in_err-put_signal_name.ensures.puts

pub returns-clause-puts : goal.returns-clause-puts
returns-clause-puts g c =
    let name = signal_name c.args.bits.now in
    let count : c.saturating_sub.result ≡ c.args.width - length (signal_name c.args.bits.now) = c.saturating_sub.ensures ∙ ap (λ n. c.args.width - n) c.signal_name_length.ensures in
    puts_then c.put_spaces.result _ (g.W.Sink.contents c.put_signal_name.new.out) _ name (spaces (c.args.width - length name)) c.in_ok-put_signal_name.ensures.puts (rw count at c.put_spaces.ensures.puts)
