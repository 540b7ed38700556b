use Rattle.std.proofs.Common.{◌++◌}
use Rattle.std.specs.Prelude.{codes, decimal}
use Rattle.base.proofs.Putting.{puts_of, puts_then}
use Rattle.stimulus.proofs.WriteLaws.{first_fails}
use Rattle.wave_signals.proofs.signals.put_range.Goals as goal

pub returns-in_err-put_counted-clause-puts : goal.returns-in_err-put_counted-clause-puts
returns-in_err-put_counted-clause-puts g c =
    first_fails c.from_residual.result _ _ (codes "[" ++ decimal c.args.high) ((codes ":" ++ decimal c.args.low) ++ codes "]") c.from_residual.ensures.0 c.in_err-put_counted.ensures.puts

pub returns-in_err-put_counted-2-clause-puts : goal.returns-in_err-put_counted-2-clause-puts
returns-in_err-put_counted-2-clause-puts g c =
    let r = c.from_residual-in_err-put_counted-2 in
    puts_then r.result _ (g.W.Sink.contents c.put_counted.new.out) _ (codes "[" ++ decimal c.args.high) ((codes ":" ++ decimal c.args.low) ++ codes "]") c.in_ok-put_counted.ensures.puts
    (first_fails r.result _ _ (codes ":" ++ decimal c.args.low) (codes "]") r.ensures.0 c.in_err-put_counted-2.ensures.puts)

pub returns-clause-puts : goal.returns-clause-puts
returns-clause-puts g c =
    let a = c.put_all in
    puts_then a.result _ (g.W.Sink.contents c.put_counted.new.out) _ (codes "[" ++ decimal c.args.high) ((codes ":" ++ decimal c.args.low) ++ codes "]") c.in_ok-put_counted.ensures.puts
    (puts_then a.result _ (g.W.Sink.contents c.put_counted-2.new.out) _ (codes ":" ++ decimal c.args.low) (codes "]") c.in_ok-put_counted-2.ensures.puts (puts_of a.result _ _ (codes "]") a.ensures.whole a.ensures.beginning))
