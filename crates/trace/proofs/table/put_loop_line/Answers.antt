use Rattle.std.proofs.Common.{◌++◌}
use Rattle.std.specs.Prelude.{codes, decimal}
use Rattle.base.proofs.Putting.{puts_of, puts_then}
use Rattle.stimulus.proofs.WriteLaws.{first_fails}
use Rattle.trace.proofs.table.put_loop_line.Goals as goal

pub returns-in_err-put_counted-clause-puts : goal.returns-in_err-put_counted-clause-puts
returns-in_err-put_counted-clause-puts g c =
    first_fails c.from_residual.result _ _ (codes "loop " ++ decimal c.args.time) (codes "\n") c.from_residual.ensures.0 c.in_err-put_counted.ensures.puts

pub returns-clause-puts : goal.returns-clause-puts
returns-clause-puts g c =
    let a = c.put_all in
    puts_then a.result _ (g.W.Sink.contents c.put_counted.new.out) _ (codes "loop " ++ decimal c.args.time) (codes "\n") c.in_ok-put_counted.ensures.puts (puts_of a.result _ _ (codes "\n") a.ensures.whole a.ensures.beginning)
