use Rattle.std.specs.Prelude.{codes}
use Rattle.base.proofs.Putting.{puts_then}
use Rattle.stimulus.specs.Tables.{digits_text}
use Rattle.stimulus.proofs.WriteLaws.{first_fails}
use Rattle.stimulus.proofs.table.put_field.Goals as goal

pub returns-in_err-put_all-clause-puts : goal.returns-in_err-put_all-clause-puts
returns-in_err-put_all-clause-puts g c = first_fails c.from_residual.result _ _ (codes " ") (digits_text c.args.values.now) c.from_residual.ensures.0 c.in_err-put_all.ensures.beginning

pub returns-clause-puts : goal.returns-clause-puts
returns-clause-puts g c = puts_then c.put_digits.result _ (g.W.Sink.contents c.put_all.new.out) _ (codes " ") (digits_text c.args.values.now) c.in_ok-put_all.ensures.whole c.put_digits.ensures.puts
