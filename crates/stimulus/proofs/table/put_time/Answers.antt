use Rattle.std.proofs.Common.{◌≡◌, ◌∙◌}
use Rattle.std.specs.Prelude.{decimal}
use Rattle.base.proofs.Putting.{puts_then}
use Rattle.stimulus.specs.Tables.{field_text}
use Rattle.stimulus.proofs.WriteLaws.{first_fails}
use Rattle.stimulus.proofs.table.put_time.Goals as goal

pub returns-in_err-put_all-clause-puts : goal.returns-in_err-put_all-clause-puts
returns-in_err-put_all-clause-puts g c =
    let same : c.as_bytes.result.now ≡ decimal c.args.time = c.as_bytes.ensures.value ∙ c.format.ensures.text in
    first_fails c.from_residual.result _ _ (decimal c.args.time) (field_text c.args.state.now) c.from_residual.ensures.0 (rw same at c.in_err-put_all.ensures.beginning)

pub returns-clause-puts : goal.returns-clause-puts
returns-clause-puts g c =
    let same : c.as_bytes.result.now ≡ decimal c.args.time = c.as_bytes.ensures.value ∙ c.format.ensures.text in
    puts_then c.put_field.result _ (g.W.Sink.contents c.put_all.new.out) _ (decimal c.args.time) (field_text c.args.state.now) (rw same at c.in_ok-put_all.ensures.whole) c.put_field.ensures.puts
