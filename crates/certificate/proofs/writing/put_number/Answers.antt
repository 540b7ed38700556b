use Rattle.std.proofs.Common.{◌≡◌, ◌∙◌}
use Rattle.std.specs.Prelude.{decimal}
use Rattle.lrat.proofs.PutLaws.{puts_of, puts_then}
use Rattle.certificate.proofs.PutLaws.{stops}
use Rattle.certificate.proofs.writing.put_number.Goals as goal

pub returns-in_err-put_all-clause-puts : goal.returns-in_err-put_all-clause-puts
returns-in_err-put_all-clause-puts g c =
    let same : c.as_bytes.result.now ≡ decimal c.args.number = c.as_bytes.ensures.value ∙ c.format.ensures.text in
    stops c.from_residual.result _ _ (decimal c.args.number) c.args.behind.now c.from_residual.ensures.0 (rw same at c.in_err-put_all.ensures.beginning)

pub returns-clause-puts : goal.returns-clause-puts
returns-clause-puts g c =
    let same : c.as_bytes.result.now ≡ decimal c.args.number = c.as_bytes.ensures.value ∙ c.format.ensures.text in
    let before = g.W.Sink.contents c.args.out.now in
    let between = g.W.Sink.contents c.put_all.new.out in
    let after = g.W.Sink.contents c.put_all-2.new.out in
    puts_then c.put_all-2.result before between after (decimal c.args.number) c.args.behind.now (rw same at c.in_ok-put_all.ensures.whole)
    (puts_of c.put_all-2.result between after c.args.behind.now c.put_all-2.ensures.whole c.put_all-2.ensures.beginning)
