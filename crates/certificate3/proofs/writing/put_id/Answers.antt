use Rattle.std.proofs.Common.{◌≡◌, ◌∷◌, [], ◌++◌}
use Rattle.std.specs.Prelude.{decimal}
use Rattle.std.proofs.lemmas.List.{append-nil}
use Rattle.lrat.specs.Texts.{Puts}
use Rattle.lrat.proofs.PutLaws.{puts_then}
use Rattle.certificate.proofs.PutLaws.{stops}
use Rattle.certificate3.proofs.writing.put_id.Goals as goal

pub returns-in_err-put_all-clause-puts : goal.returns-in_err-put_all-clause-puts
returns-in_err-put_all-clause-puts g c =
    stops c.from_residual.result _ _ (32 ∷ []) (decimal c.args.id) c.from_residual.ensures.0 c.in_err-put_all.ensures.beginning

pub returns-clause-puts : goal.returns-clause-puts
returns-clause-puts g c =
    let before = g.W.Sink.contents c.args.out.now in
    let between = g.W.Sink.contents c.put_all.new.out in
    let after = g.W.Sink.contents c.put_number.new.out in
    let same : decimal c.from.result ++ [] ≡ decimal c.args.id = rw c.from.ensures (append-nil (decimal c.args.id)) in
    let last : Puts c.put_number.result between after (decimal c.args.id) = rw same at c.put_number.ensures.puts in
    puts_then c.put_number.result before between after (32 ∷ []) (decimal c.args.id) c.in_ok-put_all.ensures.whole last
