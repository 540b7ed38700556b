use Rattle.std.proofs.Common.{◌++◌}
use Rattle.std.specs.Prelude.{codes}
use Rattle.certificate3.specs.Texts.{claim_text, evidence_text}
use Rattle.certificate3.specs.Writing.{certificate_in, evidence_in}
use Rattle.certificate3.proofs.PutLaws.{first_stops, second_stops, three_puts, whole_parts}
use Rattle.certificate3.proofs.writing.put_text.Goals as goal

pub returns-in_err-put_all-clause-puts : goal.returns-in_err-put_all-clause-puts
returns-in_err-put_all-clause-puts g c =
    first_stops c.from_residual.result (g.W.Sink.contents c.args.out.now) (g.W.Sink.contents c.put_all.new.out) (codes "aigcert 3\n") ((claim_text c.args.claim.property c.args.claim.rounds) ++ (evidence_text (evidence_in c.args.evidence.now))) _ (whole_parts (certificate_in c.args.claim c.args.evidence.now)) c.from_residual.ensures.0 (c.in_err-put_all.ensures.beginning)

pub returns-in_err-put_claim-clause-puts : goal.returns-in_err-put_claim-clause-puts
returns-in_err-put_claim-clause-puts g c =
    second_stops c.from_residual-in_err-put_claim.result (g.W.Sink.contents c.args.out.now) (g.W.Sink.contents c.put_all.new.out) (g.W.Sink.contents c.put_claim.new.out) (codes "aigcert 3\n") (claim_text c.args.claim.property c.args.claim.rounds) (evidence_text (evidence_in c.args.evidence.now)) _ (whole_parts (certificate_in c.args.claim c.args.evidence.now)) (c.in_ok-put_all.ensures.whole) c.from_residual-in_err-put_claim.ensures.0 (c.in_err-put_claim.ensures.puts)

pub returns-clause-puts : goal.returns-clause-puts
returns-clause-puts g c =
    three_puts c.put_evidence.result (g.W.Sink.contents c.args.out.now) (g.W.Sink.contents c.put_all.new.out) (g.W.Sink.contents c.put_claim.new.out) (g.W.Sink.contents c.put_evidence.new.out) (codes "aigcert 3\n") (claim_text c.args.claim.property c.args.claim.rounds) (evidence_text (evidence_in c.args.evidence.now)) _ (whole_parts (certificate_in c.args.claim c.args.evidence.now)) (c.in_ok-put_all.ensures.whole) (c.in_ok-put_claim.ensures.puts) (c.put_evidence.ensures.puts)
