use Rattle.std.proofs.Common.{◌∷◌, [], ◌++◌}
use Rattle.std.specs.Prelude.{codes}
use Rattle.lrat.specs.Texts.{proof_text}
use Rattle.lrat.proofs.PutLaws.{puts_of, puts_then}
use Rattle.certificate.proofs.PutLaws.{stops}
use Rattle.certificate.proofs.writing.put_section.Goals as goal

pub returns-in_err-put_all-clause-puts : goal.returns-in_err-put_all-clause-puts
returns-in_err-put_all-clause-puts g c =
    stops c.from_residual.result _ _ (c.args.letter ∷ 10 ∷ []) (proof_text c.args.proof.now ++ codes ".\n") c.from_residual.ensures.0 c.in_err-put_all.ensures.beginning

pub returns-in_err-put_proof-clause-puts : goal.returns-in_err-put_proof-clause-puts
returns-in_err-put_proof-clause-puts g c =
    let r = c.from_residual-in_err-put_proof.result in
    let before = g.W.Sink.contents c.args.out.now in
    let one = g.W.Sink.contents c.put_all.new.out in
    let two = g.W.Sink.contents c.put_proof.new.out in
    let proof = proof_text c.args.proof.now in
    puts_then r before one two (c.args.letter ∷ 10 ∷ []) (proof ++ codes ".\n") c.in_ok-put_all.ensures.whole
    (stops r one two proof (codes ".\n") c.from_residual-in_err-put_proof.ensures.0 c.in_err-put_proof.ensures.puts)

pub returns-clause-puts : goal.returns-clause-puts
returns-clause-puts g c =
    let r = c.put_all-2.result in
    let before = g.W.Sink.contents c.args.out.now in
    let one = g.W.Sink.contents c.put_all.new.out in
    let two = g.W.Sink.contents c.put_proof.new.out in
    let after = g.W.Sink.contents c.put_all-2.new.out in
    let proof = proof_text c.args.proof.now in
    puts_then r before one after (c.args.letter ∷ 10 ∷ []) (proof ++ codes ".\n") c.in_ok-put_all.ensures.whole
    (puts_then r one two after proof (codes ".\n") c.in_ok-put_proof.ensures.puts (puts_of r two after (codes ".\n") c.put_all-2.ensures.whole c.put_all-2.ensures.beginning))
