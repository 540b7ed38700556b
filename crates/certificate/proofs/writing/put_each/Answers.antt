use Rattle.std.proofs.Common.{subst}
use Rattle.std.specs.Prelude.{flat_map}
use Rattle.std.specs.Io.KnownBytes.{Appends}
use Rattle.std.proofs.lemmas.List.{take_all}
use Rattle.base.specs.Devices.{PutsBeginning}
use Rattle.lrat.proofs.PutLaws.{begins_at, puts_err}
use Rattle.certificate.specs.Texts.{section_text}
use Rattle.certificate.proofs.writing.put_each.Goals as goal

pub returns-in_err-put_section-clause-puts : goal.returns-in_err-put_section-clause-puts
returns-in_err-put_section-clause-puts g c =
    let before = g.W.Sink.contents c.args.out.now in
    let between = g.W.Sink.contents c.loop-proof.out in
    let after = g.W.Sink.contents c.put_section.new.out in
    let begun = subst (λ x. PutsBeginning between after (section_text c.args.letter x)) c.proof-item.is c.in_err-put_section.ensures.puts in
    puts_err c.from_residual.result _ _ _ c.from_residual.ensures.0
    (begins_at (section_text c.args.letter) c.args.proofs.now c.loop-proof.proof-index c.proof-item.result before between after c.loop-proof-test.true c.loop-proof.invariant.appended begun)

pub returns-clause-puts : goal.returns-clause-puts
returns-clause-puts g c =
    let before = g.W.Sink.contents c.args.out.now in
    let after = g.W.Sink.contents c.loop-proof.out in
    subst (λ xs. Appends before after (flat_map (section_text c.args.letter) xs)) (take_all _ _ c.loop-proof-test.false) c.loop-proof.invariant.appended
