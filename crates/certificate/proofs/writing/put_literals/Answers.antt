use Rattle.std.proofs.Common.{subst}
use Rattle.std.specs.Prelude.{flat_map}
use Rattle.std.specs.Io.KnownBytes.{Appends}
use Rattle.std.proofs.lemmas.List.{take_all}
use Rattle.lrat.proofs.PutLaws.{begins_at, puts_err}
use Rattle.certificate.specs.Writing.{literal_text}
use Rattle.certificate.proofs.writing.put_literals.Goals as goal

pub returns-in_err-put_literal-clause-puts : goal.returns-in_err-put_literal-clause-puts
returns-in_err-put_literal-clause-puts g c =
    let before = g.W.Sink.contents c.args.out.now in
    let between = g.W.Sink.contents c.loop-literal.out in
    let after = g.W.Sink.contents c.put_literal.new.out in
    let begun = c.in_err-put_literal.ensures.puts in
    puts_err c.from_residual.result _ _ _ c.from_residual.ensures.0
    (begins_at literal_text c.args.literals.now c.loop-literal.literal-index record { 0 = 0 } before between after c.loop-literal-test.true c.loop-literal.invariant.appended begun)

pub returns-clause-puts : goal.returns-clause-puts
returns-clause-puts g c =
    let before = g.W.Sink.contents c.args.out.now in
    let after = g.W.Sink.contents c.loop-literal.out in
    subst (λ xs. Appends before after (flat_map literal_text xs)) (take_all _ _ c.loop-literal-test.false) c.loop-literal.invariant.appended
