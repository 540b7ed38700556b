use Rattle.std.proofs.Common.{subst}
use Rattle.std.specs.Io.KnownBytes.{Appends}
use Rattle.std.proofs.lemmas.List.{take_all}
use Rattle.base.specs.Devices.{PutsBeginning}
use Rattle.lrat.specs.Texts.{spaced}
use Rattle.lrat.proofs.PutLaws.{with_space, begins_at, begins_more, puts_err, puts_of, puts_then}
use Rattle.lrat.proofs.writing.put_numbers.Goals as goal

pub returns-in_err-put_number-clause-puts : goal.returns-in_err-put_number-clause-puts
returns-in_err-put_number-clause-puts g c =
    let text = g.I.Integer.text in
    let before = g.W.Sink.contents c.args.out.now in
    let between = g.W.Sink.contents c.loop-number.out in
    let after = g.W.Sink.contents c.put_number.new.out in
    let begun = subst (λ x. PutsBeginning between after (with_space text x)) c.number-item.is c.in_err-put_number.ensures.puts in
    puts_err c.from_residual.result _ _ _ c.from_residual.ensures.0
    (begins_more _ _ (spaced text c.args.numbers.now) c.args.end.now
    (begins_at (with_space text) c.args.numbers.now c.loop-number.number-index c.number-item.result before between after c.loop-number-test.true c.loop-number.invariant.appended begun))

pub returns-clause-puts : goal.returns-clause-puts
returns-clause-puts g c =
    let text = g.I.Integer.text in
    let before = g.W.Sink.contents c.args.out.now in
    let between = g.W.Sink.contents c.loop-number.out in
    let after = g.W.Sink.contents c.put_all.new.out in
    puts_then c.put_all.result before between after (spaced text c.args.numbers.now) c.args.end.now
    (subst (λ ns. Appends before between (spaced text ns)) (take_all _ _ c.loop-number-test.false) c.loop-number.invariant.appended)
    (puts_of c.put_all.result between after c.args.end.now c.put_all.ensures.whole c.put_all.ensures.beginning)
