use Rattle.std.proofs.Common.{subst, false}
use Rattle.std.specs.List.{flat_map}
use Rattle.std.specs.Io.KnownBytes.{Appends}
use Rattle.std.proofs.lemmas.List.{take_all}
use Rattle.base.proofs.Putting.{begins_at, puts_err}
use Rattle.stimulus.specs.Texts.{value_text}
use Rattle.stimulus.proofs.writing.put_values.Goals as goal

pub returns-in_err-put_value-clause-puts : goal.returns-in_err-put_value-clause-puts
returns-in_err-put_value-clause-puts g c =
    let before = g.W.Sink.contents c.args.out.now in
    let between = g.W.Sink.contents c.loop-value.out in
    let after = g.W.Sink.contents c.put_value.new.out in
    puts_err c.from_residual.result before after (flat_map value_text c.args.values.now) c.from_residual.ensures.0
    (begins_at value_text c.args.values.now c.loop-value.value-index false before between after c.loop-value-test.true c.loop-value.invariant.appended c.in_err-put_value.ensures.puts)

pub returns-clause-puts : goal.returns-clause-puts
returns-clause-puts g c =
    let before = g.W.Sink.contents c.args.out.now in
    let after = g.W.Sink.contents c.loop-value.out in
    subst (λ values. Appends before after (flat_map value_text values)) (take_all _ _ c.loop-value-test.false) c.loop-value.invariant.appended
