use Rattle.std.proofs.Common.{subst, ◌∙◌}
use Rattle.std.specs.List.{flat_map}
use Rattle.std.specs.Io.KnownBytes.{Appends}
use Rattle.std.proofs.lemmas.List.{take_all}
use Rattle.base.specs.Devices.{PutsBeginning}
use Rattle.base.proofs.Putting.{begins_at, puts_err}
use Rattle.stimulus.specs.Texts.{line_text}
use Rattle.stimulus.proofs.writing.put_lines.Goals as goal

pub returns-in_err-put_line-clause-puts : goal.returns-in_err-put_line-clause-puts
returns-in_err-put_line-clause-puts g c =
    let before = g.W.Sink.contents c.args.out.now in
    let between = g.W.Sink.contents c.loop-line.out in
    let after = g.W.Sink.contents c.put_line.new.out in
    let begun = subst (λ values. PutsBeginning between after (line_text values)) (c.as_slice.ensures ∙ c.line-item.is) c.in_err-put_line.ensures.puts in
    puts_err c.from_residual.result _ _ _ c.from_residual.ensures.0
    (begins_at line_text c.args.lines.now c.loop-line.line-index c.line-item.result before between after c.loop-line-test.true c.loop-line.invariant.appended begun)

pub returns-clause-puts : goal.returns-clause-puts
returns-clause-puts g c =
    let before = g.W.Sink.contents c.args.out.now in
    let after = g.W.Sink.contents c.loop-line.out in
    subst (λ lines. Appends before after (flat_map line_text lines)) (take_all _ _ c.loop-line-test.false) c.loop-line.invariant.appended
