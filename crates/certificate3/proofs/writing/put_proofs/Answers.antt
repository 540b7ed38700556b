use Rattle.std.proofs.Common.{◌++◌, refl}
use Rattle.certificate.specs.Texts.{section_text}
use Rattle.certificate3.specs.Texts.{shown_text}
use Rattle.certificate3.proofs.PutLaws.{first_stops, second_stops, three_puts}
use Rattle.certificate3.proofs.writing.put_proofs.Goals as goal

pub returns-in_err-put_shown-clause-puts : goal.returns-in_err-put_shown-clause-puts
returns-in_err-put_shown-clause-puts g c =
    first_stops c.from_residual.result (g.W.Sink.contents c.args.out.now) (g.W.Sink.contents c.put_shown.new.out) (shown_text 105 c.args.evidence.now.first.lines c.args.evidence.now.first.hints) ((shown_text 115 c.args.evidence.now.step.lines c.args.evidence.now.step.hints) ++ (section_text 98 c.args.evidence.now.last)) _ (refl) c.from_residual.ensures.0 (c.in_err-put_shown.ensures.puts)

pub returns-in_err-put_shown-2-clause-puts : goal.returns-in_err-put_shown-2-clause-puts
returns-in_err-put_shown-2-clause-puts g c =
    second_stops c.from_residual-in_err-put_shown-2.result (g.W.Sink.contents c.args.out.now) (g.W.Sink.contents c.put_shown.new.out) (g.W.Sink.contents c.put_shown-2.new.out) (shown_text 105 c.args.evidence.now.first.lines c.args.evidence.now.first.hints) (shown_text 115 c.args.evidence.now.step.lines c.args.evidence.now.step.hints) (section_text 98 c.args.evidence.now.last) _ (refl) (c.in_ok-put_shown.ensures.puts) c.from_residual-in_err-put_shown-2.ensures.0 (c.in_err-put_shown-2.ensures.puts)

pub returns-clause-puts : goal.returns-clause-puts
returns-clause-puts g c =
    three_puts c.put_section.result (g.W.Sink.contents c.args.out.now) (g.W.Sink.contents c.put_shown.new.out) (g.W.Sink.contents c.put_shown-2.new.out) (g.W.Sink.contents c.put_section.new.out) (shown_text 105 c.args.evidence.now.first.lines c.args.evidence.now.first.hints) (shown_text 115 c.args.evidence.now.step.lines c.args.evidence.now.step.hints) (section_text 98 c.args.evidence.now.last) _ (refl) (c.in_ok-put_shown.ensures.puts) (c.in_ok-put_shown-2.ensures.puts) (c.put_section.ensures.puts)
