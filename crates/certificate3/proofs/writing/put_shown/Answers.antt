use Rattle.std.proofs.Common.{refl}
use Rattle.std.specs.Prelude.{flat_map}
use Rattle.certificate.specs.Texts.{section_text}
use Rattle.certificate3.specs.Texts.{hints_line}
use Rattle.certificate3.proofs.PutLaws.{first_stops, two_puts}
use Rattle.certificate3.proofs.writing.put_shown.Goals as goal

pub returns-in_err-put_section-clause-puts : goal.returns-in_err-put_section-clause-puts
returns-in_err-put_section-clause-puts g c =
    first_stops c.from_residual.result (g.W.Sink.contents c.args.out.now) (g.W.Sink.contents c.put_section.new.out) (section_text c.args.letter c.args.shown.now.lines) (flat_map hints_line c.args.shown.now.hints) _ (refl) c.from_residual.ensures.0 (c.in_err-put_section.ensures.puts)

pub returns-clause-puts : goal.returns-clause-puts
returns-clause-puts g c =
    two_puts c.put_hints.result (g.W.Sink.contents c.args.out.now) (g.W.Sink.contents c.put_section.new.out) (g.W.Sink.contents c.put_hints.new.out) (section_text c.args.letter c.args.shown.now.lines) (flat_map hints_line c.args.shown.now.hints) _ (refl) (c.in_ok-put_section.ensures.puts) (c.put_hints.ensures.puts)
