use Rattle.std.proofs.Common.{sym, ◌∙◌}
use Rattle.invariant.proofs.Begun.{only_certificate, only_lines}
use Rattle.invariant.proofs.reading.read.Goals as goal

pub returns-then-is_certificate-clause-only : goal.returns-then-is_certificate-clause-only
returns-then-is_certificate-clause-only c =
    only_certificate c.args.text.now c.of_certificate.result (sym c.is_certificate.ensures ∙ c.if-is_certificate.true) c.of_certificate.ensures.only

pub returns-else-is_certificate-clause-only : goal.returns-else-is_certificate-clause-only
returns-else-is_certificate-clause-only c = only_lines c.args.text.now c.of_lines.result (sym c.is_certificate.ensures ∙ c.if-is_certificate.false) c.of_lines.ensures.only
