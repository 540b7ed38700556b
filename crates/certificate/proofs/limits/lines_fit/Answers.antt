use Rattle.std.proofs.Common.{All, subst}
use Rattle.std.proofs.lemmas.List.{take_all}
use Rattle.lrat.specs.Limits.{IsLine}
use Rattle.lrat.proofs.Numbered.{all_next}
use Rattle.certificate.proofs.limits.lines_fit.Goals as goal

pub loop-proof-preserved : goal.loop-proof-preserved
loop-proof-preserved c =
    all_next (All IsLine) c.args.sections.now c.loop-proof.proof-index c.proof-item.result c.loop-proof-test.true c.loop-proof.invariant (subst (All IsLine) c.proof-item.is c.lines-lines.ensures.are_lines)

pub returns : goal.returns
returns c = subst (All (All IsLine)) (take_all _ _ c.loop-proof-test.false) c.loop-proof.invariant
