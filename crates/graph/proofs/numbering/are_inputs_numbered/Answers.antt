use Rattle.std.proofs.Common.{sym, ◌∙◌}
use Rattle.graph.proofs.Blank.{blank_lit}
use Rattle.graph.proofs.Numbered.{IsNumberedTo-more}
use Rattle.graph.proofs.numbering.are_inputs_numbered.Goals as goal

pub loop-i-preserved : goal.loop-i-preserved
loop-i-preserved c =
    IsNumberedTo-more c.args.first c.args.inputs.now c.loop-i.i blank_lit c.loop-i-test.true c.loop-i.invariant (sym c.from.ensures ∙ c.if-from-first.false)
