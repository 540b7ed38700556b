use Rattle.std.proofs.Common.{◌∙◌, arith}
use Rattle.simulate.proofs.WideLaws.{literal_in}
use Rattle.simulate.proofs.evaluation.literal_value.Goals as goal

pub returns : goal.returns
returns c r r_in =
    c.negated_if.ensures r r_in ∙ literal_in r c.args.values.now c.args.lit c.variable.result c.is_negated.result (omega (arith, c.variable.ensures, c.requires)) c.variable.ensures c.is_negated.ensures
