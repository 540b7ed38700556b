use Rattle.std.proofs.Common.{◌+◌, arith}
use Rattle.cuts.proofs.Chosen.{trivial_more}
use Rattle.cuts.proofs.choosing.themselves.Goals as goal

pub loop-variable-preserved : goal.loop-variable-preserved
loop-variable-preserved c = trivial_more c.loop-variable.cuts.items (c.args.max_var + 1) c.loop-variable.variable c.itself-in-loop-variable.result c.loop-variable-test.true c.itself-in-loop-variable.ensures c.loop-variable.invariant

pub returns-clause-each : goal.returns-clause-each
returns-clause-each c = λ v v_in. c.loop-variable.invariant.1 v (omega (arith, v_in))
