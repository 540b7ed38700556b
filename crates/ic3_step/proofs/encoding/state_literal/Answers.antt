use Rattle.graph.proofs.Evaluation.{latches_in_range}
use Rattle.states.proofs.Defaults.{no_latch}
use Rattle.ic3_step.proofs.encoding.state_literal.Goals as goal

pub literal-requires-clause-in_range : goal.literal-requires-clause-in_range
literal-requires-clause-in_range c = rw (c.latches.ensures, c.first-time.ensures.max_var) (latches_in_range c.args.circuit.now c.well_formed-2.ensures c.args.lit.latch no_latch c.requires)

pub denial-requires-clause-in_range : goal.denial-requires-clause-in_range
denial-requires-clause-in_range c = rw (c.latches.ensures, c.first-time.ensures.max_var) (latches_in_range c.args.circuit.now c.well_formed-2.ensures c.args.lit.latch no_latch c.requires)
