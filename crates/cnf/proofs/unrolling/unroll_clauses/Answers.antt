use Rattle.graph.proofs.Evaluation.{latches_in_range}
use Rattle.cnf.proofs.unrolling.unroll_clauses.Goals as goal

pub push_resets-requires-clause-in_range : goal.push_resets-requires-clause-in_range
push_resets-requires-clause-in_range c = rw (c.latches.ensures, c.first.ensures.max_var) (latches_in_range c.args.circuit.now c.well_formed-2.ensures)
