use Rattle.std.proofs.Common.{arith}
use Rattle.cnf.proofs.RunLaw.{unroll_law}
use Rattle.cnf.proofs.Counted.{unroll_over, unroll_formed}
use Rattle.cnf.proofs.unrolling.unroll.Goals as goal

pub returns-clause-is_formula : goal.returns-clause-is_formula
returns-clause-is_formula c = rw (c.max_var.ensures, c.in_ok-clauses.ensures) (unroll_formed c.args.circuit.now c.args.steps c.well_formed-2.ensures (omega arith))

pub returns-clause-variables : goal.returns-clause-variables
returns-clause-variables c = rw c.in_ok-clauses.ensures (unroll_over c.args.circuit.now c.args.steps c.well_formed-2.ensures)

pub returns-clause-meaning : goal.returns-clause-meaning
returns-clause-meaning c = unroll_law c.args.circuit.now c.args.steps c.well_formed-2.ensures
