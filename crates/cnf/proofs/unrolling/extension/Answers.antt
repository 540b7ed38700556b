use Rattle.std.proofs.Common.{arith}
use Rattle.cnf.proofs.RunLaw.{unroll_law}
use Rattle.cnf.proofs.Counted.{unroll_over}
use Rattle.cnf.proofs.Extended.{extension_literals}
use Rattle.cnf.proofs.unrolling.extension.Goals as goal

pub returns-clause-literals : goal.returns-clause-literals
returns-clause-literals c = extension_literals c.args.circuit.now c.args.steps c.in_ok-extension_clauses.field-0 c.well_formed-2.ensures (omega arith) c.in_ok-extension_clauses.ensures

pub returns-clause-variables : goal.returns-clause-variables
returns-clause-variables c = unroll_over c.args.circuit.now c.args.steps c.well_formed-2.ensures

pub returns-clause-meaning : goal.returns-clause-meaning
returns-clause-meaning c = unroll_law c.args.circuit.now c.args.steps c.well_formed-2.ensures
