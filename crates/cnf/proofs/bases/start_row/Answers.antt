use Rattle.cnf.proofs.Formed.{start_formed}
use Rattle.cnf.proofs.bases.start_row.Goals as goal

pub returns-clause-is_formula : goal.returns-clause-is_formula
returns-clause-is_formula c = rw c.in_ok-push_start.ensures (start_formed c.args.circuit.now c.well_formed-2.ensures)
