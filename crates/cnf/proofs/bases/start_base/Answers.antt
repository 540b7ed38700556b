use Rattle.cnf.proofs.Formed.{start_formed}
use Rattle.cnf.proofs.bases.start_base.Goals as goal

pub returns-clause-is_formula : goal.returns-clause-is_formula
returns-clause-is_formula c = rw (c.formula.ensures, c.in_ok-clauses.ensures) (start_formed c.args.circuit.now c.well_formed-2.ensures)
