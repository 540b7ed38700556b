use Rattle.cnf.proofs.Formed.{frame_formed, frame_over}
use Rattle.cnf.proofs.Frames.{frame_law}
use Rattle.cnf.proofs.bases.frame.Goals as goal

pub returns-clause-is_formula : goal.returns-clause-is_formula
returns-clause-is_formula c = rw (c.formula.ensures, c.in_ok-clauses.ensures) (frame_formed c.args.circuit.now c.well_formed-2.ensures)

pub returns-clause-variables : goal.returns-clause-variables
returns-clause-variables c = rw (c.formula.ensures, c.in_ok-clauses.ensures) (frame_over c.args.circuit.now c.well_formed-2.ensures)

pub returns-clause-meaning : goal.returns-clause-meaning
returns-clause-meaning c = frame_law c.args.circuit.now c.well_formed-2.ensures
