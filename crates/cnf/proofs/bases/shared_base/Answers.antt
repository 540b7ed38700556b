use Rattle.cnf.proofs.Formed.{shared_formed}
use Rattle.cnf.proofs.Safety.{safety_law}
use Rattle.cnf.proofs.bases.shared_base.Goals as goal

pub returns-clause-is_formula : goal.returns-clause-is_formula
returns-clause-is_formula c = rw (c.formula.ensures, c.in_ok-clauses.ensures) (shared_formed c.args.circuit.now c.args.invariant.now c.well_formed-2.ensures c.requires)

pub returns-clause-safety : goal.returns-clause-safety
returns-clause-safety c = safety_law c.args.circuit.now c.args.invariant.now c.well_formed-2.ensures (λ k d k_in. (c.requires.clauses k d k_in).over)
