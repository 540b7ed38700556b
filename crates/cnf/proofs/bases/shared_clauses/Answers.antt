use Rattle.std.proofs.Common.{get_or}
use Rattle.cnf.proofs.CaseLaws.{clause_range}
use Rattle.cnf.proofs.bases.shared_clauses.Goals as goal

pub push_invariant-requires-clause-in_range : goal.push_invariant-requires-clause-in_range
push_invariant-requires-clause-in_range c =
    rw c.first.ensures.max_var (λ k d k_in. clause_range c.args.circuit.now (get_or c.args.invariant.now k d) c.well_formed-2.ensures ((c.requires.clauses k d k_in).over))
