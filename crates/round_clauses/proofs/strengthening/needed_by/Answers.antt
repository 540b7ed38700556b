use Rattle.round_clauses.proofs.Fewer.{bad_used}
use Rattle.round_clauses.proofs.strengthening.needed_by.Goals as goal

pub safe_inductive_subset-requires-clause-bad : goal.safe_inductive_subset-requires-clause-bad
safe_inductive_subset-requires-clause-bad g c = bad_used c.args.circuit.now c.bad.result.now c.requires c.bad.ensures
