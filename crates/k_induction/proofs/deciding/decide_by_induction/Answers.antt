use Rattle.stimulus.proofs.Watching.{watched_in_range}
use Rattle.k_induction.proofs.deciding.decide_by_induction.Goals as goal

pub find_clauses-requires : goal.find_clauses-requires
find_clauses-requires g c = record { bad = watched_in_range c.args.circuit.now c.args.property c.in-Some.bad c.well_formed-2.ensures c.in-Some.ensures }
