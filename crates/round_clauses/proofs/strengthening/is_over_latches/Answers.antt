use Rattle.std.proofs.Common.{get_or}
use Rattle.graph.specs.Circuits.{variable}
use Rattle.round_clauses.proofs.strengthening.is_over_latches.Goals as goal

pub returns : goal.returns
returns c = λ holds k d k_in. (c.requires.latches (variable (get_or c.args.clause.now k d))).0 (c.has_all.ensures holds k d k_in)
