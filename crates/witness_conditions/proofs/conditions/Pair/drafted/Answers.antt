use Rattle.witness_conditions.proofs.Asked.{says_of}
use Rattle.witness_conditions.proofs.conditions.Pair.drafted.Goals as goal

pub returns-clause-value : goal.returns-clause-value
returns-clause-value c = says_of _ _ _ _ _ _ c.as_slice-given.ensures c.as_slice-wanted.ensures c.in_ok-breaks.ensures.value
