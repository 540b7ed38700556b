use Rattle.witness_pairs.proofs.Drafted.{equal_says, goes_on_more, goes_on_same}
use Rattle.witness_pairs.proofs.drafting.Draft.equal.Goals as goal

pub returns-clause-goes_on : goal.returns-clause-goes_on
returns-clause-goes_on c =
    goes_on_more _ _ _ _ (goes_on_more _ _ _ _ (goes_on_more _ _ _ _ (goes_on_same _) c.in_ok-first.ensures.gate) c.in_ok-second.ensures.gate) c.in_ok-equal.ensures.gate

pub returns-clause-value : goal.returns-clause-value
returns-clause-value c =
    equal_says _ _ _ _ _ _ _ _ _ _ _ _ _ c.flipped-not_other.ensures c.flipped-not_one.ensures c.flipped-not_first.ensures c.flipped-not_second.ensures
    c.in_ok-first.ensures.gate c.in_ok-second.ensures.gate c.in_ok-equal.ensures.gate
