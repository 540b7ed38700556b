use Rattle.witness_pairs.proofs.Drafted.{breaks_says, goes_on_more, goes_on_then}
use Rattle.witness_pairs.proofs.drafting.Draft.breaks.Goals as goal

pub returns-clause-goes_on : goal.returns-clause-goes_on
returns-clause-goes_on c = goes_on_more _ _ _ _ (goes_on_then _ _ _ c.in_ok-are_given.ensures.goes_on c.in_ok-are_wanted.ensures.goes_on) c.in_ok-breaks.ensures.gate

pub returns-clause-value : goal.returns-clause-value
returns-clause-value c =
    breaks_says _ _ _ _ c.args.given.now c.args.wanted.now _ _ _ _ c.in_ok-are_given.ensures.goes_on c.in_ok-are_given.ensures.value c.in_ok-are_wanted.ensures.goes_on c.in_ok-are_wanted.ensures.value
    c.flipped-not_wanted.ensures c.in_ok-breaks.ensures.gate
