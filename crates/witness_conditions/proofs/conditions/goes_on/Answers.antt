use Rattle.witness_conditions.proofs.Next.{next_said}
use Rattle.witness_conditions.proofs.conditions.goes_on.Goals as goal

pub returns-in_ok-fact-in-Some-clause-value : goal.returns-in_ok-fact-in-Some-clause-value
returns-in_ok-fact-in-Some-clause-value c =
    let a = c.args in
    next_said a.first.now a.then.now a.latch a.shared c.in-Some.field-0 _ _ _ _ c.in-Some.is c.literal_of.ensures c.literal_of-in-Some.ensures c.in_ok-fact-in-Some.ensures.value
