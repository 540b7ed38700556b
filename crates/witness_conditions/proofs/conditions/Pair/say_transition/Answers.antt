use Rattle.witness_conditions.proofs.Next.{transition_said}
use Rattle.witness_conditions.proofs.conditions.Pair.say_transition.Goals as goal

pub returns-clause-wanted : goal.returns-clause-wanted
returns-clause-wanted c =
    transition_said _ _ _ _ _ _ _ _ _ _ _ _ _ c.as_slice-first.ensures.value c.as_slice-then.ensures.value c.latches-own.ensures c.as_slice-shared.ensures.value c.in_ok-add_steps.ensures.facts
    c.in_ok-add_own_constraints-2.ensures
