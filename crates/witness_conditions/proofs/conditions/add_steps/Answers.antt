use Rattle.witness_pairs.proofs.Drafted.{goes_on_then}
use Rattle.witness_conditions.proofs.Asked.{next_step}
use Rattle.witness_conditions.proofs.conditions.add_steps.Goals as goal

pub loop-position-preserved : goal.loop-position-preserved
loop-position-preserved c = record {
  goes_on = goes_on_then _ _ _ c.loop-position.invariant.goes_on c.in_ok-fact.ensures.goes_on;
  facts =
      next_step c.args.first.now c.args.then.now c.args.latches.now c.args.shared.now c.loop-position.position _ c.given_at-given.result c.args.facts.now _ _ _ _ _ c.loop-position-test.true c.given_at-given.ensures
      c.in_ok-fact.ensures.goes_on c.in_ok-push.ensures.ok c.loop-position.invariant.facts c.in_ok-fact.ensures.value;
}
