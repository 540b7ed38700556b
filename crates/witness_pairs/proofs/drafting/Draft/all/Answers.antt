use Rattle.std.proofs.Common.{arith}
use Rattle.witness_pairs.proofs.Drafted.{all_last, all_step, goes_on_more}
use Rattle.witness_pairs.proofs.drafting.Draft.all.Goals as goal

pub loop-lit-preserved : goal.loop-lit-preserved
loop-lit-preserved c = record {
  goes_on = goes_on_more _ _ _ _ c.loop-lit.invariant.goes_on c.in_ok-joined.ensures.gate;
  value = all_step c.args.lits.now c.loop-lit.lit-index _ _ _ _ _ c.loop-lit-test.true c.in_ok-joined.ensures.gate c.loop-lit.invariant.value;
}

pub returns-clause-value : goal.returns-clause-value
returns-clause-value c = all_last c.args.lits.now c.loop-lit.lit-index _ _ (omega arith) c.loop-lit.invariant.value
