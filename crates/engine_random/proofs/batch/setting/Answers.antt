use Rattle.std.proofs.Common.{arith}
use Rattle.std.proofs.lemmas.List.{get_or_default}
use Rattle.engine_random.proofs.SettingLaws.{marks_begin, marks_step, marks_end}
use Rattle.engine_random.proofs.batch.setting.Goals as goal

pub loop-lit-init : goal.loop-lit-init
loop-lit-init c = marks_begin c.args.wide.now.now c.args.lits.now c.args.marked

pub loop-lit-preserved : goal.loop-lit-preserved
loop-lit-preserved c =
    marks_step c.args.wide.now.now c.args.lits.now c.args.marked c.loop-lit.set c.both-set.result c.value.result c.loop-lit.lit-index _
    (λ d. get_or_default c.args.lits.now c.loop-lit.lit-index _ d (omega arith)) c.value.ensures c.both-set.ensures c.loop-lit.invariant

pub returns : goal.returns
returns c = marks_end c.args.wide.now.now c.args.lits.now c.args.marked c.loop-lit.set c.loop-lit.lit-index (omega arith) c.loop-lit.invariant
