use Rattle.std.proofs.Common.{◌&&◌, ◌∙◌, ap}
use Rattle.witness_circuits.specs.Witnesses.{are_true}
use Rattle.witness_additions.proofs.Spread.{early_more, late_more}
use Rattle.witness_additions.proofs.arranging.push_to.Goals as goal

pub returns-in_ok-push : goal.returns-in_ok-push
returns-in_ok-push c = λ w.
    ap (λ q. are_true w c.args.early.now && are_true w q) c.in_ok-push.ensures.ok ∙ late_more w c.args.early.now c.args.late.now c.args.clause.now

pub returns-in_ok-push-2 : goal.returns-in_ok-push-2
returns-in_ok-push-2 c = λ w.
    ap (λ q. are_true w q && are_true w c.args.late.now) c.in_ok-push-2.ensures.ok ∙ early_more w c.args.early.now c.args.late.now c.args.clause.now
