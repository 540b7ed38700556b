use Rattle.witness_additions.proofs.Spread.{item_both}
use Rattle.witness_additions.proofs.spreading.Spreading.add_item.Goals as goal

pub returns-in_ok-push-in-Some-2 : goal.returns-in_ok-push-in-Some-2
returns-in_ok-push-in-Some-2 c =
    item_both c.args.gates.now c.args.clauses.now c.args.pending.now.items c.push.new.to.items c.push-in-Some.new.to.items c.args.lit c.in-Some.sides.0 c.in-Some.sides.1
    c.in_ok-push-in-Some.ensures.items c.in_ok-push-in-Some-2.ensures.items c.in-Some.ensures
