use Rattle.witness_additions.proofs.Spread.{part_denied, part_other}
use Rattle.witness_additions.proofs.spreading.add_part.Goals as goal

pub returns-in_ok-push-in-Some-2 : goal.returns-in_ok-push-in-Some-2
returns-in_ok-push-in-Some-2 c =
    part_denied c.args.gates.now c.args.clause.now.items c.args.pending.now.items c.push.new.to.items c.push-in-Some.new.to.items
    c.args.lit c.flipped.result c.in-Some.gate.rhs0 c.in-Some.gate.rhs1 c.flipped-in-Some.result c.flipped-in-Some-2.result
    c.in_ok-push-in-Some.ensures.items c.in_ok-push-in-Some-2.ensures.items c.flipped-in-Some.ensures c.flipped-in-Some-2.ensures c.flipped.ensures c.in-Some.ensures

pub returns-in_ok-push-in-None : goal.returns-in_ok-push-in-None
returns-in_ok-push-in-None c =
    part_other c.args.gates.now c.args.clause.now.items c.args.pending.now.items c.push-in-None.new.to.items c.args.lit c.in_ok-push-in-None.ensures.items
