use Rattle.witness_additions.proofs.Spread.{item_step, items_whole}
use Rattle.witness_additions.proofs.spreading.Spreading.add.Goals as goal

pub items-preserved : goal.items-preserved
items-preserved c =
    item_step c.args.gates.now c.args.clauses.now c.items.clauses c.add_item.new.clauses c.items.pending.items c.take_last.new.lits.items c.add_item.new.pending.items c.in-Some.next c.args.lit
    c.in-Some.ensures c.items.invariant c.in_ok-add_item.ensures

pub returns : goal.returns
returns c =
    items_whole c.args.gates.now c.args.clauses.now c.items.clauses c.push_units.new.clauses c.items.pending.items c.deref.result.now c.args.lit
    c.in_ok-push_units.ensures c.deref.ensures.value c.items.invariant
