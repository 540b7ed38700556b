use Rattle.witness_additions.proofs.Spread.{clause_step, clause_whole}
use Rattle.witness_additions.proofs.spreading.clause_of.Goals as goal

pub parts-preserved : goal.parts-preserved
parts-preserved c =
    clause_step c.args.gates.now c.parts.clause.items c.parts.pending.items c.take_last.new.lits.items c.add_part.new.pending.items c.in-Some.next c.args.lit c.add_part.new.clause.items
    c.in-Some.ensures c.parts.invariant c.in_ok-add_part.ensures

pub returns : goal.returns
returns c =
    clause_whole c.args.gates.now c.parts.clause.items c.parts.pending.items c.extend.new.to.items c.deref.result.now c.args.lit
    c.in_ok-extend.ensures.items c.deref.ensures.value c.parts.invariant
