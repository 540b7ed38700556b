use Rattle.std.proofs.Common.{arith, map, sym, ◌∙◌}
use Rattle.std.proofs.lemmas.List.{get_or-map, length-map}
use Rattle.graph.specs.Circuits.{variable}
use Rattle.graph.proofs.Filled.{Written-all, Written-at}
use Rattle.simulate.specs.Lanes.{row_of}
use Rattle.simulate.proofs.WideLaws.{written_in}
use Rattle.simulate.proofs.evaluation.fill_inputs.Goals as goal

pub loop-i-preserved : goal.loop-i-preserved
loop-i-preserved c r =
    written_in (map variable c.args.lits.now) c.args.values.now c.args.out.now c.loop-i.out r c.loop-i.i c.variable.result
    (omega (arith, length-map c.args.lits.now variable)) (omega arith) c.requires.once
    (get_or-map variable c.args.lits.now c.loop-i.i _ 0 (omega arith) ∙ sym c.variable.ensures) (let h = c.requires.in_range c.loop-i.i record { 0 = 0 } (omega arith) in omega (arith, h))
    (c.loop-i.invariant r)

pub returns-clause-written : goal.returns-clause-written
returns-clause-written c r = Written-at variable c.args.lits.now _ _ (row_of r c.loop-i.out) _ (omega arith) (c.loop-i.invariant r)

pub returns-clause-kept : goal.returns-clause-kept
returns-clause-kept c r = Written-all _ _ _ (row_of r c.loop-i.out) _ (omega (arith, length-map c.args.lits.now variable)) (c.loop-i.invariant r)
