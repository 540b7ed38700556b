use Rattle.std.proofs.Common.{arith, refl, map, sym, ◌∙◌}
use Rattle.std.proofs.lemmas.List.{get_or-map, length-map}
use Rattle.graph.specs.Circuits.{variable}
use Rattle.graph.proofs.Filled.{Written-more, Written-all, Written-at}
use Rattle.graph.proofs.fill.fill_inputs.Goals as goal

pub loop-i-preserved : goal.loop-i-preserved
loop-i-preserved c =
    Written-more (map variable c.args.lits.now) c.args.values.now c.args.out.now c.loop-i.out c.loop-i.i _ _
    (omega (arith, length-map c.args.lits.now variable)) c.requires.once
    (get_or-map variable c.args.lits.now c.loop-i.i _ 0 (omega arith) ∙ sym c.variable.ensures) (let h = c.requires.in_range c.loop-i.i record { 0 = 0 } (omega arith) in omega (arith, h)) refl c.loop-i.invariant

pub returns-clause-written : goal.returns-clause-written
returns-clause-written c = Written-at variable c.args.lits.now _ _ _ _ (omega arith) c.loop-i.invariant

pub returns-clause-kept : goal.returns-clause-kept
returns-clause-kept c = Written-all _ _ _ _ _ (omega (arith, length-map c.args.lits.now variable)) c.loop-i.invariant
