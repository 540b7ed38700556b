use Rattle.graph.specs.declared.circuit.Lit.{Lit}
use Rattle.witness_additions.proofs.Spread.{lits_more}
use Rattle.witness_additions.proofs.spreading.Spreading.found.Goals as goal

pub loop-lit-preserved : goal.loop-lit-preserved
loop-lit-preserved c =
    let blank : Lit = record { 0 = 0 } in
    lits_more c.args.gates.now c.loop-lit.clauses c.add.new.clauses c.args.lits.now c.loop-lit.lit-index blank c.loop-lit-test.true c.loop-lit.invariant c.in_ok-add.ensures
