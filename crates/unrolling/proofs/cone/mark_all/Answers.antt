use Rattle.std.proofs.Common.{◌∷◌, [], subst}
use Rattle.graph.specs.declared.circuit.Lit.{Lit}
use Rattle.cones.specs.Reach.{Grows}
use Rattle.cones.proofs.Growing.{grows_more}
use Rattle.unrolling.proofs.cone.mark_all.Goals as goal

pub loop-lit-preserved : goal.loop-lit-preserved
loop-lit-preserved c =
    let blank : Lit = record { 0 = 0 } in
    let grows = subst (λ q. Grows (q ∷ []) c.loop-lit.marks c.loop-lit.list.items c.mark.new.marks c.mark.new.list.items) c.variable.ensures c.in_ok-mark.ensures in
    grows_more c.args.lits.now c.loop-lit.lit-index blank _ _ _ _ _ _ c.loop-lit-test.true c.loop-lit.invariant grows
