use Rattle.std.proofs.Common.{◌+◌, ◌*◌, ◌<◌, ◌≤◌, ◌∙◌, ℕ, Option, IfSome, length, arith, All, subst}
use Rattle.std.proofs.lemmas.List.{length-set}
use Rattle.std.proofs.lemmas.List.Elements.{All-set}
use Rattle.graph.proofs.Evaluation.{latches_in_range}
use Rattle.states.proofs.Defaults.{no_latch}
use Rattle.ic3_blocking.proofs.candidates.positions_of.Goals as goal

pub index_mut-requires : goal.index_mut-requires
index_mut-requires c =
    let ranges : All (λ l. l.lit.0 ≤ 2 * c.args.circuit.now.max_var + 1) c.latches-latch-items.result.now = rw c.latches-latch-items.ensures (latches_in_range c.args.circuit.now c.well_formed-2.ensures) in
    let range = ranges c.placing.i no_latch c.placing-test.true in
    omega (arith, range, c.variable.ensures, c.placing.invariant.0)

pub placing-preserved : goal.placing-preserved
placing-preserved c =
    let n = length c.args.circuit.now.latches in
    let here : c.placing.i < length c.latches-latch-items.result.now = c.placing-test.true in
    let inside : c.placing.i < n = subst (λ ls. c.placing.i < length ls) c.latches-latch-items.ensures here in (
      length-set c.placing.positions.items _ _ ∙ c.placing.invariant.0,
      All-set (λ (p : Option ℕ). IfSome p (λ i. i < n)) c.placing.positions.items _ _ inside c.placing.invariant.1,
    )
