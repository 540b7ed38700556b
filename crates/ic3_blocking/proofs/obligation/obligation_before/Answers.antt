use Rattle.std.proofs.Common.{◌≡◌, ◌∙◌, ap, sym, subst, map, List}
use Rattle.graph.specs.declared.circuit.Lit.{Lit}
use Rattle.graph.specs.declared.circuit.Latch.{Latch}
use Rattle.ic3_step.specs.States.{AllSet, IsAt}
use Rattle.ic3_step.specs.Steps.{denial}
use Rattle.ic3_step.proofs.Denied.{nexts_small, denials_known}
use Rattle.ic3_blocking.proofs.Lifted.{denials_set, predecessors_by}
use Rattle.ic3_blocking.proofs.obligation.obligation_before.Goals as goal

pub denials-requires-clause-small : goal.denials-requires-clause-small
denials-requires-clause-small c = nexts_small c.args.circuit.now c.latches.result.now c.well_formed-2.ensures c.latches.ensures

pub lift-requires-clause-at : goal.lift-requires-clause-at
lift-requires-clause-at c =
    let m = c.args.circuit.now in
    let clause = c.args.after.now.clause in
    let are : c.as_slice-2.result.now ≡ map (denial m.latches) clause =
    c.as_slice-2.ensures ∙ c.in_ok-targets.ensures ∙ ap (λ (ls : List Latch). map (denial ls) c.as_slice.result.now) c.latches.ensures ∙ ap (map (denial m.latches)) c.as_slice.ensures in
    let at = c.requires.at in
    (at.0, subst (λ (lits : List Lit). IsAt m lits at.0 c.args.time) (sym are) at.1, subst (AllSet at.0) (sym are) (denials_set m at.0 clause c.requires.clause.inside at.2))

pub lift-requires-clause-known : goal.lift-requires-clause-known
lift-requires-clause-known c =
    let m = c.args.circuit.now in
    let clause = c.args.after.now.clause in
    let are : c.as_slice-2.result.now ≡ map (denial m.latches) clause =
    c.as_slice-2.ensures ∙ c.in_ok-targets.ensures ∙ ap (λ (ls : List Latch). map (denial ls) c.as_slice.result.now) c.latches.ensures ∙ ap (map (denial m.latches)) c.as_slice.ensures in
    denials_known m clause c.as_slice-2.result.now c.well_formed-2.ensures c.requires.clause.inside are

pub returns-clause-predecessors : goal.returns-clause-predecessors
returns-clause-predecessors c =
    let m = c.args.circuit.now in
    let clause = c.args.after.now.clause in
    let are : c.as_slice-2.result.now ≡ map (denial m.latches) clause =
    c.as_slice-2.ensures ∙ c.in_ok-targets.ensures ∙ ap (λ (ls : List Latch). map (denial ls) c.as_slice.result.now) c.latches.ensures ∙ ap (map (denial m.latches)) c.as_slice.ensures in
    predecessors_by m c.in_ok-clause.clause c.args.time.inputs clause c.as_slice-2.result.now c.requires.clause.inside are c.in_ok-clause.ensures.justifies
