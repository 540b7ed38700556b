use Rattle.std.proofs.Common.{◌≡◌, ◌∙◌, get_or, sym, ap, subst, List}
use Rattle.std.proofs.lemmas.List.{get_or_default}
use Rattle.ic3_frames.specs.Frames.{IsStateClause}
use Rattle.states.specs.declared.state_lit.StateLit.{StateLit}
use Rattle.ic3_blocking.specs.declared.obligation.Obligation.{Obligation}
use Rattle.ic3_blocking.specs.declared.blocking.Blocking.TheVariants.{Predecessor}
use Rattle.ic3_blocking.specs.Answers.{IsObligation, IsBlocking}
use Rattle.ic3_blocking.proofs.frame_solver.FrameSolver.block_queued.Goals as goal

pub block-requires-clause-clause : goal.block-requires-clause-clause
block-requires-clause-clause g c =
    let m = c.args.circuit.now in
    let here : IsObligation m c.index.result.now = subst (IsObligation m) (sym c.index.ensures) (c.requires.obligations.each c.args.queued.1 c.index.result.now c.requires.index) in
    subst (IsStateClause m) (sym c.as_slice-clause.ensures) here.clause

pub add_before-requires-clause-at : goal.add_before-requires-clause-at
add_before-requires-clause-at g c = λ d.
    let m = c.args.circuit.now in
    let os = c.args.obligations.now.found.items in
    let index = c.args.queued.1 in
    let a = c.index.result.now in
    let same : a ≡ get_or os index d = c.index.ensures ∙ get_or_default os index a d c.requires.index in
    let clause : c.as_slice-clause.result.now ≡ (get_or os index d).clause = c.as_slice-clause.ensures ∙ ap (λ (o : Obligation). o.clause) same in
    let entries = c.block.new.frames.entries in
    let level = c.args.queued.0 in
    subst (λ (cs : List StateLit). IsBlocking m entries level cs c.block.new.budget (Predecessor c.in-Predecessor.time)) clause
    (subst (IsBlocking m entries level c.as_slice-clause.result.now c.block.new.budget) c.in-Predecessor.is c.in_ok-block.ensures.lawful)
