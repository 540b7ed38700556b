use Rattle.std.proofs.Common.{◌∙◌, ◌<◌, ap, sym, subst, length, Bool, List, All}
use Rattle.graph.specs.declared.circuit.Latch.{Latch}
use Rattle.graph.specs.WellFormed.{IsModel}
use Rattle.states.specs.declared.state_lit.StateLit.{StateLit}
use Rattle.states.specs.States.{Denies}
use Rattle.ic3_frames.specs.Clauses.{IsResetLit}
use Rattle.ic3_frames.specs.Resets.{HasResets}
use Rattle.ic3_blocking.specs.declared.obligation.Obligation.{Obligation}
use Rattle.ic3_blocking.specs.Answers.{IsObligation, IsWay}
use Rattle.ic3_blocking.proofs.Shown.{run_found}
use Rattle.ic3_blocking.proofs.run.run_of.Goals as goal

pub returns : goal.returns
returns c = λ f after.
    let m = c.args.circuit.now in
    let o = c.index-found-from.result in
    let s = c.in_ok-initial.initial in
    let model : IsModel m c.order.result.now = record { well_formed = c.well_formed-2.ensures; ordered = c.order.ensures } in
    let here : IsObligation m o = subst (IsObligation m) (sym c.index-found-from.is) (c.requires.obligations.each c.args.from o c.requires.from) in
    let set = subst (λ (p : Obligation). All (λ (a : StateLit). IsResetLit m.latches a → ⊥) p.clause) (sym c.index-found-from.is) (c.requires.initial o) in
    let inside : All (λ (a : StateLit). a.latch < length c.latches.result.now) o.clause = subst (λ (ls : List Latch). All (λ (a : StateLit). a.latch < length ls) o.clause) (sym c.latches.ensures) here.clause.inside in
    let free : All (λ (a : StateLit). IsResetLit c.latches.result.now a → ⊥) o.clause =
    subst (λ (ls : List Latch). All (λ (a : StateLit). IsResetLit ls a → ⊥) o.clause) (sym c.latches.ensures) set in
    let first : Denies s o.clause = c.in_ok-initial.ensures.denies o.clause (subst (λ (q : List Bool). Denies q o.clause) (sym c.as_slice.ensures) here.denies) inside free in
    let way : IsWay m o c.in_ok-inputs.inputs = subst (λ (p : Obligation). IsWay m p c.in_ok-inputs.inputs) (sym c.index-found-from.is) (c.in_ok-inputs.ensures m o c.requires.obligations) in
    run_found m c.order.result.now o way.0 s c.in_ok-inputs.inputs f after model c.requires.for_bad way.2 way.3
    (c.in_ok-initial.ensures.long ∙ ap length c.latches.ensures) (subst (λ (ls : List Latch). HasResets ls s) c.latches.ensures c.in_ok-initial.ensures.resets) first way.1
