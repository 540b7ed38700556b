use Rattle.std.proofs.Common.{◌≡◌, ◌<◌, ◌+◌, ◌∙◌, ◌++◌, ◌∷◌, [], ℕ, length, get_or, sym, ap, subst, arith, List}
use Rattle.std.proofs.lemmas.List.{get_or_default, length-append}
use Rattle.graph.specs.Circuits.{Valuation, next_state}
use Rattle.ic3_step.specs.States.{IsAt}
use Rattle.states.specs.States.{Denies}
use Rattle.ic3_step.specs.Steps.{denials_of}
use Rattle.ic3_blocking.specs.declared.obligation.Obligation.{Obligation}
use Rattle.ic3_blocking.specs.Cubes.{ArePredecessors}
use Rattle.ic3_blocking.specs.Queue.{AreQueued}
use Rattle.ic3_blocking.specs.Answers.{IsObligation, AreObligations}
use Rattle.ic3_blocking.proofs.Obligations.{obligations_before, queued_more}
use Rattle.ic3_blocking.proofs.proof_obligations.Obligations.add_before.Goals as goal

pub obligation_before-requires-clause-clause : goal.obligation_before-requires-clause-clause
obligation_before-requires-clause-clause c =
    let here : IsObligation c.args.circuit.now c.index-after.result.now =
    subst (IsObligation c.args.circuit.now) (sym c.index-after.ensures) (c.requires.obligations.each c.args.queued.1 c.index-after.result.now c.requires.index) in
    here.clause

pub obligation_before-requires-clause-at : goal.obligation_before-requires-clause-at
obligation_before-requires-clause-at c =
    let m = c.args.circuit.now in
    let t = c.args.time in
    subst (λ (o : Obligation). (w : Valuation) × IsAt m (denials_of m.latches o.clause) w t × Denies (next_state m w) o.clause) (sym c.index-after.ensures) (c.requires.at c.index-after.result.now)

pub returns-clause-obligations : goal.returns-clause-obligations
returns-clause-obligations c =
    let m = c.args.circuit.now in
    let os = c.args.self.now.found.items in
    let index = c.args.queued.1 in
    let after = c.index-after.result.now in
    let before = c.in_ok-before.before in
    let made = c.in_ok-before.ensures in
    let lead : (d : Obligation) → ArePredecessors m before.clause before.inputs (get_or os index d).clause =
    λ d. subst (λ (p : Obligation). ArePredecessors m before.clause before.inputs p.clause) (c.index-after.ensures ∙ get_or_default os index after d c.requires.index) made.predecessors in
    subst (AreObligations m) (sym c.in_ok-push.ensures.items) (obligations_before m os before index c.requires.obligations c.requires.index made.obligation lead made.next)

pub returns-clause-queued : goal.returns-clause-queued
returns-clause-queued c =
    let os = c.args.self.now.found.items in
    let n = length os in
    let long : length c.push.new.to.items ≡ n + 1 = ap length c.in_ok-push.ensures.items ∙ length-append os (c.in_ok-before.before ∷ []) in
    let whole : AreQueued (n + 1) c.args.self.now.queue = queued_more n (n + 1) c.args.self.now.queue (omega arith) c.requires.queued in
    let first : AreQueued (n + 1) c.add.new.self = c.in_ok-add.ensures.queued (n + 1) whole (omega (arith, c.requires.index)) in
    let second = c.in_ok-add-2.ensures.queued (n + 1) first (omega (arith, c.len-place.ensures)) in
    subst (λ (k : ℕ). AreQueued k c.add-2.new.self) (sym long) second
