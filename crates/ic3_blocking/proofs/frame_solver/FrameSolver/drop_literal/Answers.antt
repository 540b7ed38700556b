use Rattle.std.proofs.Common.{List, not, ◌==◌, inl, inr, All, Contains, sym, subst}
use Rattle.graph.specs.declared.circuit.Latch.{Latch}
use Rattle.graph.specs.Circuits.{Valuation, next_state}
use Rattle.states.specs.declared.state_lit.StateLit.{StateLit}
use Rattle.states.specs.States.{Denies, IsPartOf}
use Rattle.ic3_step.specs.States.{IsAt}
use Rattle.ic3_step.specs.Steps.{denials_of}
use Rattle.ic3_blocking.specs.Answers.{IsInductiveAnswer}
use Rattle.ic3_frames.specs.Clauses.{IsResetLit}
use Rattle.ic3_frames.specs.Frames.{IsStateClause}
use Rattle.ic3_blocking.proofs.Literals.{picked_part, without_clause}
use Rattle.ic3_blocking.proofs.Tried.{needed_initially, needed_onward, part_lacks}
use Rattle.ic3_blocking.proofs.frame_solver.FrameSolver.drop_literal.Goals as goal

pub inductive-requires-clause-clause : goal.inductive-requires-clause-clause
inductive-requires-clause-clause g c =
    let m = c.args.circuit.now in
    subst (IsStateClause m) (sym c.as_slice-shorter.ensures) (without_clause m c.in_ok-shorter.shorter c.args.clause.now _ c.in_ok-shorter.ensures c.requires.clause)

pub returns-in-Held-clause-lawful : goal.returns-in-Held-clause-lawful
returns-in-Held-clause-lawful g c =
    let m = c.args.circuit.now in
    let es = c.args.frames.now.entries in
    let law = subst (IsInductiveAnswer m es c.args.level c.as_slice-shorter.result.now c.inductive.new.budget) c.in-Held.is c.in_ok-part.ensures.lawful in
    let shorter : IsPartOf c.in_ok-shorter.shorter c.args.clause.now = picked_part c.in_ok-shorter.shorter c.args.clause.now ((λ (a : StateLit). not (a.latch == c.args.latch)), c.in_ok-shorter.ensures) in
    (law.0, λ a found. shorter a (subst (λ (xs : List StateLit). Contains xs a) c.as_slice-shorter.ensures (law.1 a found)))

pub returns-in_default-clause-none : goal.returns-in_default-clause-none
returns-in_default-clause-none g c = λ same.
    let m = c.args.circuit.now in
    let shorter = c.in_ok-shorter.shorter in
    let none = subst (λ (ls : List Latch). All (λ (a : StateLit). IsResetLit ls a → ⊥) c.as_slice.result.now) c.latches.ensures (c.reset_literal.ensures.none c.in_default.is) in
    let here = subst (All (λ (a : StateLit). IsResetLit m.latches a → ⊥)) c.as_slice.ensures none in
    inr (inl (needed_initially m c.args.clause.now shorter c.args.latch c.in_ok-shorter.ensures here))

pub returns-in-Held-clause-without : goal.returns-in-Held-clause-without
returns-in-Held-clause-without g c =
    let m = c.args.circuit.now in
    let es = c.args.frames.now.entries in
    let law = subst (IsInductiveAnswer m es c.args.level c.as_slice-shorter.result.now c.inductive.new.budget) c.in-Held.is c.in_ok-part.ensures.lawful in
    part_lacks c.args.clause.now c.in_ok-shorter.shorter c.in-Held.part c.args.latch c.in_ok-shorter.ensures
    (λ a found. subst (λ (xs : List StateLit). Contains xs a) c.as_slice-shorter.ensures (law.1 a found))

pub returns-in-Broken-clause-none : goal.returns-in-Broken-clause-none
returns-in-Broken-clause-none g c = λ same.
    let m = c.args.circuit.now in
    let es = c.args.frames.now.entries in
    let t = c.in-Broken.field-0 in
    let law = subst (IsInductiveAnswer m es c.args.level c.as_slice-shorter.result.now c.inductive.new.budget) c.in-Broken.is c.in_ok-part.ensures.lawful in
    let here = subst (λ (xs : List StateLit). (w : Valuation) × IsAt m (denials_of m.latches xs) w t × Denies (next_state m w) xs) c.as_slice-shorter.ensures law in
    inr (inl (needed_onward m c.args.clause.now c.in_ok-shorter.shorter c.args.latch t c.in_ok-shorter.ensures here))
