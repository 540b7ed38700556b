use Rattle.std.proofs.Common.{All, Contains, ap, subst}
use Rattle.ic3_frames.specs.FailedPushes.{clauses_of}
use Rattle.states.specs.declared.state_lit.StateLit.{StateLit}
use Rattle.ic3_frames.specs.Clauses.{IsResetLit, IsResetEntry, reset_entry}
use Rattle.ic3_frames.proofs.Begun.{level_zero, first_laws, first_initial}
use Rattle.ic3_frames.proofs.frames.Frames.first.Goals as goal

pub returns-clause-level : goal.returns-clause-level
returns-clause-level c =
    level_zero c.args.circuit.now c.in_ok-entries.entries.items (subst (λ ls. All (IsResetEntry ls) c.in_ok-entries.entries.items) c.latches.ensures c.in_ok-entries.ensures.only)

pub returns-clause-laws : goal.returns-clause-laws
returns-clause-laws c = λ bad.
    first_laws c.args.circuit.now bad c.in_ok-entries.entries.items (clauses_of c.new-failed_pushes.result.items.items) (ap clauses_of c.new-failed_pushes.ensures) (subst (λ ls. All (IsResetEntry ls) c.in_ok-entries.entries.items) c.latches.ensures c.in_ok-entries.ensures.only)

pub returns-clause-initial : goal.returns-clause-initial
returns-clause-initial c =
    first_initial c.args.circuit.now c.in_ok-entries.entries.items
    (subst (λ ls. (a : StateLit) → IsResetLit ls a → Contains c.in_ok-entries.entries.items (reset_entry a)) c.latches.ensures c.in_ok-entries.ensures.each)
