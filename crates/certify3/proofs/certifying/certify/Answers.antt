use Rattle.std.proofs.Common.{refl}
use Rattle.lrat.proofs.Fit.{err_gives, if_err}
use Rattle.certify3.specs.Causes.{HasCause, IsLate, IsUnspent}
use Rattle.certify3.proofs.Outcomes.{certified_by, early_unspent, fault_cause, halted_late, late_cause, late_unspent, memory_late, subject_cause}
use Rattle.certify3.proofs.Stopped.{halted_is, honest}
use Rattle.certify3.proofs.certifying.certify.Goals as goal

pub returns-in_err-subject-clause-refused : goal.returns-in_err-subject-clause-refused
returns-in_err-subject-clause-refused c =
    let m = c.args.circuit.now in
    let ls = c.args.extension.latches.now in let gs = c.args.extension.gates.now in
    let inv = c.args.invariant in
    err_gives (HasCause m c.args.claim ls gs inv) _ c.in_err-subject.field-0.0 c.from_residual.ensures.1 (subject_cause m c.args.claim ls gs inv c.in_err-subject.field-0.0 c.in_err-subject.ensures.refused)

pub returns-in_err-subject-clause-unspent : goal.returns-in_err-subject-clause-unspent
returns-in_err-subject-clause-unspent c =
    err_gives (IsUnspent c.args.budget.now c.args.budget.now) _ c.in_err-subject.field-0.0 c.from_residual.ensures.1 (early_unspent c.args.budget.now c.args.budget.now c.in_err-subject.field-0.0 refl)

pub returns-in_err-examine-clause-refused : goal.returns-in_err-examine-clause-refused
returns-in_err-examine-clause-refused c =
    let m = c.args.circuit.now in
    let ls = c.args.extension.latches.now in let gs = c.args.extension.gates.now in
    let inv = c.args.invariant in
    err_gives (HasCause m c.args.claim ls gs inv) _ c.in_err-examine.field-0.0 c.from_residual-in_err-examine.ensures.1
    (fault_cause m c.args.claim ls gs inv c.in_ok-subject.subject c.in_err-examine.field-0.0 c.in_ok-subject.ensures.subject c.in_err-examine.ensures.refused)

pub returns-in_err-examine-clause-unspent : goal.returns-in_err-examine-clause-unspent
returns-in_err-examine-clause-unspent c =
    err_gives (IsUnspent c.args.budget.now c.args.budget.now) _ c.in_err-examine.field-0.0 c.from_residual-in_err-examine.ensures.1 (early_unspent c.args.budget.now c.args.budget.now c.in_err-examine.field-0.0 refl)

pub returns-in-Ok-clause-certified : goal.returns-in-Ok-clause-certified
returns-in-Ok-clause-certified c =
    certified_by c.args.circuit.now c.args.claim c.args.extension.latches.now c.args.extension.gates.now c.args.invariant c.prove.new.budget c.judged.result c.judged.ensures.certified

pub returns-in-Ok-clause-honest : goal.returns-in-Ok-clause-honest
returns-in-Ok-clause-honest c =
    let m = c.args.circuit.now in
    let ls = c.args.extension.latches.now in let gs = c.args.extension.gates.now in
    honest m c.args.claim ls gs c.args.invariant c.prove.new.budget c.judged.result (certified_by m c.args.claim ls gs c.args.invariant c.prove.new.budget c.judged.result c.judged.ensures.certified)

pub returns-in-Ok-clause-refused : goal.returns-in-Ok-clause-refused
returns-in-Ok-clause-refused c =
    let m = c.args.circuit.now in
    let ls = c.args.extension.latches.now in let gs = c.args.extension.gates.now in
    let inv = c.args.invariant in
    if_err IsLate (HasCause m c.args.claim ls gs inv) c.judged.result (λ e late. late_cause m c.args.claim ls gs inv e late) (memory_late c.judged.result c.judged.ensures.memory)

pub returns-in-Ok-clause-unspent : goal.returns-in-Ok-clause-unspent
returns-in-Ok-clause-unspent c =
    let before = c.args.budget.now in
    let after = c.prove.new.budget in
    if_err IsLate (IsUnspent before after) c.judged.result (λ e late. late_unspent before after e late) (memory_late c.judged.result c.judged.ensures.memory)

pub returns-in-Err-clause-certified : goal.returns-in-Err-clause-certified
returns-in-Err-clause-certified c =
    halted_is c.args.circuit.now c.args.claim c.args.extension.latches.now c.args.extension.gates.now c.args.invariant c.prove.new.budget c.in_ok-subject.subject c.in-Err.halt c.halted.result c.in_ok-subject.ensures.subject c.halted.ensures c.in-Err.ensures.halted

pub returns-in-Err-clause-honest : goal.returns-in-Err-clause-honest
returns-in-Err-clause-honest c =
    let m = c.args.circuit.now in
    let ls = c.args.extension.latches.now in let gs = c.args.extension.gates.now in
    honest m c.args.claim ls gs c.args.invariant c.prove.new.budget c.halted.result
    (halted_is m c.args.claim ls gs c.args.invariant c.prove.new.budget c.in_ok-subject.subject c.in-Err.halt c.halted.result c.in_ok-subject.ensures.subject c.halted.ensures c.in-Err.ensures.halted)

pub returns-in-Err-clause-refused : goal.returns-in-Err-clause-refused
returns-in-Err-clause-refused c =
    let m = c.args.circuit.now in
    let ls = c.args.extension.latches.now in let gs = c.args.extension.gates.now in
    let inv = c.args.invariant in
    if_err IsLate (HasCause m c.args.claim ls gs inv) c.halted.result (λ e late. late_cause m c.args.claim ls gs inv e late) (halted_late c.in-Err.halt c.halted.result c.halted.ensures)

pub returns-in-Err-clause-unspent : goal.returns-in-Err-clause-unspent
returns-in-Err-clause-unspent c =
    let before = c.args.budget.now in
    let after = c.prove.new.budget in
    if_err IsLate (IsUnspent before after) c.halted.result (λ e late. late_unspent before after e late) (halted_late c.in-Err.halt c.halted.result c.halted.ensures)
