use Rattle.lrat.proofs.Fit.{err_gives, if_err}
use Rattle.checker2.specs.Accepted.{cases}
use Rattle.checker2.specs.Causes.{IsCaseFault, IsSectionFault, lemma_sections}
use Rattle.checker2.proofs.Accepted.{case_fault, if_on_ok}
use Rattle.checker2.proofs.sections.check_sections.Goals as goal

pub returns-in_err-shared-clause-err : goal.returns-in_err-shared-clause-err
returns-in_err-shared-clause-err c =
    err_gives (IsSectionFault c.args.circuit.now c.args.bad c.args.certificate.now) _ c.in_err-shared.field-0.0 c.from_residual.ensures.1 (c.in_err-shared.ensures.refused c.args.bad)

pub returns-in_err-check_initial-clause-err : goal.returns-in_err-check_initial-clause-err
returns-in_err-check_initial-clause-err c =
    err_gives (IsSectionFault c.args.circuit.now c.args.bad c.args.certificate.now) _ c.in_err-check_initial.field-0.0 c.from_residual-in_err-check_initial.ensures.1
    (case_fault c.args.circuit.now c.args.bad c.args.certificate.now c.in_ok-shared.shared.base c.in_ok-shared.ensures.shared c.in_err-check_initial.field-0.0
    (c.in_err-check_initial.ensures.err c.in_ok-shared.shared.base c.args.bad))

pub check_others-requires-clause-initial : goal.check_others-requires-clause-initial
check_others-requires-clause-initial c = c.in_ok-check_initial.ensures.ok c.in_ok-shared.shared.base c.args.bad

pub returns-clause-ok : goal.returns-clause-ok
returns-clause-ok c =
    if_on_ok c.check_others.result c.check_others.ensures.ok (λ refute. (c.in_ok-shared.shared.base, c.in_ok-shared.ensures.shared, refute))

pub returns-clause-err : goal.returns-clause-err
returns-clause-err c =
    let b = c.in_ok-shared.shared.base in
    if_err (IsCaseFault (lemma_sections c.args.certificate.now.lemmas) (cases c.args.circuit.now b c.args.certificate.now.invariant c.args.bad) c.args.certificate.now.sections)
    (IsSectionFault c.args.circuit.now c.args.bad c.args.certificate.now) c.check_others.result
    (λ e fault. case_fault c.args.circuit.now c.args.bad c.args.certificate.now b c.in_ok-shared.ensures.shared e fault) c.check_others.ensures.err
