use Rattle.lrat.proofs.Fit.{err_gives}
use Rattle.inductive_proofs.specs.ProveErrors.{IsProveError}
use Rattle.inductive_proofs.proofs.proving.prove_whole.Goals as goal

pub returns-in_err-first-clause-halted : goal.returns-in_err-first-clause-halted
returns-in_err-first-clause-halted c =
    let s = c.args.subject.now in
    err_gives (IsProveError s.circuit c.args.invariant.now s.bad c.prove_first.new.budget) _ c.in_err-first.field-0.0 c.from_residual.ensures.1 (c.in_err-first.ensures.halted s.bad)

pub returns-in_err-step-clause-halted : goal.returns-in_err-step-clause-halted
returns-in_err-step-clause-halted c =
    let s = c.args.subject.now in
    err_gives (IsProveError s.circuit c.args.invariant.now s.bad c.prove_step.new.budget) _ c.in_err-step.field-0.0 c.from_residual-in_err-step.ensures.1 (c.in_err-step.ensures.halted s.bad)
