use Rattle.std.proofs.Common.{[], map}
use Rattle.checker2.specs.Accepted.{init_case}
use Rattle.lrat.proofs.Fit.{err_gives}
use Rattle.certify.specs.ProveErrors.{IsProveError}
use Rattle.certify.specs.Sections.{AreProofs}
use Rattle.certify.proofs.Pairs.{none_yet}
use Rattle.certify.proofs.proving.prove_cases.Goals as goal

pub returns-in_err-prove_initial-clause-halted : goal.returns-in_err-prove_initial-clause-halted
returns-in_err-prove_initial-clause-halted c =
    err_gives (IsProveError c.args.circuit.now c.args.invariant.now c.args.bad c.prove_initial.new.budget) _ c.in_err-prove_initial.field-0.0 c.from_residual.ensures.1
    (c.in_err-prove_initial.ensures.halted c.args.bad)

pub returns-clause-proved : goal.returns-clause-proved
returns-clause-proved c =
    let m = c.args.circuit.now in
    let inv = c.args.invariant.now in
    let p = c.in_ok-lemmas.ensures.proved in
    let initial : AreProofs (map (init_case m) inv) c.prove_initial.new.sections = c.in_ok-prove_initial.ensures.proved [] (rw c.new-sections.ensures none_yet) in
    (p.0, p.1, p.2 (map (init_case m) inv) initial)
