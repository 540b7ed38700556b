use Rattle.std.proofs.Common.{rules, ◌≡◌, ◌++◌, [], ◌∷◌, map, subst, ap, ◌∙◌, SFits, w32}
use Rattle.lrat.proofs.Fit.{err_gives, read32}
use Rattle.cnf.specs.Clauses.{bad_units, step_units}
use Rattle.cnf.specs.Formulas.{bad_formula, shared_formula}
use Rattle.cdcl_log.specs.Logged.{with_units}
use Rattle.certify.specs.ProveErrors.{IsProveError}
use Rattle.certify.specs.Sections.{AreProofs, case_with}
use Rattle.certify.specs.declared.counterexample.Case.TheVariants.{Bad}
use Rattle.certify.proofs.Closed.{others_are, shared_of}
use Rattle.certify.proofs.Pairs.{case_is}
use Rattle.certify.proofs.Stopped.{halt_of}
use Rattle.certify.proofs.proving.close_others.Goals as goal

pub returns-in_err-close_steps-clause-halted : goal.returns-in_err-close_steps-clause-halted
returns-in_err-close_steps-clause-halted c =
    err_gives (IsProveError c.args.circuit.now c.args.invariant.now c.args.bad c.close_steps.new.budget) _ c.in_err-close_steps.field-0.0 c.from_residual-in_err-close_steps.ensures.1
    (c.in_err-close_steps.ensures.halted c.args.bad)

pub returns-in_err-close-clause-halted : goal.returns-in_err-close-clause-halted
returns-in_err-close-clause-halted c =
    let m = c.args.circuit.now in
    let inv = c.args.invariant.now in
    let fits : SFits w32 c.bad_unit.result = search rules in
    let units : c.in_ok-units.units ≡ bad_units m c.args.bad = c.in_ok-units.ensures ∙ ap (λ x. x ∷ []) (read32 _ fits) ∙ ap (λ x. x ∷ []) c.bad_unit.ensures.unit in
    let case : with_units c.close_steps.new.cases.refuter.formula c.in_ok-units.units ≡ bad_formula m inv c.args.bad =
    case_is c.close_steps.new.cases.refuter.formula (shared_formula m inv) c.in_ok-units.units (bad_units m c.args.bad) (search rules) units in
    err_gives (IsProveError m inv c.args.bad c.close.new.budget) _ c.in_err-close.field-0.0 c.from_residual-in_err-close.ensures.1
    (halt_of m inv c.args.bad Bad _ c.close.new.budget c.in_err-close.field-0.0 tt case c.in_err-close.ensures.halted)

pub returns-clause-proved : goal.returns-clause-proved
returns-clause-proved c =
    let m = c.args.circuit.now in
    let inv = c.args.invariant.now in
    let a = c.args.bad in
    let fits : SFits w32 c.bad_unit.result = search rules in
    let unit : c.in_ok-units.units ≡ bad_units m a = c.in_ok-units.ensures ∙ ap (λ x. x ∷ []) (read32 _ fits) ∙ ap (λ x. x ∷ []) c.bad_unit.ensures.unit in
    let units : c.close.new.self.units ≡ map (step_units m) inv ++ bad_units m a ∷ [] =
    c.in_ok-close.ensures.one_more ∙ ap (λ uss. uss ++ c.in_ok-units.units ∷ []) c.in_ok-close_steps.ensures.units ∙ ap (λ us. map (step_units m) inv ++ us ∷ []) unit in
    let loaded : c.close.new.self.refuter.formula ≡ shared_formula m inv = search rules in
    let p = c.in_ok-write.ensures.proved in (
      p.0,
      shared_of m inv c.close.new.self.refuter.formula c.in_ok-write.field-0 p.0 loaded p.1,
      λ cs are. subst (λ ks. AreProofs ks c.write.new.sections) (ap (λ uss. cs ++ map (case_with p.0) uss) units ∙ others_are m p.0 inv a cs) (p.2 cs are),
    )
