use Rattle.std.proofs.Common.{rules, ◌≡◌, ◌≤◌, ◌∙◌, ◌++◌, [], get_or, length, map, sym, ap, subst, arith}
use Rattle.graph.specs.declared.circuit.Lit.{Lit}
use Rattle.base.specs.Witness.{witness}
use Rattle.lrat.proofs.Fit.{err_gives}
use Rattle.std.proofs.lemmas.List.{length-map, take_all}
use Rattle.cnf.specs.Clauses.{denial, init_units}
use Rattle.cnf.specs.Formulas.{IsOverLatches, init_formula, start_formula}
use Rattle.cdcl_log.specs.Logged.{with_units}
use Rattle.checker2.specs.Accepted.{init_case}
use Rattle.checker2.proofs.InOrder.{clause_is}
use Rattle.certify.specs.ProveErrors.{IsProveError}
use Rattle.certify.specs.Sections.{AreProofs, case_over}
use Rattle.certify.specs.declared.prove_error.ProveError.TheVariants.{OutOfMemory}
use Rattle.certify.specs.declared.counterexample.Case.TheVariants.{Initial}
use Rattle.certify.proofs.Pairs.{case_is, case_over_is, one_mapped}
use Rattle.certify.proofs.Stopped.{halt_of}
use Rattle.certify.proofs.proving.prove_initial_cases.Goals as goal

pub init_units-requires : goal.init_units-requires
init_units-requires c =
    let inv = c.args.invariant.now in
    let is = clause_is inv c.loop-place.place c.index-invariant-place.result c.as_slice.result.now c.loop-place-test.true c.index-invariant-place.is c.as_slice.ensures in
    subst (IsOverLatches c.args.circuit.now) (sym is) ((c.requires.invariant.clauses c.loop-place.place [] c.loop-place-test.true).over)

pub prove-requires-clause-few : goal.prove-requires-clause-few
prove-requires-clause-few c =
    let m = c.args.circuit.now in
    let inv = c.args.invariant.now in
    let is = clause_is inv c.loop-place.place c.index-invariant-place.result c.as_slice.result.now c.loop-place-test.true c.index-invariant-place.is c.as_slice.ensures in
    let units : c.as_slice-in-loop-place.result.now ≡ init_units m (get_or inv c.loop-place.place []) = c.as_slice-in-loop-place.ensures.value ∙ c.in_ok-units.ensures.units ∙ ap (init_units m) is in
    let long : length c.as_slice-in-loop-place.result.now ≡ length (get_or inv c.loop-place.place []) = ap length units ∙ length-map (get_or inv c.loop-place.place []) (denial m.max_var 0) in
    let short : length (get_or inv c.loop-place.place []) ≤ c.args.refuter.now.room = c.requires.room c.loop-place.place [] c.loop-place-test.true in
    search rules

pub returns-in_err-prove-clause-halted : goal.returns-in_err-prove-clause-halted
returns-in_err-prove-clause-halted c =
    let m = c.args.circuit.now in
    let inv = c.args.invariant.now in
    let clause = clause_is inv c.loop-place.place c.index-invariant-place.result c.as_slice.result.now c.loop-place-test.true c.index-invariant-place.is c.as_slice.ensures in
    let case : with_units c.loop-place.refuter.formula c.as_slice-in-loop-place.result.now ≡ init_formula m (get_or inv c.loop-place.place []) =
    case_is _ (start_formula m) _ (init_units m (get_or inv c.loop-place.place [])) (search rules) (search rules) in
    err_gives (λ h. (a : Lit) → IsProveError m inv a c.prove.new.budget h) _ c.in_err-prove.field-0.0 c.from_residual-in_err-prove.ensures.1
    (λ a. halt_of m inv a (Initial c.loop-place.place) _ c.prove.new.budget c.in_err-prove.field-0.0 c.loop-place-test.true case c.in_err-prove.ensures.halted)

pub loop-place-preserved : goal.loop-place-preserved
loop-place-preserved c =
    let m = c.args.circuit.now in
    let inv = c.args.invariant.now in
    let clause = clause_is inv c.loop-place.place c.index-invariant-place.result c.as_slice.result.now c.loop-place-test.true c.index-invariant-place.is c.as_slice.ensures in
    let case : case_over c.loop-place.refuter.formula c.as_slice-in-loop-place.result.now ≡ init_case m (get_or inv c.loop-place.place []) =
    case_over_is _ (start_formula m) _ (init_units m (get_or inv c.loop-place.place [])) (search rules) (search rules) in
    record {
      same = search rules;
      spends = search rules;
      proved = λ cs are. one_mapped cs c.loop-place.sections c.push.new.self (init_case m) inv c.loop-place.place [] _ c.in_ok-prove.field-0 c.loop-place-test.true case
          c.in_ok-prove.ensures.proved c.in_ok-push.ensures.ok (c.loop-place.invariant.proved cs are);
    }

pub returns-in_err-push-clause-halted : goal.returns-in_err-push-clause-halted
returns-in_err-push-clause-halted c =
    err_gives (λ h. (a : Lit) → IsProveError c.args.circuit.now c.args.invariant.now a c.prove.new.budget h) _ (OutOfMemory witness) c.from_residual-in_err-push.ensures.1 (λ a. tt)

pub returns-in_err-units-clause-halted : goal.returns-in_err-units-clause-halted
returns-in_err-units-clause-halted c =
    err_gives (λ h. (a : Lit) → IsProveError c.args.circuit.now c.args.invariant.now a c.loop-place.budget h) _ (OutOfMemory witness) c.from_residual.ensures.1 (λ a. tt)

pub returns-clause-proved : goal.returns-clause-proved
returns-clause-proved c = λ cs are.
    let m = c.args.circuit.now in
    let inv = c.args.invariant.now in
    subst (λ l. AreProofs (cs ++ map (init_case m) l) c.loop-place.sections) (take_all c.loop-place.place inv (omega (arith, c.loop-place-test.false))) (c.loop-place.invariant.proved cs are)
