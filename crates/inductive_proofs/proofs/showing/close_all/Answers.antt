use Rattle.std.proofs.Common.{rules, ◌≡◌, ℤ, ◌+◌, ◌<◌, ◌≤◌, List, [], All, map, length, get_or, arith, sym, subst, ◌∙◌}
use Rattle.std.proofs.lemmas.List.Elements.{All-push}
use Rattle.base.specs.Budget.{Spends}
use Rattle.lrat.specs.declared.formula.Formula.{Formula}
use Rattle.lrat.specs.Literals.{IsLiteral}
use Rattle.cnf.specs.Clauses.{denial}
use Rattle.cnf.specs.Formulas.{IsInRange}
use Rattle.cdcl_log.specs.Closings.{IsClosingOf}
use Rattle.cdcl_log.specs.declared.shown.Closing.{Closing}
use Rattle.inductive_proofs.proofs.Denied.{denials_below}
use Rattle.inductive_proofs.proofs.showing.close_all.Goals as goal

pub close-requires : goal.close-requires
close-requires c =
    let n = c.args.timed.time.max_var in
    let o = c.args.timed.time.offset in
    let k = c.loop-place.place in
    let cs = c.args.timed.clauses.now in
    let vars = c.loop-place.refuter.formula.vars in
    let lt : k < length cs = omega (arith, c.len-place-end.ensures, c.loop-place-test.true) in
    let over : All (IsInRange n) c.list-clause.result.now = subst (All (IsInRange n)) (sym c.list-clause.ensures) (c.requires.over k [] lt) in
    let high : o + n + 1 ≤ vars = subst (λ (f : Formula). o + n + 1 ≤ f.vars) (sym c.loop-place.invariant.formula) c.requires.fits in
    let e : c.as_slice.result.now ≡ map (denial n o) c.list-clause.result.now = search rules in
    record { literals = subst (All (IsLiteral vars)) (sym e) (denials_below n o vars c.list-clause.result.now over high) }

pub loop-place-preserved : goal.loop-place-preserved
loop-place-preserved c =
    let P = λ (k : Closing). (us : List ℤ) × IsClosingOf c.close.new.refuter us k in
    let spends : Spends c.args.budget.now c.close.new.budget = search rules in
    record {
      formula = c.in_ok-closing.ensures.formula ∙ c.loop-place.invariant.formula;
      spends = spends;
      closed =
          subst (All P) (sym c.in_ok-push.ensures.ok)
          (All-push P c.loop-place.closings c.in_ok-closing.closing
          (λ k d lt. let (us, is) = c.loop-place.invariant.closed k d lt in (us, c.in_ok-closing.ensures.stays us (get_or c.loop-place.closings k d) is))
          (c.as_slice.result.now, c.in_ok-closing.ensures.closed));
    }
