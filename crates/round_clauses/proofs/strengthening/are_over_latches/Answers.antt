use Rattle.std.proofs.Common.{◌∙◌, All, refl, subst}
use Rattle.std.proofs.lemmas.List.{take_all}
use Rattle.lrat.proofs.Numbered.{all_next}
use Rattle.cnf.specs.Formulas.{IsOverLatches}
use Rattle.round_clauses.proofs.strengthening.are_over_latches.Goals as goal

pub loop-clause-preserved : goal.loop-clause-preserved
loop-clause-preserved c =
    let m = c.args.circuit.now in
    all_next (IsOverLatches m) c.args.clauses.now c.loop-clause.clause-index c.clause-item.result c.loop-clause-test.true c.loop-clause.invariant
    (subst (IsOverLatches m) (c.as_slice.ensures ∙ c.clause-item.is) (c.if-not-is_over_latches.ensures refl))

pub returns : goal.returns
returns c = λ _. subst (All (IsOverLatches c.args.circuit.now)) (take_all _ _ c.loop-clause-test.false) c.loop-clause.invariant
