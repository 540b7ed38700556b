use Rattle.std.proofs.Common.{◌∙◌, List, All, sym, subst, arith}
use Rattle.graph.specs.declared.circuit.Lit.{Lit}
use Rattle.cnf.specs.Formulas.{IsOverLatches}
use Rattle.correspondence.specs.Equal.{IsEquality}
use Rattle.correspondence.proofs.Sound.{clauses_over}
use Rattle.correspondence.proofs.rounds.Induction.question.Goals as goal

pub step_units-requires-clause-over : goal.step_units-requires-clause-over
step_units-requires-clause-over c =
    let m = c.args.circuit.now in
    let cs : List (List Lit) = c.as_slice-clauses.result.now in
    let all : All (IsEquality m) cs = subst (All (IsEquality m)) (sym c.as_slice-clauses.ensures) c.requires.all in
    subst (IsOverLatches m) (sym (c.as_slice.ensures ∙ c.index-clauses-place.is)) (clauses_over m cs all c.args.place c.index-clauses-place.result (omega (arith, c.if-place-clauses.false)))
