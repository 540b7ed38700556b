use Rattle.std.proofs.Common.{◌≡◌, ◌∙◌, ℤ, true, Some, List, ◌++◌, Contains, refl, sym, ap, subst}
use Rattle.graph.specs.declared.circuit.Lit.{Lit}
use Rattle.graph.specs.WellFormed.{used}
use Rattle.lrat.specs.Shared.{unit_clauses}
use Rattle.cnf.specs.Clauses.{bad_clauses, bad_units, shared_clauses}
use Rattle.cnf.specs.Invariants.{AreContradictory}
use Rattle.correspondence.proofs.Sound.{bad_used, invariant_is, inductive_is}
use Rattle.correspondence.proofs.rounds.Induction.ask_all.Goals as goal

pub excludes-requires-clause-bad : goal.excludes-requires-clause-bad
excludes-requires-clause-bad g c =
    let m = c.args.circuit.now in
    subst (Contains (used m)) (sym c.requires.bad) (bad_used m m.bad c.requires.for_bad refl)

pub returns-in-Some-true-clause-fixed : goal.returns-in-Some-true-clause-fixed
returns-in-Some-true-clause-fixed g c =
    let m = c.args.circuit.now in
    let inv : List (List Lit) = c.args.equalities.clauses in
    let loaded : g.S.Sat.clauses c.args.solver.now ≡ shared_clauses m inv = c.requires.loaded in
    let all : c.in_ok-ask_steps.field-0 ≡ Some true = c.in-Some-true.is ∙ ap Some c.in-Some-true.field-0-test in
    let steps = c.in_ok-ask_steps.ensures.hold all in
    c.found.ensures m (inductive_is m inv c.requires.all steps)
    (λ told. let excluded : AreContradictory (bad_clauses m inv c.args.bad) = subst (λ (cs : List (List ℤ)). AreContradictory (cs ++ unit_clauses (bad_units m c.args.bad))) loaded (c.in_ok-excluded.ensures.excluded told) in
    invariant_is m inv c.args.bad c.requires.bad c.requires.all excluded steps)
