use Rattle.std.proofs.Common.{rules, ◌≡◌, ℕ, ℤ, ◌<◌, true, List, [], ◌++◌, sym, ◌∙◌, subst, arith}
use Rattle.std.specs.Prelude.{slice_index_or}
use Rattle.std.proofs.lemmas.Bool.{false≢true}
use Rattle.std.proofs.lemmas.List.{get_or_default}
use Rattle.graph.specs.declared.circuit.Lit.{Lit}
use Rattle.lrat.specs.Shared.{unit_clauses}
use Rattle.cnf.specs.Clauses.{step_clauses, shared_clauses, step_units}
use Rattle.cnf.specs.Invariants.{AreContradictory}
use Rattle.correspondence.proofs.Asked.{one_more, split_holds_not}
use Rattle.correspondence.proofs.rounds.Induction.ask_steps.Goals as goal
use Rattle.correspondence.proofs.rounds.Induction.ask_steps.Goals.{in-Some+in_ok-reply-in-Some, in-None, in-Holds, in-Split}

pub asking-preserved : goal.asking-preserved
asking-preserved g c =
    let m = c.args.circuit.now in
    let inv : List (List Lit) = c.args.equalities.now.clauses in
    let P : ℕ → Type 0 = λ k. AreContradictory (step_clauses m inv (slice_index_or inv k [])) in
    elim c.match-question.branch [
      | in-Some+in_ok-reply-in-Some w ↦ record {
        spends = search rules;
        vars = search rules;
        clauses = search rules;
        hold = λ on k lt. elim c.match-reply.branch [
          | in-Holds v ↦
              let replied = sym w.reply-is ∙ v.in-Holds.is in
              let here = w.in_ok-reply-in-Some.ensures.holds replied in
              let of = rw w.in-Some.is at c.in_ok-question.ensures in
              let loaded : g.S.Sat.clauses c.asking.solver ≡ shared_clauses m inv = c.asking.invariant.clauses ∙ c.requires.loaded in
              one_more P c.asking.place (c.asking.invariant.hold (sym v.all_hold-is ∙ on))
              (subst (λ (cs : List (List ℤ)). AreContradictory (cs ++ unit_clauses (step_units m (slice_index_or inv c.asking.place [])))) loaded (subst (λ (us : List ℤ). AreContradictory (g.S.Sat.clauses c.asking.solver ++ unit_clauses us)) of.0 here)) k lt
          | in-Split v ↦ absurd (false≢true (sym v.all_hold-is ∙ on))
        ];
      }
      | in-None w ↦ record {
        spends = search rules;
        vars = search rules;
        clauses = search rules;
        hold = λ on k lt. elim c.match-reply.branch [
          | in-Holds v ↦ absurd (split_holds_not (sym w.reply-is ∙ v.in-Holds.is))
          | in-Split v ↦ absurd (false≢true (sym v.all_hold-is ∙ on))
        ];
      }
    ]

pub returns-clause-hold : goal.returns-clause-hold
returns-clause-hold g c = λ is k d k_in.
    let m = c.args.circuit.now in
    let inv : List (List Lit) = c.args.equalities.now.clauses in
    let on : c.asking.all_hold ≡ true = search rules in
    let inside : k < c.asking.place = omega (arith, k_in, c.asking-test.false, c.len-place-end.ensures) in
    subst (λ (cl : List Lit). AreContradictory (step_clauses m inv cl)) (get_or_default inv k [] d k_in) (c.asking.invariant.hold on k inside)
