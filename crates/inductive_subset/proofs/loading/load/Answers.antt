use Rattle.std.proofs.Common.{◌≡◌, ◌∙◌, ◌++◌, ℤ, List, All, Contains, inl, ap, sym, subst}
use Rattle.std.proofs.lemmas.List.{append-nil}
use Rattle.std.proofs.lemmas.List.Elements.{Contains-get_or}
use Rattle.cnf.specs.Clauses.{time_clauses}
use Rattle.inductive_subset.specs.Guards.{IsOfCase}
use Rattle.inductive_subset.proofs.loading.load.Goals as goal

pub add_guarded-requires-clause-only : goal.add_guarded-requires-clause-only
add_guarded-requires-clause-only g c =
    let m = c.args.circuit.now in
    let base : List (List ℤ) = c.in_ok-base.base.clauses in
    let is : g.S.Sat.clauses c.add_clauses.new.solver ≡ time_clauses m 0 =
    c.in_ok-add_clauses.ensures.clauses ∙ ap (λ (cs : List (List ℤ)). cs ++ c.as_slice.result.now) c.in_ok-reset.ensures.clauses ∙ c.as_slice.ensures
    ∙ ap (λ f. f.clauses) c.in_ok-base.ensures.formula ∙ append-nil (time_clauses m 0) in
    subst (All (IsOfCase m c.args.invariant.now)) (sym is) (λ k d k_in. inl (Contains-get_or (time_clauses m 0) k d k_in))

pub add_guarded-requires-clause-time : goal.add_guarded-requires-clause-time
add_guarded-requires-clause-time g c =
    let m = c.args.circuit.now in
    let base : List (List ℤ) = c.in_ok-base.base.clauses in
    let is : g.S.Sat.clauses c.add_clauses.new.solver ≡ time_clauses m 0 =
    c.in_ok-add_clauses.ensures.clauses ∙ ap (λ (cs : List (List ℤ)). cs ++ c.as_slice.result.now) c.in_ok-reset.ensures.clauses ∙ c.as_slice.ensures
    ∙ ap (λ f. f.clauses) c.in_ok-base.ensures.formula ∙ append-nil (time_clauses m 0) in
    subst (λ (cs : List (List ℤ)). All (Contains cs) (time_clauses m 0)) (sym is) (λ k d k_in. Contains-get_or (time_clauses m 0) k d k_in)
