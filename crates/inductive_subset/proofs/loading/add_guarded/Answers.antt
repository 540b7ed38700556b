use Rattle.std.proofs.Common.{rules, ◌≡◌, ◌∙◌, ◌+◌, ◌<◌, ◌∷◌, [], ℕ, ℤ, List, All, Contains, inl, inr, length, get_or, ap, sym, subst, arith}
use Rattle.std.proofs.lemmas.Bool.{cases_lt}
use Rattle.std.proofs.lemmas.List.Elements.{All-push, Contains-append_left, Contains-push}
use Rattle.graph.specs.declared.circuit.Lit.{Lit}
use Rattle.lrat.specs.Literals.{IsLiteral}
use Rattle.cnf.specs.Clauses.{time_clauses}
use Rattle.inductive_subset.specs.Guards.{guarded_clause, IsOfCase}
use Rattle.inductive_subset.proofs.Guarding.{guarded_is}
use Rattle.inductive_subset.proofs.loading.add_guarded.Goals as goal

pub add-requires : goal.add-requires
add-requires g c =
    let m = c.args.circuit.now in
    let inv : List (List Lit) = c.args.invariant.now in
    let vars : ℕ = g.S.Sat.vars c.adding.solver in
    let inside : c.adding.place < length inv = search rules in
    let room : vars ≡ m.max_var + 1 + length inv = c.adding.invariant.vars ∙ c.requires.vars in
    subst (All (IsLiteral vars)) (sym (c.as_slice.ensures.value ∙ c.in_ok-clause.ensures))
    (guarded_is m vars inv c.adding.place c.well_formed-2.ensures c.requires.over inside (omega (arith, inside, room)))

pub adding-preserved : goal.adding-preserved
adding-preserved g c =
    let m = c.args.circuit.now in
    let inv : List (List Lit) = c.args.invariant.now in
    let old : List (List ℤ) = g.S.Sat.clauses c.adding.solver in
    let inside : c.adding.place < length inv = search rules in
    let clause : List ℤ = c.as_slice.result.now in
    let is : clause ≡ guarded_clause m inv c.adding.place = c.as_slice.ensures.value ∙ c.in_ok-clause.ensures in
    let stays : (x : List ℤ) → Contains old x → Contains (g.S.Sat.clauses c.add.new.self) x =
    λ x found. subst (λ (cs : List (List ℤ)). Contains cs x) (sym c.in_ok-add.ensures.ok) (Contains-append_left old (clause ∷ []) x found) in
    record {
      vars = c.in_ok-add.ensures.vars ∙ c.adding.invariant.vars;
      only = subst (All (IsOfCase m inv)) (sym c.in_ok-add.ensures.ok)
          (All-push (IsOfCase m inv) old c.as_slice.result.now c.adding.invariant.only (inr (c.adding.place, inside, is)));
      time = λ k d k_in. stays (get_or (time_clauses m 0) k d) (c.adding.invariant.time k d k_in);
      each = λ i i_in. elim (cases_lt i c.adding.place) [
        | inl lt ↦ stays (guarded_clause m inv i) (c.adding.invariant.each i lt)
        | inr ge ↦
            let here : c.adding.place ≡ i = omega (arith, i_in, ge) in
            subst (Contains (g.S.Sat.clauses c.add.new.self)) (is ∙ ap (guarded_clause m inv) here)
            (subst (λ (cs : List (List ℤ)). Contains cs clause) (sym c.in_ok-add.ensures.ok) (Contains-push old clause))
      ];
    }

pub returns : goal.returns
returns g c = record {
  room = c.adding.invariant.vars ∙ c.requires.vars;
  only = c.adding.invariant.only;
  time = c.adding.invariant.time;
  each = λ i i_in. c.adding.invariant.each i (search rules);
}
