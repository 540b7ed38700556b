-- The marked clauses by themselves.
use Rattle.std.proofs.Common.{◌≡◌, ℕ, ◌+◌, ◌<◌, ◌≤◌, Bool, false, inl, inr, List, [], ◌∷◌, ◌++◌, map, length, get_or, All, Contains, ℤ, refl, sym, ◌∙◌, ap, subst, arith}
use Rattle.std.specs.Prelude.{slice_index_or}
use Rattle.std.proofs.lemmas.Bool.{cases_lt, false≢true}
use Rattle.std.proofs.lemmas.List.{get_or_past, get_or-map, length-map}
use Rattle.std.proofs.lemmas.List.Elements.{All-contains, All-push, Contains-get_or, Contains-push, Contains-append_left}
use Rattle.graph.specs.declared.circuit.Lit.{Lit}
use Rattle.graph.specs.declared.parts.Parts.{Parts}
use Rattle.graph.proofs.Evaluation.{All-left, All-right}
use Rattle.lrat.specs.Literals.{IsSatisfied}
use Rattle.lrat.specs.Shared.{unit_clauses}
use Rattle.cnf.specs.Clauses.{literal, time_clauses, init_clauses, shared_clauses, step_units, bad_units}
use Rattle.cnf.specs.Formulas.{clause_at}
use Rattle.cnf.specs.Invariants.{AreContradictory, IsInductive}
use Rattle.cnf.proofs.Listed.{satisfied-units}
use Rattle.inductive_subset.specs.declared.needed.Needed.{Needed}
use Rattle.inductive_subset.specs.Guards.{IsMarked, IsFor}
use Rattle.inductive_subset.specs.Subsets.{IsExcluded, IsHeld, AreMarked, HoldAtFirst}

-- a marked place has a clause
marked_inside : (marks : List Bool) (n i : ℕ) → length marks ≡ n → IsMarked marks i → i < n
marked_inside marks n i long on = elim (cases_lt i n) [
  | inl inside ↦ inside
  | inr past ↦ absurd (false≢true (sym (get_or_past marks i false (omega (arith, long, past))) ∙ on))
]

to_map : {X Y : Type 0} (f : X → Y) (xs : List X) (x : X) → Contains xs x → Contains (map f xs) (f x)
to_map f xs x h = (h.0, omega (arith, h.1, length-map xs f), get_or-map f xs h.0 x (f x) h.1 ∙ ap f h.2)

-- what the marked clauses exclude, nothing satisfies beside them
contradictory : (m : Parts) (inv : List (List Lit)) (marks : List Bool) (cs : List (List Lit)) (units : List ℤ) → length marks ≡ length inv → AreMarked inv marks cs → IsExcluded m inv marks units →
    AreContradictory (shared_clauses m cs ++ unit_clauses units)
contradictory m inv marks cs units long are excluded = λ v all.
    let clauses : List (List ℤ) = map (map (literal m.max_var 0)) cs in
    let shared = All-left (IsSatisfied v) (shared_clauses m cs) (unit_clauses units) all in
    let holds = All-right (IsSatisfied v) (time_clauses m 0) clauses shared in
    excluded v (All-left (IsSatisfied v) (time_clauses m 0) clauses shared)
    (λ i on.
    let found = are.each i (marked_inside marks (length inv) i long on) on in
    All-contains (IsSatisfied v) clauses (map (literal m.max_var 0) (clause_at inv i)) holds (to_map (map (literal m.max_var 0)) cs (clause_at inv i) found))
    (satisfied-units v units (All-right (IsSatisfied v) (shared_clauses m cs) (unit_clauses units) all))

-- they are among the invariant's
pub marked_among : (inv : List (List Lit)) (marks : List Bool) (cs : List (List Lit)) → AreMarked inv marks cs → All (Contains inv) cs
marked_among inv marks cs are k d k_in =
    let one = are.only k d k_in in
    subst (Contains inv) one.3 (Contains-get_or inv one.0 [] one.1)

-- and inductive, as far as the invariant holds at first
pub marked_inductive : (m : Parts) (inv : List (List Lit)) (bad : Lit) (n : Needed) (cs : List (List Lit)) → IsFor (length inv) n → IsExcluded m inv n.marks.items (bad_units m bad) →
    All (IsHeld m inv n.marks.items) n.order.items → AreMarked inv n.marks.items cs → HoldAtFirst m inv → IsInductive m cs bad
marked_inductive m inv bad n cs for excluded held are begins = record {
  begins = λ k d k_in. All-contains (λ c. AreContradictory (init_clauses m c)) inv (get_or cs k d) begins (marked_among inv n.marks.items cs are k d k_in);
  goes_on = λ k d k_in.
      let one = are.only k d k_in in
      let i : ℕ = one.0 in
      let here : IsHeld m inv n.marks.items i = All-contains (IsHeld m inv n.marks.items) n.order.items i held (for.listed i one.2) in
      subst (λ (c : List Lit). AreContradictory (shared_clauses m cs ++ unit_clauses (step_units m c))) one.3
      (contradictory m inv n.marks.items cs (step_units m (clause_at inv i)) for.places are here);
  excludes = contradictory m inv n.marks.items cs (bad_units m bad) for.places are excluded;
}

-- the marked clauses before a place
pub record AreMarkedBelow (inv : List (List Lit)) (marks : List Bool) (k : ℕ) (cs : List (List Lit)) : Type 0 where
  pub each : (i : ℕ) → i < k → IsMarked marks i → Contains cs (clause_at inv i)
  pub only : All (λ c. (i : ℕ) × (i < length inv) × IsMarked marks i × (clause_at inv i ≡ c)) cs

pub below_first : (inv : List (List Lit)) (marks : List Bool) → AreMarkedBelow inv marks 0 []
below_first inv marks = record { each = λ i i_in. absurd (omega (arith, i_in)); only = λ k d k_in. absurd (omega (arith, k_in)) }

-- one place more
pub below_pushed : (inv : List (List Lit)) (marks : List Bool) (k : ℕ) (cs : List (List Lit)) → k < length inv → IsMarked marks k → AreMarkedBelow inv marks k cs →
    AreMarkedBelow inv marks (k + 1) (cs ++ clause_at inv k ∷ [])
below_pushed inv marks k cs k_in on are = record {
  each = λ i i_in i_on. elim (cases_lt i k) [
    | inl below ↦ Contains-append_left cs (clause_at inv k ∷ []) (clause_at inv i) (are.each i below i_on)
    | inr past ↦ let same : k ≡ i = omega (arith, i_in, past) in subst (λ j. Contains (cs ++ clause_at inv k ∷ []) (clause_at inv j)) same (Contains-push cs (clause_at inv k))
  ];
  only = All-push (λ c. (i : ℕ) × (i < length inv) × IsMarked marks i × (clause_at inv i ≡ c)) cs (clause_at inv k) are.only (k, k_in, on, refl);
}

pub below_passed : (inv : List (List Lit)) (marks : List Bool) (k : ℕ) (cs : List (List Lit)) → slice_index_or marks k false ≡ false → AreMarkedBelow inv marks k cs → AreMarkedBelow inv marks (k + 1) cs
below_passed inv marks k cs off are = record {
  each = λ i i_in i_on. elim (cases_lt i k) [
    | inl below ↦ are.each i below i_on
    | inr past ↦ let same : i ≡ k = omega (arith, i_in, past) in absurd (false≢true (sym off ∙ ap (λ j. slice_index_or marks j false) (sym same) ∙ i_on))
  ];
  only = are.only;
}

pub below_all : (inv : List (List Lit)) (marks : List Bool) (k : ℕ) (cs : List (List Lit)) → length inv ≤ k → AreMarkedBelow inv marks k cs → AreMarked inv marks cs
below_all inv marks k cs past are = record { each = λ i i_in on. are.each i (omega (arith, i_in, past)) on; only = are.only }
