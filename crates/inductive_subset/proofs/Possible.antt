-- What a model of a case says.
use Rattle.std.proofs.Common.{◌≡◌, ℕ, zero, suc, ◌+◌, ◌<◌, ◌⊎◌, Bool, true, false, not, inl, inr, List, [], ◌∷◌, ◌++◌, map, length, get_or, All, Contains, ℤ, pos, neg_ℤ, sym, ◌∙◌, ap, subst, arith}
use Rattle.std.proofs.lemmas.Bool.{false≢true}
use Rattle.std.proofs.lemmas.List.{get_or_default}
use Rattle.std.proofs.lemmas.List.Elements.{All-contains, All-append, All-map, Contains-append_left, Contains-push}
use Rattle.base.specs.Budget.{Steps}
use Rattle.graph.specs.declared.circuit.Lit.{Lit}
use Rattle.graph.specs.declared.parts.Parts.{Parts}
use Rattle.lrat.specs.Literals.{is_true, IsSatisfied}
use Rattle.lrat.specs.Shared.{unit_clauses}
use Rattle.cnf.specs.Clauses.{literal, time_clauses, shared_clauses, bad_units}
use Rattle.cnf.specs.Formulas.{clause_at}
use Rattle.cnf.specs.Meaning.{AreSatisfied}
use Rattle.cnf.proofs.Listed.{units-satisfied}
use Rattle.solver.specs.Answers.{IsModel, values}
use Rattle.inductive_subset.specs.Guards.{guard_of, guarded_clause, IsLoaded}
use Rattle.inductive_subset.specs.Subsets.{IsPossible, IsLeft, AreUnkept}

-- what was there is there behind one literal more, and that one is
pub contains_before : (old new : List ℤ) (x y : ℤ) → new ≡ old ++ x ∷ [] → Contains old y → Contains new y
contains_before old new x y made found = subst (λ (v : List ℤ). Contains v y) (sym made) (Contains-append_left old (x ∷ []) y found)

pub contains_last : (old new : List ℤ) (x y : ℤ) → new ≡ old ++ x ∷ [] → x ≡ y → Contains new y
contains_last old new x y made is = subst (Contains new) is (subst (λ (v : List ℤ). Contains v x) (sym made) (Contains-push old x))

-- a variable and its negation are not both true
not_both : (v : ℕ → Bool) (k : ℕ) → is_true v (pos k) ≡ true → is_true v (neg_ℤ (pos k)) ≡ true → ⊥
not_both v zero set unset = false≢true set
not_both v (suc k) set unset = false≢true (sym (ap not set) ∙ unset)

-- a clause whose first literal is false is satisfied by the others
rest_satisfied : (v : ℕ → Bool) (l : ℤ) (body : List ℤ) → (is_true v l ≡ true → ⊥) → IsSatisfied v (l ∷ body) → IsSatisfied v body
rest_satisfied v l body off (x, (zero, lt, at), p) = absurd (off (ap (is_true v) at ∙ p))
rest_satisfied v l body off (x, (suc k, lt, at), p) = (x, (k, omega arith, at), p)

-- a clause whose guard is assumed is satisfied by itself
clause_satisfied : (m : Parts) (inv : List (List Lit)) (vars : ℕ) (cs : List (List ℤ)) (assume : List ℤ) (b : List Bool) (i : ℕ) → IsLoaded m inv vars cs → IsModel vars cs assume b → i < length inv →
    Contains assume (guard_of m i) → IsSatisfied (values b) (map (literal m.max_var 0) (clause_at inv i))
clause_satisfied m inv vars cs assume b i loaded is i_in found =
    let v : ℕ → Bool = values b in
    let on : is_true v (guard_of m i) ≡ true = All-contains (λ (l : ℤ). is_true v l ≡ true) assume (guard_of m i) is.assumed found in
    rest_satisfied v (neg_ℤ (guard_of m i)) (map (literal m.max_var 0) (clause_at inv i)) (not_both v (m.max_var + 2 + i) on)
    (All-contains (IsSatisfied v) cs (guarded_clause m inv i) is.satisfied (loaded.each i i_in))

-- a model of all clauses, where all guards and the units are assumed
pub model_possible : (m : Parts) (inv : List (List Lit)) (vars : ℕ) (cs : List (List ℤ)) (units assume : List ℤ) (b : List Bool) → IsLoaded m inv vars cs → IsModel vars cs assume b →
    ((i : ℕ) → i < length inv → Contains assume (guard_of m i)) → All (Contains assume) units → IsPossible m inv units
model_possible m inv vars cs units assume b loaded is guards among =
    let v : ℕ → Bool = values b in
    let time : AreSatisfied v (time_clauses m 0) = λ k d k_in. All-contains (IsSatisfied v) cs (get_or (time_clauses m 0) k d) is.satisfied (loaded.time k d k_in) in
    let clauses : AreSatisfied v (map (map (literal m.max_var 0)) inv) = All-map (IsSatisfied v) (map (literal m.max_var 0)) inv
    (λ k d k_in. subst (λ (c : List Lit). IsSatisfied v (map (literal m.max_var 0) c)) (get_or_default inv k [] d k_in) (clause_satisfied m inv vars cs assume b k loaded is k_in (guards k k_in))) in
    let set : AreSatisfied v (unit_clauses units) = units-satisfied v units (λ k d k_in. All-contains (λ (l : ℤ). is_true v l ≡ true) assume (get_or units k d) is.assumed (among k d k_in)) in
    (v, All-append (IsSatisfied v) (shared_clauses m inv) (unit_clauses units) (All-append (IsSatisfied v) (time_clauses m 0) (map (map (literal m.max_var 0)) inv) time clauses) set)

-- a bad case that is possible, or the budget
pub unkept_bad : (m : Parts) (inv : List (List Lit)) (a : Lit) (after : Steps) → IsPossible m inv (bad_units m a) ⊎ (after.left ≡ 0) → AreUnkept m inv a after
unkept_bad m inv a after (inl (v, all)) = inl (λ inductive. inductive.excludes v all)
unkept_bad m inv a after (inr spent) = inr (inl spent)

-- a step case that is possible, or the budget
pub unkept_step : (m : Parts) (inv : List (List Lit)) (a : Lit) (after : Steps) → IsLeft m inv ⊎ (after.left ≡ 0) → AreUnkept m inv a after
unkept_step m inv a after (inl (i, i_in, possible)) = inl (λ inductive. inductive.goes_on i [] i_in possible.0 possible.1)
unkept_step m inv a after (inr spent) = inr (inl spent)
