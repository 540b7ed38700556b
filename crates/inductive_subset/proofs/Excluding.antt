-- What the core of a case says of the marked clauses, and what more marks leave.
use Rattle.std.proofs.Common.{◌≡◌, ℕ, ◌+◌, ◌-◌, ◌<◌, ◌≤◌, Bool, true, inl, inr, List, [], ◌∷◌, ◌++◌, take, length, get_or, All, Contains, ℤ, pos, unsigned_abs, refl, sym, ◌∙◌, ap, subst, arith}
use Rattle.std.proofs.lemmas.Bool.{cases_lt}
use Rattle.std.proofs.lemmas.List.{take_more, take_all}
use Rattle.std.proofs.lemmas.List.Elements.{All-contains, All-push, All-append, Contains-get_or}
use Rattle.graph.specs.declared.circuit.Lit.{Lit}
use Rattle.graph.specs.declared.parts.Parts.{Parts}
use Rattle.graph.specs.WellFormed.{IsWellFormed}
use Rattle.lrat.specs.Literals.{is_true, IsLiteral}
use Rattle.cnf.specs.Formulas.{IsOverLatches, clause_at}
use Rattle.solver.specs.Answers.{IsCore, AreTrue}
use Rattle.inductive_subset.specs.Guards.{guard_of, IsLoaded, IsMarked, IsFor, IsAssumed, IsOfCore, IsLonger}
use Rattle.inductive_subset.specs.declared.needed.Needed.{Needed}
use Rattle.cnf.specs.Clauses.{step_units}
use Rattle.inductive_subset.specs.Subsets.{IsExcluded, IsHeld}
use Rattle.inductive_subset.proofs.Longer.{longer_same}
use Rattle.inductive_subset.proofs.Guarding.{guarded_by, guard_true, guard_is, units_same, case_satisfied}

-- a core whose guards are all marked
pub core_excludes : (m : Parts) (inv : List (List Lit)) (vars : ℕ) (cs : List (List ℤ)) (count : ℕ) (marks : List Bool) (units assume core : List ℤ) → IsWellFormed m → All (IsOverLatches m) inv →
    IsLoaded m inv vars cs → All (IsLiteral (m.max_var + 1)) units → All (IsAssumed m count units) assume → IsCore cs assume core →
    All (λ l. (i : ℕ) → l ≡ guard_of m i → IsMarked marks i) core → IsExcluded m inv marks units
core_excludes m inv vars cs count marks units assume core well over loaded range assumed is marked = λ v time holds set.
    let w : ℕ → Bool = guarded_by m.max_var marks v in
    let same : AreTrue w units = units_same m.max_var marks v units range set in
    is.refuted w (λ k d k_in. case_satisfied m inv marks v (get_or cs k d) well over time holds (loaded.only k d k_in))
    (λ k d k_in. let l : ℤ = get_or core k d in elim (All-contains (IsAssumed m count units) assume l assumed (is.among k d k_in)) [
      | inl (i, i_in, e) ↦ ap (is_true w) e ∙ guard_true m marks v i ∙ marked k d k_in i e
      | inr found ↦ All-contains (λ (x : ℤ). is_true w x ≡ true) units l same found
    ])

-- what a core's literals are
pub core_is : (m : Parts) (count : ℕ) (units assume core : List ℤ) → All (IsLiteral (m.max_var + 1)) units → All (IsAssumed m count units) assume → All (Contains assume) core → All (IsOfCore m count) core
core_is m count units assume core range assumed among k d k_in =
    elim (All-contains (IsAssumed m count units) assume (get_or core k d) assumed (among k d k_in)) [
      | inl guard ↦ inl guard
      | inr found ↦ inr ((All-contains (IsLiteral (m.max_var + 1)) units (get_or core k d) range found).1)
    ]

-- more marks exclude no less
pub excluded_more : (m : Parts) (inv : List (List Lit)) (marks more : List Bool) (units : List ℤ) → ((i : ℕ) → IsMarked marks i → IsMarked more i) → IsExcluded m inv marks units → IsExcluded m inv more units
excluded_more m inv marks more units kept excluded = λ v time holds set. excluded v time (λ i on. holds i (kept i on)) set

-- one guard more
pub assumed_pushed : (m : Parts) (n i : ℕ) (old new : List ℤ) (x : ℤ) → i < n → x ≡ guard_of m i → new ≡ old ++ x ∷ [] →
    (units : List ℤ) → All (IsAssumed m n units) old → All (IsAssumed m n units) new
assumed_pushed m n i old new x below is made units all = subst (All (IsAssumed m n units)) (sym made) (All-push (IsAssumed m n units) old x all (inl (i, below, is)))

-- and the units
pub assumed_units : (m : Parts) (n : ℕ) (old new units : List ℤ) → new ≡ old ++ units → All (IsAssumed m n units) old → All (IsAssumed m n units) new
assumed_units m n old new units made all =
    subst (All (IsAssumed m n units)) (sym made) (All-append (IsAssumed m n units) old units all (λ k d k_in. inr (Contains-get_or units k d k_in)))

-- what is assumed is the solver's
pub assumed_literals : (m : Parts) (n vars : ℕ) (units assume : List ℤ) → vars ≡ m.max_var + 1 + n → All (IsLiteral (m.max_var + 1)) units → All (IsAssumed m n units) assume → All (IsLiteral vars) assume
assumed_literals m n vars units assume room range assumed k d k_in = elim (assumed k d k_in) [
  | inl (i, i_in, e) ↦ subst (IsLiteral vars) (sym e) (guard_is m vars i (omega (arith, room, i_in)))
  | inr found ↦
      let one : IsLiteral (m.max_var + 1) (get_or assume k d) = All-contains (IsLiteral (m.max_var + 1)) units (get_or assume k d) range found in
      let small = one.1 in
      (one.0, omega (arith, room, small))
]

-- the clauses of a core's guards are marked, one literal more
pub marked_more : (m : Parts) (core : List ℤ) (k : ℕ) (old new : List Bool) → k < length core → ((i : ℕ) → IsMarked old i → IsMarked new i) →
    All (λ x. (i : ℕ) → x ≡ guard_of m i → IsMarked old i) (take k core) → ((i : ℕ) → get_or core k (pos 0) ≡ guard_of m i → IsMarked new i) →
    All (λ x. (i : ℕ) → x ≡ guard_of m i → IsMarked new i) (take (k + 1) core)
marked_more m core k old new k_in kept before here =
    let P : ℤ → Type 0 = λ x. (i : ℕ) → x ≡ guard_of m i → IsMarked new i in
    subst (All P) (sym (take_more core k (pos 0) k_in))
    (All-push P (take k core) (get_or core k (pos 0)) (λ j d j_in i e. kept i (before j d j_in i e)) here)

-- the guard's place
guard_variable : (m : Parts) (l : ℤ) (i u : ℕ) → u ≡ unsigned_abs l → l ≡ guard_of m i → u ≡ m.max_var + 2 + i
guard_variable m l i u is e = is ∙ ap unsigned_abs e

pub guard_place : (m : Parts) (l : ℤ) (i u first place : ℕ) → u ≡ unsigned_abs l → first ≡ m.max_var + 2 → place ≡ u - first → l ≡ guard_of m i → place ≡ i
guard_place m l i u first place is at from e = let here = guard_variable m l i u is e in omega (arith, here, at, from)

pub no_guard : (m : Parts) (l : ℤ) (i u first : ℕ) → u ≡ unsigned_abs l → first ≡ m.max_var + 2 → u < first → l ≡ guard_of m i → ⊥
no_guard m l i u first is at below e = let here = guard_variable m l i u is e in omega (arith, here, at, below)

-- how far the look through a core has come
pub record Marking (m : Parts) (core : List ℤ) (k : ℕ) (old new : Needed) : Type 0 where
  pub places : length new.marks.items ≡ length old.marks.items
  pub well : (n : ℕ) → IsFor n old → IsFor n new
  pub kept : (i : ℕ) → IsMarked old.marks.items i → IsMarked new.marks.items i
  pub longer : IsLonger old.order.items new.order.items
  pub marked : All (λ x. (i : ℕ) → x ≡ guard_of m i → IsMarked new.marks.items i) (take k core)

pub marked_whole : (m : Parts) (core : List ℤ) (k : ℕ) (marks : List Bool) → length core ≤ k → All (λ x. (i : ℕ) → x ≡ guard_of m i → IsMarked marks i) (take k core) →
    All (λ x. (i : ℕ) → x ≡ guard_of m i → IsMarked marks i) core
marked_whole m core k marks past all = subst (All (λ (x : ℤ). (i : ℕ) → x ≡ guard_of m i → IsMarked marks i)) (take_all k core past) all

pub marking_first : (m : Parts) (core : List ℤ) (old : Needed) → Marking m core 0 old old
marking_first m core old = record {
  places = refl;
  well = λ n p. p;
  kept = λ i p. p;
  longer = longer_same old.order.items;
  marked = λ k d k_in. absurd (omega (arith, k_in));
}

-- one step case more is excluded
pub held_more : (m : Parts) (inv : List (List Lit)) (old new : Needed) (asked place : ℕ) → asked < length old.order.items → IsLonger old.order.items new.order.items →
    ((i : ℕ) → IsMarked old.marks.items i → IsMarked new.marks.items i) → ((k : ℕ) → k < asked → IsHeld m inv old.marks.items (get_or old.order.items k 0)) →
    place ≡ get_or old.order.items asked 0 → IsHeld m inv new.marks.items place → (k : ℕ) → k < asked + 1 → IsHeld m inv new.marks.items (get_or new.order.items k 0)
held_more m inv old new asked place inside longer kept before is here k k_in = elim (cases_lt k asked) [
  | inl below ↦
      let i : ℕ = get_or old.order.items k 0 in
      subst (IsHeld m inv new.marks.items) (sym (longer.same k (omega (arith, below, inside))))
      (excluded_more m inv old.marks.items new.marks.items (step_units m (clause_at inv i)) kept (before k below))
  | inr past ↦
      let same : asked ≡ k = omega (arith, k_in, past) in
      subst (λ j. IsHeld m inv new.marks.items (get_or new.order.items j 0)) same
      (subst (IsHeld m inv new.marks.items) (is ∙ sym (longer.same asked inside)) here)
]
