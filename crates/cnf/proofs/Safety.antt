-- An inductive invariant makes the circuit safe.
use Rattle.std.proofs.Common.{◌≡◌, ◌+◌, ◌*◌, ◌≤◌, Bool, true, false, ◌⊎◌, inl, inr, List, [], ◌∷◌, get_or, All, Contains, sym, ◌∙◌, subst}
use Rattle.std.proofs.lemmas.Bool.{cases_Bool}
use Rattle.std.proofs.lemmas.List.Elements.{All-nil, All-cons, All-head, All-tail, All-contains_itself}
use Rattle.std.proofs.lemmas.Option.{get_or_from_slice_get, slice_get_within}
use Rattle.graph.specs.declared.circuit.Lit.{Lit}
use Rattle.graph.specs.declared.circuit.Property.{Property}
use Rattle.graph.specs.declared.circuit.Property.TheVariants.{Bad, Justice, Output}
use Rattle.graph.specs.declared.parts.Parts.{Parts}
use Rattle.graph.specs.Circuits.{IsWatched, value_of, Agrees, IsInitial, IsStep, Steps, IsRun, KeepsConstraints}
use Rattle.graph.specs.WellFormed.{IsWellFormed, used}
use Rattle.graph.proofs.Alone.{watched_one}
use Rattle.graph.proofs.Tabled.{holds_of_used}
use Rattle.cnf.specs.Formulas.{IsOverLatches}
use Rattle.cnf.specs.Meaning.{extension_of, HoldsClause, Denies, DeniesNext, KeepsNow, IsKept}
use Rattle.cnf.specs.Invariants.{IsInductive, SafetyLaw}
use Rattle.cnf.proofs.Listed.{one_or_all}
use Rattle.cnf.proofs.CaseLaws.{init_law, step_law, bad_law, next_value}

-- what is given of the invariant
record IsGiven (m : Parts) (inv : List (List Lit)) (a : Lit) : Type 0 where
  well : IsWellFormed m
  overs : All (IsOverLatches m) inv
  bad : a.0 ≤ 2 * m.max_var + 1
  inductive_in : IsInductive m inv a

abbrev HoldsAll : List (List Lit) → List Bool → Type 0
HoldsAll inv w = All (HoldsClause w) inv

holds_or_denies : (w : List Bool) (c : List Lit) → HoldsClause w c ⊎ Denies w c
holds_or_denies w c = one_or_all (λ a. value_of w a ≡ true) (λ a. value_of w a ≡ false) c (λ a. cases_Bool (value_of w a))

holds_first : (m : Parts) (inv : List (List Lit)) (a : Lit) (w : List Bool) → IsGiven m inv a → Agrees m w → IsInitial m w → HoldsAll inv w
holds_first m inv a w given agrees initial k d k_in = elim (holds_or_denies w (get_or inv k d)) [
  | inl holds ↦ holds
  | inr denies ↦ absurd (given.inductive_in.begins k d k_in (extension_of w) ((init_law m (get_or inv k d) given.well (given.overs k d k_in) w agrees.valuation).0 (initial, denies)))
]

holds_next : (m : Parts) (inv : List (List Lit)) (a : Lit) (w x : List Bool) → IsGiven m inv a → IsKept m inv w → IsStep m w x → HoldsAll inv x
holds_next m inv a w x given kept step k d k_in = elim (holds_or_denies x (get_or inv k d)) [
  | inl holds ↦ holds
  | inr denies ↦
      let next : DeniesNext m w (get_or inv k d) = λ i b i_in. sym (next_value m w x (get_or (get_or inv k d) i b) given.well step (given.overs k d k_in i b i_in)) ∙ denies i b i_in in
      absurd (given.inductive_in.goes_on k d k_in (extension_of w) ((step_law m inv (get_or inv k d) given.well given.overs (given.overs k d k_in) w kept.agrees.valuation).0 (kept, next)))
]

not_bad : (m : Parts) (inv : List (List Lit)) (a : Lit) (w : List Bool) → IsGiven m inv a → IsKept m inv w → value_of w a ≡ false
not_bad m inv a w given kept = elim (cases_Bool (value_of w a)) [
  | inl on ↦ absurd (given.inductive_in.excludes (extension_of w) ((bad_law m inv a given.well given.overs given.bad w kept.agrees.valuation).0 (kept, on)))
  | inr off ↦ off
]

-- along a run that keeps the constraints
never_bad : (m : Parts) (inv : List (List Lit)) (a : Lit) (w : List Bool) (r : List (List Bool)) → IsGiven m inv a → All (Agrees m) (w ∷ r) → KeepsConstraints m (w ∷ r) → Steps m (w ∷ r) →
    HoldsAll inv w → All (λ x. value_of x a ≡ false) (w ∷ r)
never_bad m inv a w [] given agrees keeps steps holds =
    let kept : IsKept m inv w = record { agrees = All-head (Agrees m) w [] agrees; keeps = All-head (KeepsNow m) w [] keeps; holds = holds } in
    All-cons (λ x. value_of x a ≡ false) w [] (not_bad m inv a w given kept) (All-nil (λ x. value_of x a ≡ false))
never_bad m inv a w (x ∷ r) given agrees keeps steps holds =
    let kept : IsKept m inv w = record { agrees = All-head (Agrees m) w (x ∷ r) agrees; keeps = All-head (KeepsNow m) w (x ∷ r) keeps; holds = holds } in
    All-cons (λ y. value_of y a ≡ false) w (x ∷ r) (not_bad m inv a w given kept)
    (never_bad m inv a x r given (All-tail (Agrees m) w (x ∷ r) agrees) (All-tail (KeepsNow m) w (x ∷ r) keeps) steps.1 (holds_next m inv a w x given kept steps.0))

-- what holds of all literals that the circuit uses holds of the one that a property watches
watched_holds : (P : Lit → Type 0) (m : Parts) (p : Property) (a : Lit) → All P (used m) → IsWatched m p a → P a
watched_holds P m (Bad n) a all watched = subst P (get_or_from_slice_get m.bad n a a watched) ((holds_of_used P m all).bad n a (slice_get_within m.bad n a watched))
watched_holds P m (Output n) a all watched =
    subst P (get_or_from_slice_get m.outputs n a a watched.1) ((holds_of_used P m all).outputs n a (slice_get_within m.outputs n a watched.1))
watched_holds P m (Justice n) a all watched = absurd watched

-- it is one of these
pub watched_used : (m : Parts) (p : Property) (a : Lit) → IsWatched m p a → Contains (used m) a
watched_used m p a watched = watched_holds (Contains (used m)) m p a (All-contains_itself (used m)) watched

run_safe : (m : Parts) (inv : List (List Lit)) (a : Lit) (r : List (List Bool)) → IsGiven m inv a → IsRun m r → KeepsConstraints m r → All (λ w. value_of w a ≡ false) r
run_safe m inv a [] given run keeps = All-nil (λ w. value_of w a ≡ false)
run_safe m inv a (w ∷ r) given run keeps =
    never_bad m inv a w r given run.agrees keeps run.steps (holds_first m inv a w given (All-head (Agrees m) w r run.agrees) run.starts)

pub safety_law : (m : Parts) (inv : List (List Lit)) → IsWellFormed m → All (IsOverLatches m) inv → SafetyLaw m inv
safety_law m inv well overs p a watched inductive_in r b run keeps watched_too =
    let same : a ≡ b = watched_one m p a b watched watched_too in
    let range : a.0 ≤ 2 * m.max_var + 1 = watched_holds (λ x. x.0 ≤ 2 * m.max_var + 1) m p a well.used_in_range watched in
    subst (λ (x : Lit). All (λ w. value_of w x ≡ false) r) same
    (run_safe m inv a r (record { well = well; overs = overs; bad = range; inductive_in = inductive_in }) run keeps)
