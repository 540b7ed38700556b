-- Facts on each element of a list that is made of others, both ways.
use Rattle.std.proofs.Common.{◌≡◌, ◌≢◌, ℕ, zero, suc, Bool, true, false, ◌||◌, ◌⊎◌, inl, inr, List, [], ◌∷◌, All, Any, Contains, ℤ, refl, ◌∙◌, ap, arith}
use Rattle.std.proofs.lemmas.Bool.{or_cases, or_left, or_right}
use Rattle.std.proofs.lemmas.List.Elements.{All-nil, All-cons, All-map, Contains-append_right}
use Rattle.graph.proofs.Evaluation.{All-unmap}
use Rattle.lrat.specs.Literals.{is_true, IsSatisfied}
use Rattle.lrat.specs.Shared.{unit_clauses}
use Rattle.cnf.specs.Meaning.{AreSatisfied}

-- whether one of the clause's literals is true
abbrev pub any_true : (ℕ → Bool) → List ℤ → Bool
any_true v [] = false
any_true v (l ∷ c) = is_true v l || any_true v c

pub satisfied-any : (v : ℕ → Bool) (c : List ℤ) → IsSatisfied v c → any_true v c ≡ true
satisfied-any v [] (l, (k, lt, at), p) = absurd (omega arith)
satisfied-any v (x ∷ c) (l, (zero, lt, at), p) = or_left (is_true v x) (any_true v c) (ap (is_true v) at ∙ p)
satisfied-any v (x ∷ c) (l, (suc k, lt, at), p) = or_right (is_true v x) (any_true v c) (satisfied-any v c (l, (k, omega arith, at), p))

pub any-satisfied : (v : ℕ → Bool) (c : List ℤ) → any_true v c ≡ true → IsSatisfied v c
any-satisfied v [] p = cc
any-satisfied v (x ∷ c) p = elim (or_cases (is_true v x) (any_true v c) p) [
  | inl here ↦ (x, (0, omega arith, refl), here)
  | inr later ↦ let r : IsSatisfied v c = any-satisfied v c later in (r.0, Contains-append_right (x ∷ []) c r.0 r.1, r.2)
]

pub unit-satisfied : (v : ℕ → Bool) (l : ℤ) → is_true v l ≡ true → IsSatisfied v (l ∷ [])
unit-satisfied v l p = (l, (0, omega arith, refl), p)

pub satisfied-unit : (v : ℕ → Bool) (l : ℤ) → IsSatisfied v (l ∷ []) → is_true v l ≡ true
satisfied-unit v l s = elim (or_cases (is_true v l) false (satisfied-any v (l ∷ []) s)) [ inl p ↦ p | inr p ↦ absurd (let q : false ≡ true = p in cc) ]

pub units-satisfied : (v : ℕ → Bool) (ls : List ℤ) → All (λ l. is_true v l ≡ true) ls → AreSatisfied v (unit_clauses ls)
units-satisfied v ls all = All-map (IsSatisfied v) (λ l. l ∷ []) ls (λ k d k_in. unit-satisfied v _ (all k d k_in))

pub satisfied-units : (v : ℕ → Bool) (ls : List ℤ) → AreSatisfied v (unit_clauses ls) → All (λ l. is_true v l ≡ true) ls
satisfied-units v ls all k d k_in = satisfied-unit v _ (All-unmap (IsSatisfied v) (λ l. l ∷ []) ls all k d k_in)

-- each element has one of the two facts, so one element has the first or all have the second
pub one_or_all : {X : Type 0} (P Q : X → Type 0) (xs : List X) → ((x : X) → P x ⊎ Q x) → Any P xs ⊎ All Q xs
one_or_all P Q [] either = inr (All-nil Q)
one_or_all P Q (x ∷ xs) either = elim (either x) [
  | inl p ↦ inl (0, x, omega arith, refl, p)
  | inr q ↦ elim (one_or_all P Q xs either) [
    | inl (k, y, lt, at, p) ↦ inl (suc k, y, omega arith, at, p)
    | inr all ↦ inr (All-cons Q x xs q all)
  ]
]

pub Contains-rest : {X : Type 0} (x y : X) (xs : List X) → x ≢ y → Contains (x ∷ xs) y → Contains xs y
Contains-rest x y xs ne (zero, lt, at) = absurd (ne at)
Contains-rest x y xs ne (suc k, lt, at) = (k, omega arith, at)
