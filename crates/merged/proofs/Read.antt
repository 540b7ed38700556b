-- A literal has the value of the literal as which it is read.
use Rattle.std.proofs.Common.{◌≡◌, ◌∙◌, ℕ, zero, suc, ◌⊎◌, ◌+◌, ◌-◌, ◌/◌, ◌%◌, Bool, true, false, not, inl, inr, List, [], ◌∷◌, map, Any, Contains, Option, None, Some, refl, sym, ap, arith}
use Rattle.std.proofs.lemmas.Bool.{cases_eq, eq-eqb, ne_eqb}
use Rattle.std.proofs.lemmas.List.Elements.{All-contains, Contains-append_right}
use Rattle.graph.specs.declared.circuit.Lit.{Lit}
use Rattle.graph.specs.Circuits.{variable}
use Rattle.cnf.specs.Clauses.{along, is_negated}
use Rattle.cnf.specs.Formulas.{clause_at}
use Rattle.cnf.proofs.Values.{turned}
use Rattle.merged.specs.Reading.{read_by, entry, read_as, SaysConstant, SaysEqual, SaysAt, IsTable, value_in, HoldIn, IsReadIn}

pub map_same : {X Y Z : Type 0} (f : Y → Z) (h : X → Y) (g : X → Z) (xs : List X) → ((x : X) → f (h x) ≡ g x) → map f (map h xs) ≡ map g xs
map_same f h g [] e = refl
map_same f h g (x ∷ xs) e = ap (λ y. y ∷ map f (map h xs)) (e x) ∙ ap (λ ys. g x ∷ ys) (map_same f h g xs e)

twice : (b : Bool) → b ≡ not (not b)
twice true = refl
twice false = refl

-- the value of a literal that is negated where another one is
pub value_along : (f : ℕ → Bool) (b : Bool) (a : Lit) → value_in f (along b a) ≡ turned b (value_in f a)
value_along f false a = refl
value_along f true a = elim (cases_eq (a.0 % 2) 1) [
  | inl odd ↦
      let half : (a.0 - 1) / 2 ≡ a.0 / 2 = omega arith in
      let even : (a.0 - 1) % 2 ≡ 0 = omega arith in
      rw (eq-eqb (a.0 % 2) 1 odd, even, half) (twice (f (a.0 / 2)))
  | inr not_odd ↦
      let half : (a.0 + 1) / 2 ≡ a.0 / 2 = omega arith in
      let odd : (a.0 + 1) % 2 ≡ 1 = omega arith in
      rw (ne_eqb (a.0 % 2) 1 not_odd, odd, half) refl
]

pub read_by_same : (f : ℕ → Bool) (o : Option Lit) (a : Lit) → ((b : Lit) → o ≡ Some b → f (variable a) ≡ value_in f b) → value_in f (read_by o a) ≡ value_in f a
read_by_same f None a reads = refl
read_by_same f (Some b) a reads = value_along f (is_negated a) b ∙ ap (turned (is_negated a)) (sym (reads b refl))

pub read_same : (f : ℕ → Bool) (table : List (Option Lit)) (a : Lit) → IsReadIn f table → value_in f (read_as table a) ≡ value_in f a
read_same f table a reads = read_by_same f (entry table (variable a)) a (reads (variable a))

turned_twice : (b p : Bool) → turned b (turned b p) ≡ p
turned_twice true true = refl
turned_twice true false = refl
turned_twice false p = refl

-- what a literal's value says of its variable's
of_variable : (f : ℕ → Bool) (a : Lit) (p : Bool) → value_in f a ≡ p → f (variable a) ≡ turned (is_negated a) p
of_variable f a p e = sym (turned_twice (is_negated a) (f (variable a))) ∙ ap (turned (is_negated a)) e

-- a clause of one literal, and one of two
one_of : (f : ℕ → Bool) (a : Lit) → Any (λ x. value_in f x ≡ true) (a ∷ []) → value_in f a ≡ true
one_of f a (zero, x, lt, at, p) = ap (value_in f) at ∙ p
one_of f a (suc k, x, lt, at, p) = absurd (omega arith)

two_of : (f : ℕ → Bool) (a b : Lit) → Any (λ x. value_in f x ≡ true) (a ∷ b ∷ []) → (value_in f a ≡ true) ⊎ (value_in f b ≡ true)
two_of f a b (zero, x, lt, at, p) = inl (ap (value_in f) at ∙ p)
two_of f a b (suc zero, x, lt, at, p) = inr (ap (value_in f) at ∙ p)
two_of f a b (suc (suc k), x, lt, at, p) = absurd (omega arith)

-- one of the values is true, and one is not
apart : (p q : Bool) → (p ≡ true) ⊎ (q ≡ true) → (not q ≡ true) ⊎ (not p ≡ true) → p ≡ not q
apart true true some (inl e) = sym e
apart true true some (inr e) = sym e
apart true false some other = refl
apart false true some other = refl
apart false false (inl e) other = e
apart false false (inr e) other = e

-- a clause at a place is among the clauses
pub at_contains : (cs : List (List Lit)) (k : ℕ) (a : Lit) (c : List Lit) → clause_at cs k ≡ a ∷ c → Contains cs (a ∷ c)
at_contains [] k a c e = let no : [] ≡ a ∷ c = e in cc
at_contains (d ∷ cs) zero a c e = (0, omega arith, e)
at_contains (d ∷ cs) (suc k) a c e = Contains-append_right (d ∷ []) cs (a ∷ c) (at_contains cs k a c e)

holds_at : (f : ℕ → Bool) (cs : List (List Lit)) (k : ℕ) (a : Lit) (c : List Lit) → HoldIn f cs → clause_at cs k ≡ a ∷ c → Any (λ x. value_in f x ≡ true) (a ∷ c)
holds_at f cs k a c hold e = All-contains (λ (c : List Lit). Any (λ x. value_in f x ≡ true) c) cs (a ∷ c) hold (at_contains cs k a c e)

constant_said : (f : ℕ → Bool) (cs : List (List Lit)) (k v : ℕ) (b : Lit) → f 0 ≡ false → HoldIn f cs → SaysConstant (clause_at cs k) v b → f v ≡ value_in f b
constant_said f cs k v b off hold said =
    let a : Lit = said.lit in
    let on : value_in f a ≡ true = one_of f a (holds_at f cs k a [] hold said.here) in
    let truth : value_in f (record { 0 = 1 }) ≡ true = ap not off in
    ap f said.variable_is ∙ of_variable f a true on ∙ ap (turned (is_negated a)) (sym truth) ∙ sym (value_along f (is_negated a) (record { 0 = 1 })) ∙ ap (value_in f) (sym said.value_is)

equal_said : (f : ℕ → Bool) (cs : List (List Lit)) (k v : ℕ) (b : Lit) → HoldIn f cs → SaysEqual (clause_at cs k) (clause_at cs (k + 1)) v b → f v ≡ value_in f b
equal_said f cs k v b hold said =
    let x : Lit = said.one in
    let y : Lit = said.other in
    let some : (value_in f x ≡ true) ⊎ (value_in f y ≡ true) = two_of f x y (holds_at f cs k x (y ∷ []) hold said.here) in
    let other : (not (value_in f y) ≡ true) ⊎ (not (value_in f x) ≡ true) = elim (two_of f (along true y) (along true x) (holds_at f cs (k + 1) (along true y) (along true x ∷ []) hold said.next)) [
      | inl e ↦ inl (sym (value_along f true y) ∙ e)
      | inr e ↦ inr (sym (value_along f true x) ∙ e)
    ] in
    let are : value_in f x ≡ value_in f (along true y) = apart (value_in f x) (value_in f y) some other ∙ sym (value_along f true y) in
    ap f said.variable_is ∙ of_variable f x (value_in f (along true y)) are ∙ sym (value_along f (is_negated x) (along true y)) ∙ ap (value_in f) (sym said.value_is)

at_said : (f : ℕ → Bool) (cs : List (List Lit)) (k v : ℕ) (b : Lit) → f 0 ≡ false → HoldIn f cs → SaysAt cs k v b → f v ≡ value_in f b
at_said f cs k v b off hold (inl constant) = constant_said f cs k v b off hold constant
at_said f cs k v b off hold (inr equal) = equal_said f cs k v b hold equal

-- where the clauses hold, each variable has the value of what it is read as
pub said_read : (f : ℕ → Bool) (cs : List (List Lit)) (table : List (Option Lit)) → f 0 ≡ false → HoldIn f cs → IsTable cs table → IsReadIn f table
said_read f cs table off hold is_table v b is = let said = is_table.said v b is in at_said f cs said.0 v b off hold said.1
