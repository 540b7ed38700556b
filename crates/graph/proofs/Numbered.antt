-- Lists of literals with rising numbers.
use Rattle.std.proofs.Common.{◌≡◌, ℕ, ◌+◌, ◌-◌, ◌*◌, ◌<◌, List, ◌++◌, length, get_or, arith, sym, ap, subst, ◌∙◌, length-append, inl, inr}
use Rattle.std.proofs.Math.ListN.{get_or-append}
use Rattle.std.proofs.lemmas.Bool.{cases_lt}
use Rattle.std.proofs.lemmas.List.{get_or_default, get_or-append-add}
use Rattle.graph.specs.declared.circuit.Lit.{Lit}
use Rattle.graph.specs.Circuits.{IsNumbered}

-- the literals before place i are those of the variables from first on
abbrev pub IsNumberedTo : ℕ → List Lit → ℕ → Type 0
IsNumberedTo first lits i = (k : ℕ) (d : Lit) → k < i → (get_or lits k d).0 ≡ 2 * (first + k)

pub IsNumberedTo-more : (first : ℕ) (lits : List Lit) (i : ℕ) (e : Lit) → i < length lits → IsNumberedTo first lits i → (get_or lits i e).0 ≡ 2 * (first + i) → IsNumberedTo first lits (i + 1)
IsNumberedTo-more first lits i e i_in before here k d k_in = elim (cases_lt k i) [
  | inl below ↦ before k d below
  | inr above ↦ let same : k ≡ i = omega arith in
      ap (λ q. (get_or lits q d).0) same ∙ ap (λ a. a.0) (get_or_default lits i d e i_in) ∙ here ∙ ap (λ q. 2 * (first + q)) (sym same)
]

-- two lists, one after the other
pub IsNumbered-append : (first : ℕ) (xs ys : List Lit) → IsNumbered first xs → IsNumbered (first + length xs) ys → IsNumbered first (xs ++ ys)
IsNumbered-append first xs ys h g k d k_in = elim (cases_lt k (length xs)) [
  | inl below ↦ ap (λ a. a.0) (get_or-append xs ys d k below) ∙ h k d below
  | inr above ↦
      let j : ℕ = k - length xs in
      let k_is : k ≡ length xs + j = omega arith in
      let value = g j d (omega (arith, length-append xs ys)) in
      ap (λ q. (get_or (xs ++ ys) q d).0) k_is ∙ ap (λ a. a.0) (get_or-append-add xs ys j d) ∙ value ∙ ap (λ q. 2 * q) (omega arith)
]

pub IsNumbered-left : (first : ℕ) (xs ys : List Lit) → IsNumbered first (xs ++ ys) → IsNumbered first xs
IsNumbered-left first xs ys h k d k_in = ap (λ a. a.0) (sym (get_or-append xs ys d k k_in)) ∙ h k d (omega (arith, length-append xs ys))

pub IsNumbered-right : (first : ℕ) (xs ys : List Lit) → IsNumbered first (xs ++ ys) → IsNumbered (first + length xs) ys
IsNumbered-right first xs ys h k d k_in =
    ap (λ a. a.0) (sym (get_or-append-add xs ys k d)) ∙ h (length xs + k) d (omega (arith, length-append xs ys)) ∙ ap (λ q. 2 * q) (omega arith)

-- inputs, latches and gates, one after the other
pub IsNumbered-all : (xs ys zs : List Lit) (a b : ℕ) → a ≡ length xs → b ≡ length ys →
    IsNumbered 1 xs → IsNumbered (1 + a) ys → IsNumbered (1 + a + b) zs → IsNumbered 1 (xs ++ ys ++ zs)
IsNumbered-all xs ys zs a b a_is b_is h g f =
    IsNumbered-append 1 (xs ++ ys) zs
    (IsNumbered-append 1 xs ys h (subst (λ n. IsNumbered (1 + n) ys) a_is g))
    (let e : 1 + a + b ≡ 1 + length (xs ++ ys) = omega (arith, a_is, b_is, length-append xs ys) in subst (λ n. IsNumbered n zs) e f)

pub IsNumbered-second : (xs ys zs : List Lit) (a : ℕ) → a ≡ length xs → IsNumbered 1 (xs ++ ys ++ zs) → IsNumbered (1 + a) ys
IsNumbered-second xs ys zs a a_is h = subst (λ n. IsNumbered (1 + n) ys) (sym a_is) (IsNumbered-right 1 xs ys (IsNumbered-left 1 (xs ++ ys) zs h))

pub IsNumbered-third : (xs ys zs : List Lit) (a b : ℕ) → a ≡ length xs → b ≡ length ys → IsNumbered 1 (xs ++ ys ++ zs) → IsNumbered (1 + a + b) zs
IsNumbered-third xs ys zs a b a_is b_is h =
    let e : 1 + length (xs ++ ys) ≡ 1 + a + b = omega (arith, a_is, b_is, length-append xs ys) in
    subst (λ n. IsNumbered n zs) e (IsNumbered-right 1 (xs ++ ys) zs h)
