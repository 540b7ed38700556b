-- From literals of clauses back to those of the circuit.
use Rattle.std.proofs.Common.{◌≡◌, ◌≢◌, ℕ, zero, suc, ◌+◌, ◌*◌, ◌%◌, ◌/◌, ◌<◌, Bool, true, false, not, if◌then◌else◌, ◌⊎◌, inl, inr, List, [], ◌∷◌, ◌++◌, map, take, length, get_or, All, Contains, Option, None, Some, ℤ, refl, sym, ◌∙◌, ap, subst, arith}
use Rattle.std.specs.List.{cons_option}
use Rattle.std.proofs.lemmas.Bool.{cases_eq, eq-eqb, ne_eqb, le-ltb, lt-ltb}
use Rattle.std.proofs.lemmas.List.{take_more, append-nil}
use Rattle.std.proofs.lemmas.List.Elements.{All-nil, All-cons, All-head, All-tail, Contains-append_cases, filter_map-append}
use Rattle.graph.specs.declared.circuit.Lit.{Lit}
use Rattle.graph.specs.declared.parts.Parts.{Parts}
use Rattle.graph.specs.Circuits.{variable, value_of}
use Rattle.lrat.specs.Literals.{is_true}
use Rattle.cnf.specs.Clauses.{signed, is_negated, literal}
use Rattle.cnf.specs.Formulas.{IsInRange}
use Rattle.solver.specs.Answers.{AreTrue}
use Rattle.ic3_step.specs.States.{AllSet}
use Rattle.ic3_step.specs.Contents.{guard_literal}
use Rattle.ic3_step.specs.Readings.{assumptions_of, circuit_lit, lit_for, core_lits}
use Rattle.ic3_step.proofs.Latched.{from_map}

-- a loop over a core
pub core_more : (n : ℕ) (core : List ℤ) (i : ℕ) (d : ℤ) (o : Option Lit) → i < length core → lit_for n (get_or core i d) ≡ o →
    core_lits n (take (i + 1) core) ≡ core_lits n (take i core) ++ cons_option o []
core_more n core i d o i_in e =
    ap (core_lits n) (take_more core i d i_in) ∙ filter_map-append (lit_for n) (take i core) (get_or core i d ∷ []) ∙ ap (λ x. core_lits n (take i core) ++ cons_option x []) e

pub core_skips : (n : ℕ) (core : List ℤ) (i : ℕ) (d : ℤ) → i < length core → lit_for n (get_or core i d) ≡ None → core_lits n (take (i + 1) core) ≡ core_lits n (take i core)
core_skips n core i d i_in e = core_more n core i d None i_in e ∙ append-nil (core_lits n (take i core))

signed_back : (n : ℕ) (b : Bool) (v : ℕ) → v ≢ 0 → lit_for n (signed b v) ≡ circuit_lit n b v
signed_back n b zero ne = absurd (ne refl)
signed_back n true (suc v) ne = refl
signed_back n false (suc v) ne = refl

-- the constant
top_lit : (n : ℕ) (b : Bool) → circuit_lit n b (0 + n + 1) ≡ Some (if b then record { 0 = 0 } else record { 0 = 1 })
top_lit n b = rw (le-ltb (n + 1) (0 + n + 1) (omega arith), eq-eqb (0 + n + 1) (n + 1) (omega arith)) refl

inside_lit : (n : ℕ) (b : Bool) (k : ℕ) → k < n + 1 → circuit_lit n b (0 + k) ≡ Some (if b then record { 0 = 2 * (0 + k) + 1 } else record { 0 = 2 * (0 + k) })
inside_lit n b k k_in = rw (le-ltb (n + 1) (0 + k) (omega arith), ne_eqb (0 + k) (n + 1) (λ e. omega (arith, k_in, e))) refl

abbrev some_lit : ℕ → Option Lit
some_lit x = Some (record { 0 = x })

same_lit : (x y : ℕ) → x ≡ y → some_lit x ≡ some_lit y
same_lit x y e = ap some_lit e

constant_back : (n : ℕ) (a : Lit) → variable a ≡ 0 → circuit_lit n (not (is_negated a)) (0 + n + 1) ≡ Some a
constant_back n a z = elim (cases_eq (a.0 % 2) 1) [
  | inl odd ↦ let one : 1 ≡ a.0 = omega (arith, z, odd) in rw (eq-eqb (a.0 % 2) 1 odd) (top_lit n false ∙ same_lit 1 a.0 one)
  | inr even ↦ let none : 0 ≡ a.0 = omega (arith, z, even) in rw (ne_eqb (a.0 % 2) 1 even) (top_lit n true ∙ same_lit 0 a.0 none)
]

inside_back : (n : ℕ) (a : Lit) → IsInRange n a → circuit_lit n (is_negated a) (0 + variable a) ≡ Some a
inside_back n a range = elim (cases_eq (a.0 % 2) 1) [
  | inl odd ↦ rw (eq-eqb (a.0 % 2) 1 odd) (inside_lit n true (a.0 / 2) (omega (arith, range)) ∙ same_lit (2 * (0 + a.0 / 2) + 1) a.0 (omega (arith, odd)))
  | inr even ↦ rw (ne_eqb (a.0 % 2) 1 even) (inside_lit n false (a.0 / 2) (omega (arith, range)) ∙ same_lit (2 * (0 + a.0 / 2)) a.0 (omega (arith, even)))
]

-- a literal of the circuit comes back
pub literal_back : (n : ℕ) (a : Lit) → IsInRange n a → lit_for n (literal n 0 a) ≡ Some a
literal_back n a range = elim (cases_eq (variable a) 0) [
  | inl z ↦ rw (eq-eqb (variable a) 0 z) (signed_back n (not (is_negated a)) (0 + n + 1) (λ e. omega (arith, e)) ∙ constant_back n a z)
  | inr nz ↦ rw (ne_eqb (variable a) 0 nz) (signed_back n (is_negated a) (0 + variable a) (λ e. omega (arith, nz, e)) ∙ inside_back n a range)
]

-- a guard doesn't
pub guard_back : (m : Parts) (g : ℕ) → lit_for m.max_var (guard_literal m g) ≡ None
guard_back m g = rw (lt-ltb (m.max_var + 1) (m.max_var + 2 + g) (omega arith)) refl

-- what an assumption is
abbrev pub IsAssumed : Parts → List ℕ → List Lit → ℤ → Type 0
IsAssumed m guards lits l = ((g : ℕ) × Contains guards g × (guard_literal m g ≡ l)) ⊎ ((a : Lit) × Contains lits a × (literal m.max_var 0 a ≡ l))

pub assumed : (m : Parts) (guards : List ℕ) (lits : List Lit) (l : ℤ) → Contains (assumptions_of m guards lits) l → IsAssumed m guards lits l
assumed m guards lits l found = elim (Contains-append_cases (map (guard_literal m) guards) (map (literal m.max_var 0) lits) l found) [
  | inl guard ↦ inl (from_map (guard_literal m) guards 0 l guard)
  | inr lit ↦ inr (from_map (literal m.max_var 0) lits (record { 0 = 0 }) l lit)
]

cons_is : (n : ℕ) (l : ℤ) (core : List ℤ) (o : Option Lit) → lit_for n l ≡ o → core_lits n (l ∷ core) ≡ cons_option o (core_lits n core)
cons_is n l core o e = ap (λ x. cons_option x (core_lits n core)) e

-- the circuit's literals of a core were asked
pub core_among : (m : Parts) (guards : List ℕ) (lits : List Lit) (core : List ℤ) → ((a : Lit) → Contains lits a → IsInRange m.max_var a) → All (IsAssumed m guards lits) core →
    All (Contains lits) (core_lits m.max_var core)
core_among m guards lits [] range all = All-nil (Contains lits)
core_among m guards lits (l ∷ core) range all =
    let rest = core_among m guards lits core range (All-tail (IsAssumed m guards lits) l core all) in
    elim (All-head (IsAssumed m guards lits) l core all) [
      | inl guard ↦ subst (All (Contains lits)) (sym (cons_is m.max_var l core None (ap (lit_for m.max_var) (sym guard.2) ∙ guard_back m guard.0))) rest
      | inr lit ↦
          subst (All (Contains lits)) (sym (cons_is m.max_var l core (Some lit.0) (ap (lit_for m.max_var) (sym lit.2) ∙ literal_back m.max_var lit.0 (range lit.0 lit.1))))
          (All-cons (Contains lits) lit.0 (core_lits m.max_var core) lit.1 rest)
    ]

-- where they are true, and the guards, so is the core
pub core_true : (m : Parts) (guards : List ℕ) (lits : List Lit) (v : ℕ → Bool) (w : List Bool) (core : List ℤ) → ((a : Lit) → Contains lits a → IsInRange m.max_var a) →
    ((g : ℕ) → Contains guards g → is_true v (guard_literal m g) ≡ true) → ((a : Lit) → IsInRange m.max_var a → is_true v (literal m.max_var 0 a) ≡ value_of w a) →
    All (IsAssumed m guards lits) core → AllSet w (core_lits m.max_var core) → AreTrue v core
core_true m guards lits v w [] range on same all set = All-nil (λ l. is_true v l ≡ true)
core_true m guards lits v w (l ∷ core) range on same all set =
    let later = All-tail (IsAssumed m guards lits) l core all in
    elim (All-head (IsAssumed m guards lits) l core all) [
      | inl guard ↦
          let is = cons_is m.max_var l core None (ap (lit_for m.max_var) (sym guard.2) ∙ guard_back m guard.0) in
          All-cons (λ x. is_true v x ≡ true) l core (ap (is_true v) (sym guard.2) ∙ on guard.0 guard.1)
          (core_true m guards lits v w core range on same later (subst (AllSet w) is set))
      | inr lit ↦
          let is = cons_is m.max_var l core (Some lit.0) (ap (lit_for m.max_var) (sym lit.2) ∙ literal_back m.max_var lit.0 (range lit.0 lit.1)) in
          let both : AllSet w (lit.0 ∷ core_lits m.max_var core) = subst (AllSet w) is set in
          All-cons (λ x. is_true v x ≡ true) l core
          (ap (is_true v) (sym lit.2) ∙ same lit.0 (range lit.0 lit.1) ∙ All-head (λ (a : Lit). value_of w a ≡ true) lit.0 (core_lits m.max_var core) both)
          (core_true m guards lits v w core range on same later (All-tail (λ (a : Lit). value_of w a ≡ true) lit.0 (core_lits m.max_var core) both))
    ]
