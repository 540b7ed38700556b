-- The valuation of an assignment: in it what the circuit leaves undefined is false.
use Rattle.std.proofs.Common.{◌≡◌, ◌≢◌, ℕ, zero, suc, ◌+◌, ◌≤◌, ◌==◌, Bool, true, false, not, ◌&&◌, ◌||◌, List, [], ◌∷◌, map, length, get_or, All, Contains, ℤ, pos, negsuc, unsigned_abs, inl, inr, refl, sym, ◌∙◌, ap, arith}
use Rattle.std.specs.List.{range_with_len}
use Rattle.std.proofs.lemmas.Bool.{cases_lt, eqb-true, eq-eqb, or_cases, or_left, or_right, and_parts, and_left, false_from_ne_true, false≢true}
use Rattle.std.proofs.lemmas.List.{get_or_past}
use Rattle.std.proofs.lemmas.List.Elements.{All-contains, Contains-append_right}
use Rattle.std.proofs.lemmas.List.FromFn.{length-map-range_with_len, get_or-map-range_with_len}
use Rattle.graph.specs.declared.circuit.Lit.{Lit}
use Rattle.graph.specs.declared.parts.Parts.{Parts}
use Rattle.graph.specs.Circuits.{variable, place, value_of, defined, IsValuation}
use Rattle.graph.specs.WellFormed.{IsWellFormed}
use Rattle.graph.proofs.Evaluation.{defined_nonzero}
use Rattle.lrat.specs.Literals.{is_true, IsSatisfied}
use Rattle.cnf.specs.Clauses.{literal, denial, truth_clause}
use Rattle.cnf.specs.Formulas.{IsInRange}
use Rattle.cnf.specs.Meaning.{AreSatisfied, extension_of}
use Rattle.cnf.proofs.Formed.{Allows, IsFrom, IsKnown, literal_from, denial_from, defined_small}
use Rattle.cnf.proofs.Listed.{satisfied-unit}
use Rattle.cnf.proofs.Values.{IsLaid, extension_laid, literal_true, denial_true}

-- whether the number is in the list
abbrev pub is_among : List ℕ → ℕ → Bool
is_among [] v = false
is_among (u ∷ us) v = (u == v) || is_among us v

pub among_contains : (us : List ℕ) (v : ℕ) → is_among us v ≡ true → Contains us v
among_contains [] v e = absurd (false≢true e)
among_contains (u ∷ us) v e = elim (or_cases (u == v) (is_among us v) e) [
  | inl here ↦ (0, omega arith, eqb-true u v here)
  | inr later ↦ Contains-append_right (u ∷ []) us v (among_contains us v later)
]

pub contains_among : (us : List ℕ) (v : ℕ) → Contains us v → is_among us v ≡ true
contains_among [] v (k, lt, at) = absurd (omega arith)
contains_among (u ∷ us) v (zero, lt, at) = or_left (u == v) (is_among us v) (eq-eqb u v at)
contains_among (u ∷ us) v (suc k, lt, at) = or_right (u == v) (is_among us v) (contains_among us v (k, omega arith, at))

-- the value of a variable, where the circuit defines it
abbrev pub valued : Parts → (ℕ → Bool) → ℕ → Bool
valued m v k = is_among (defined m) k && v k

abbrev pub valuation_of : Parts → (ℕ → Bool) → List Bool
valuation_of m v = map (valued m v) (range_with_len 0 (m.max_var + 1))

place_inside : (m : Parts) (v : ℕ → Bool) (k : ℕ) → k ≤ m.max_var → place (valuation_of m v) k ≡ valued m v k
place_inside m v k k_in = get_or-map-range_with_len (valued m v) 0 (m.max_var + 1) k k false (omega arith) (omega arith)

pub place_defined : (m : Parts) (v : ℕ → Bool) (k : ℕ) → IsWellFormed m → Contains (defined m) k → place (valuation_of m v) k ≡ v k
place_defined m v k well found = place_inside m v k (defined_small m k well found) ∙ ap (λ t. t && v k) (contains_among (defined m) k found)

pub valuation_is : (m : Parts) (v : ℕ → Bool) → IsWellFormed m → IsValuation m (valuation_of m v)
valuation_is m v well =
    let long : length (valuation_of m v) ≡ m.max_var + 1 = length-map-range_with_len (valued m v) 0 (m.max_var + 1) in
    record {
      places = long;
      constant =
          let none : is_among (defined m) 0 ≡ false =
          false_from_ne_true (is_among (defined m) 0) (λ e. All-contains (λ k. k ≢ 0) (defined m) 0 (defined_nonzero m well) (among_contains (defined m) 0 e) refl) in
          place_inside m v 0 (omega arith) ∙ and_left (is_among (defined m) 0) (v 0) none;
      defined_only = λ k on. elim (cases_lt k (m.max_var + 1)) [
        | inl below ↦ among_contains (defined m) k ((and_parts (is_among (defined m) k) (v k) (sym (place_inside m v k (omega arith)) ∙ on)).0)
        | inr past ↦ absurd (false≢true (sym (get_or_past (valuation_of m v) k false (omega (arith, long, past))) ∙ on))
      ];
    }

pub valuation_laid : (m : Parts) (v : ℕ → Bool) → IsWellFormed m → IsLaid (extension_of (valuation_of m v)) 0 m.max_var (valuation_of m v)
valuation_laid m v well = extension_laid m (valuation_of m v) (valuation_is m v well)

-- a variable that a clause can look at has the same value in both
abbrev pub IsSame : Parts → (ℕ → Bool) → ℕ → Type 0
IsSame m v k = extension_of (valuation_of m v) k ≡ v k

pub same_seen : (m : Parts) (v : ℕ → Bool) → IsWellFormed m → v (0 + m.max_var + 1) ≡ true → Allows (IsSame m v) m 0
same_seen m v well on =
    let lies = valuation_laid m v well in
    record {
      top = lies.top ∙ sym on;
      inside = λ k found.
          let nz : k ≢ 0 = All-contains (λ x. x ≢ 0) (defined m) k (defined_nonzero m well) found in
          let here : 0 + k ≡ k = omega arith in
          lies.inside k nz (defined_small m k well found) ∙ place_defined m v k well found ∙ ap v (sym here);
    }

-- a literal is as true where its variable has the same value
same_true : (u v : ℕ → Bool) (l : ℤ) → u (unsigned_abs l) ≡ v (unsigned_abs l) → is_true u l ≡ is_true v l
same_true u v (pos zero) e = refl
same_true u v (pos (suc n)) e = e
same_true u v (negsuc n) e = ap not e

pub same_from : (m : Parts) (v : ℕ → Bool) (l : ℤ) → IsFrom (IsSame m v) l → is_true v l ≡ is_true (extension_of (valuation_of m v)) l
same_from m v l from = sym (same_true (extension_of (valuation_of m v)) v l from.1)

pub known_range : (m : Parts) (a : Lit) → IsWellFormed m → IsKnown m a → IsInRange m.max_var a
known_range m a well known = elim known [
  | inl constant ↦ omega (arith, constant)
  | inr found ↦ let small = defined_small m (variable a) well found in omega (arith, small)
]

pub known_in_range : (m : Parts) (lits : List Lit) → IsWellFormed m → All (IsKnown m) lits → All (IsInRange m.max_var) lits
known_in_range m lits well known k d k_in = known_range m (get_or lits k d) well (known k d k_in)

-- literals of the circuit have their values in the valuation
pub literal_valued : (m : Parts) (v : ℕ → Bool) (a : Lit) → IsWellFormed m → v (0 + m.max_var + 1) ≡ true → IsKnown m a → is_true v (literal m.max_var 0 a) ≡ value_of (valuation_of m v) a
literal_valued m v a well on known =
    same_from m v (literal m.max_var 0 a) (literal_from (IsSame m v) m 0 a (same_seen m v well on) known)
    ∙ literal_true (extension_of (valuation_of m v)) 0 m.max_var (valuation_of m v) a (valuation_laid m v well) (known_range m a well known)

pub denial_valued : (m : Parts) (v : ℕ → Bool) (a : Lit) → IsWellFormed m → v (0 + m.max_var + 1) ≡ true → IsKnown m a → is_true v (denial m.max_var 0 a) ≡ not (value_of (valuation_of m v) a)
denial_valued m v a well on known =
    same_from m v (denial m.max_var 0 a) (denial_from (IsSame m v) m 0 a (same_seen m v well on) known)
    ∙ denial_true (extension_of (valuation_of m v)) 0 m.max_var (valuation_of m v) a (valuation_laid m v well) (known_range m a well known)

pub pos_true : (v : ℕ → Bool) (k : ℕ) → k ≢ 0 → is_true v (pos k) ≡ v k
pos_true v zero ne = absurd (ne refl)
pos_true v (suc k) ne = refl

-- what is true is so in what satisfies clauses that say so
pub truth_on : (m : Parts) (v : ℕ → Bool) (cs : List (List ℤ)) → Contains cs (truth_clause m.max_var 0) → AreSatisfied v cs → v (0 + m.max_var + 1) ≡ true
truth_on m v cs found all =
    sym (pos_true v (0 + m.max_var + 1) (λ e. omega (arith, e)))
    ∙ satisfied-unit v (pos (0 + m.max_var + 1)) (All-contains (IsSatisfied v) cs (truth_clause m.max_var 0) all found)
