-- What the cases of an invariant say, both ways.
use Rattle.std.proofs.Common.{◌≡◌, ℕ, ◌+◌, ◌-◌, ◌/◌, ◌%◌, ◌<◌, ◌≤◌, Bool, true, false, not, inl, inr, List, [], ◌∷◌, ◌++◌, map, take, length, get_or, All, Contains, ℤ, refl, sym, ◌∙◌, ap, subst, arith}
use Rattle.std.specs.Prelude.{flat_map}
use Rattle.std.proofs.lemmas.Bool.{cases_eq, eq-eqb, ne_eqb, not-true}
use Rattle.std.proofs.lemmas.List.{get_or-map, length-map, get_or_default, take_more, map-append}
use Rattle.std.proofs.lemmas.List.Elements.{All-nil, All-cons, All-head, All-tail, All-append, All-map, Contains-get_or}
use Rattle.graph.specs.declared.circuit.Lit.{Lit}
use Rattle.graph.specs.declared.circuit.Latch.{Latch}
use Rattle.graph.specs.declared.parts.Parts.{Parts}
use Rattle.graph.specs.Circuits.{variable, place, value_of, IsValuation, Agrees, IsReset, IsInitial, IsStep}
use Rattle.graph.specs.WellFormed.{IsWellFormed}
use Rattle.graph.proofs.Evaluation.{All-left, All-right, All-unmap, latches_in_range, latches_even}
use Rattle.graph.proofs.Gates.{value_of-even}
use Rattle.graph.proofs.Shape.{All-flat_map, All-unflat_map}
use Rattle.graph.proofs.Tabled.{holds_of_used}
use Rattle.lrat.specs.Literals.{is_true, IsSatisfied}
use Rattle.lrat.specs.Shared.{unit_clauses}
use Rattle.cnf.specs.Clauses.{literal, denial, along, next_of, is_negated, truth_clause, frame_at, time_clauses, reset_clauses, start_clauses, init_units, init_clauses, shared_clauses, step_units, step_clauses, bad_units}
use Rattle.cnf.specs.Formulas.{IsInRange, IsOverLatches}
use Rattle.cnf.specs.Meaning.{extension_of, AreSatisfied, HoldsClause, Denies, DeniesNext, KeepsNow, IsKept, InitLaw, StepLaw, BadLaw}
use Rattle.cnf.proofs.Listed.{unit-satisfied, satisfied-unit, units-satisfied, satisfied-units, Contains-rest}
use Rattle.cnf.proofs.Values.{IsLaid, extension_laid, literal_true, denial_true, truth_true, turned}
use Rattle.cnf.proofs.Frames.{frame_satisfied, frame_agrees}

-- the literals of a clause over the latches are in range
over_range : (m : Parts) (a : Lit) → IsWellFormed m → Contains (map (λ l. variable l.lit) m.latches) (variable a) → IsInRange m.max_var a
over_range m a well found =
    let blank : Latch = record { lit = record { 0 = 0 }; next = record { 0 = 0 }; reset = record { 0 = 0 } } in
    let k_in : found.0 < length m.latches = omega (arith, found.1, length-map m.latches (λ (l : Latch). variable l.lit)) in
    let same : variable (get_or m.latches found.0 blank).lit ≡ variable a = sym (get_or-map (λ (l : Latch). variable l.lit) m.latches found.0 blank (variable a) k_in) ∙ found.2 in
    let range = latches_in_range m well found.0 blank k_in in
    omega arith

pub clause_range : (m : Parts) (c : List Lit) → IsWellFormed m → IsOverLatches m c → All (IsInRange m.max_var) c
clause_range m c well over k d k_in = over_range m (get_or c k d) well (over k d k_in)

along_range : (n : ℕ) (b : Bool) (a : Lit) → IsInRange n a → IsInRange n (along b a)
along_range n false a range = range
along_range n true a range = elim (cases_eq (a.0 % 2) 1) [
  | inl odd ↦ rw (eq-eqb (a.0 % 2) 1 odd) (omega arith)
  | inr even ↦ rw (ne_eqb (a.0 % 2) 1 even) (omega arith)
]

next_range : (n : ℕ) (ls : List Latch) (a : Lit) → All (λ l. IsInRange n l.next) ls → IsInRange n a → IsInRange n (next_of ls a)
next_range n [] a all range = range
next_range n (l ∷ ls) a all range = elim (cases_eq (variable l.lit) (variable a)) [
  | inl same ↦ rw (eq-eqb (variable l.lit) (variable a) same) (along_range n (is_negated a) l.next (All-head (λ (x : Latch). IsInRange n x.next) l ls all))
  | inr apart ↦ rw (ne_eqb (variable l.lit) (variable a) apart) (next_range n ls a (All-tail (λ (x : Latch). IsInRange n x.next) l ls all) range)
]

pub nexts_in_range : (m : Parts) → IsWellFormed m → All (λ l. IsInRange m.max_var l.next) m.latches
nexts_in_range m well = (holds_of_used (IsInRange m.max_var) m well.used_in_range).next

pub constraints_in_range : (m : Parts) → IsWellFormed m → All (IsInRange m.max_var) m.constraints
constraints_in_range m well = (holds_of_used (IsInRange m.max_var) m well.used_in_range).constraints

pub bad_in_range : (m : Parts) → IsWellFormed m → All (IsInRange m.max_var) m.bad
bad_in_range m well = (holds_of_used (IsInRange m.max_var) m well.used_in_range).bad

twice : (b : Bool) → b ≡ not (not b)
twice true = refl
twice false = refl

-- the value of a negated literal
value_along : (w : List Bool) (b : Bool) (a : Lit) → value_of w (along b a) ≡ turned b (value_of w a)
value_along w false a = refl
value_along w true a = elim (cases_eq (a.0 % 2) 1) [
  | inl odd ↦
      let half : (a.0 - 1) / 2 ≡ a.0 / 2 = omega arith in
      let even : (a.0 - 1) % 2 ≡ 0 = omega arith in
      rw (eq-eqb (a.0 % 2) 1 odd, even, half) (twice (place w (a.0 / 2)))
  | inr not_odd ↦
      let half : (a.0 + 1) / 2 ≡ a.0 / 2 = omega arith in
      let odd : (a.0 + 1) % 2 ≡ 1 = omega arith in
      rw (ne_eqb (a.0 % 2) 1 not_odd, odd, half) refl
]

-- the next state has the values of the next literals
next_values : (ls : List Latch) (w x : List Bool) (a : Lit) → All (λ l. (2 ≤ l.lit.0) × (l.lit.0 % 2 ≡ 0)) ls →
    map (λ l. value_of x l.lit) ls ≡ map (λ l. value_of w l.next) ls → Contains (map (λ l. variable l.lit) ls) (variable a) → value_of x a ≡ value_of w (next_of ls a)
next_values [] w x a even same (k, lt, at) = absurd (omega arith)
next_values (l ∷ ls) w x a even same found = elim (cases_eq (variable l.lit) (variable a)) [
  | inl here ↦
      let parity : l.lit.0 % 2 ≡ 0 = (All-head (λ (y : Latch). (2 ≤ y.lit.0) × (y.lit.0 % 2 ≡ 0)) l ls even).1 in
      let head : value_of x l.lit ≡ value_of w l.next = cc in
      let at : place x (variable a) ≡ value_of w l.next = ap (place x) (sym here) ∙ sym (value_of-even x l.lit parity) ∙ head in
      rw (eq-eqb (variable l.lit) (variable a) here) (ap (turned (is_negated a)) at ∙ sym (value_along w (is_negated a) l.next))
  | inr apart ↦
      let rest : map (λ (y : Latch). value_of x y.lit) ls ≡ map (λ (y : Latch). value_of w y.next) ls = cc in
      rw (ne_eqb (variable l.lit) (variable a) apart) (next_values ls w x a (All-tail (λ (y : Latch). (2 ≤ y.lit.0) × (y.lit.0 % 2 ≡ 0)) l ls even) rest
      (Contains-rest (variable l.lit) (variable a) (map (λ (y : Latch). variable y.lit) ls) apart found))
]

pub next_value : (m : Parts) (w x : List Bool) (a : Lit) → IsWellFormed m → IsStep m w x → Contains (map (λ l. variable l.lit) m.latches) (variable a) → value_of x a ≡ value_of w (next_of m.latches a)
next_value m w x a well step found = next_values m.latches w x a (latches_even m well) step found

-- units of literals and of denials, both ways
pub literal_units : (v : ℕ → Bool) (o n : ℕ) (w : List Bool) (ls : List Lit) → IsLaid v o n w → All (IsInRange n) ls → All (λ a. value_of w a ≡ true) ls →
    AreSatisfied v (unit_clauses (map (literal n o) ls))
literal_units v o n w ls at range all = units-satisfied v (map (literal n o) ls)
    (All-map (λ l. is_true v l ≡ true) (literal n o) ls (λ k d k_in. literal_true v o n w (get_or ls k d) at (range k d k_in) ∙ all k d k_in))

pub units_literal : (v : ℕ → Bool) (o n : ℕ) (w : List Bool) (ls : List Lit) → IsLaid v o n w → All (IsInRange n) ls →
    AreSatisfied v (unit_clauses (map (literal n o) ls)) → All (λ a. value_of w a ≡ true) ls
units_literal v o n w ls at range all k d k_in =
    sym (literal_true v o n w (get_or ls k d) at (range k d k_in))
    ∙ All-unmap (λ l. is_true v l ≡ true) (literal n o) ls (satisfied-units v (map (literal n o) ls) all) k d k_in

not_false_is_true : (b : Bool) → b ≡ false → not b ≡ true
not_false_is_true b e = rw e refl

denial_units : (v : ℕ → Bool) (o n : ℕ) (w : List Bool) (ls : List Lit) → IsLaid v o n w → All (IsInRange n) ls → Denies w ls →
    AreSatisfied v (unit_clauses (map (denial n o) ls))
denial_units v o n w ls at range all = units-satisfied v (map (denial n o) ls)
    (All-map (λ l. is_true v l ≡ true) (denial n o) ls (λ k d k_in. denial_true v o n w (get_or ls k d) at (range k d k_in) ∙ not_false_is_true _ (all k d k_in)))

units_denial : (v : ℕ → Bool) (o n : ℕ) (w : List Bool) (ls : List Lit) → IsLaid v o n w → All (IsInRange n) ls →
    AreSatisfied v (unit_clauses (map (denial n o) ls)) → Denies w ls
units_denial v o n w ls at range all k d k_in = not-true (value_of w (get_or ls k d))
    (sym (denial_true v o n w (get_or ls k d) at (range k d k_in))
    ∙ All-unmap (λ l. is_true v l ≡ true) (denial n o) ls (satisfied-units v (map (denial n o) ls) all) k d k_in)

-- a clause of the invariant, both ways
clause_satisfied : (v : ℕ → Bool) (o n : ℕ) (w : List Bool) (c : List Lit) → IsLaid v o n w → All (IsInRange n) c → HoldsClause w c → IsSatisfied v (map (literal n o) c)
clause_satisfied v o n w c at range (k, a, k_in, is_a, on) =
    let here : get_or c k a ≡ a = is_a in
    let in_range : IsInRange n a = subst (IsInRange n) here (range k a k_in) in (
      literal n o a,
      subst (Contains (map (literal n o) c)) (get_or-map (literal n o) c k a (literal n o a) k_in ∙ ap (literal n o) here)
          (Contains-get_or (map (literal n o) c) k (literal n o a) (omega (arith, length-map c (literal n o)))),
      literal_true v o n w a at in_range ∙ on,
    )

satisfied_clause : (v : ℕ → Bool) (o n : ℕ) (w : List Bool) (c : List Lit) → IsLaid v o n w → All (IsInRange n) c → IsSatisfied v (map (literal n o) c) → HoldsClause w c
satisfied_clause v o n w c at range (l, (k, lt, is_l), on) =
    let blank : Lit = record { 0 = 0 } in
    let k_in : k < length c = omega (arith, length-map c (literal n o)) in
    let a : Lit = get_or c k blank in
    let same : literal n o a ≡ l = sym (get_or-map (literal n o) c k blank l k_in) ∙ is_l in
    (k, a, k_in, get_or_default c k a blank k_in, sym (literal_true v o n w a at (range k blank k_in)) ∙ ap (is_true v) same ∙ on)

-- the latches' resets, both ways
reset_satisfied : (v : ℕ → Bool) (o n : ℕ) (w : List Bool) (l : Latch) → IsLaid v o n w → IsInRange n l.lit → IsReset w l → AreSatisfied v (reset_clauses n o l)
reset_satisfied v o n w l at range reset = elim (cases_eq l.reset.0 0) [
  | inl low ↦ rw (eq-eqb l.reset.0 0 low)
      (units-satisfied v (denial n o l.lit ∷ []) (All-cons (λ k. is_true v k ≡ true) (denial n o l.lit) []
      (denial_true v o n w l.lit at range ∙ not_false_is_true _ (reset.low low)) (All-nil (λ k. is_true v k ≡ true))))
  | inr not_low ↦ rw (ne_eqb l.reset.0 0 not_low) (elim (cases_eq l.reset.0 1) [
    | inl high ↦ rw (eq-eqb l.reset.0 1 high)
        (units-satisfied v (literal n o l.lit ∷ []) (All-cons (λ k. is_true v k ≡ true) (literal n o l.lit) []
        (literal_true v o n w l.lit at range ∙ reset.high high) (All-nil (λ k. is_true v k ≡ true))))
    | inr not_high ↦ rw (ne_eqb l.reset.0 1 not_high) (All-nil (IsSatisfied v))
  ])
]

satisfied_reset : (v : ℕ → Bool) (o n : ℕ) (w : List Bool) (l : Latch) → IsLaid v o n w → IsInRange n l.lit → AreSatisfied v (reset_clauses n o l) → IsReset w l
satisfied_reset v o n w l at range all = record {
  low = λ is_low. let unit : AreSatisfied v ((denial n o l.lit ∷ []) ∷ []) = rw (eq-eqb l.reset.0 0 is_low) at all in
      not-true (value_of w l.lit) (sym (denial_true v o n w l.lit at range) ∙ satisfied-unit v (denial n o l.lit) (All-head (IsSatisfied v) (denial n o l.lit ∷ []) [] unit));
  high = λ is_high. let apart : l.reset.0 ≡ 0 → ⊥ = λ e. omega arith in
      let unit : AreSatisfied v ((literal n o l.lit ∷ []) ∷ []) = rw (eq-eqb l.reset.0 1 is_high) at (rw (ne_eqb l.reset.0 0 apart) at all) in
      sym (literal_true v o n w l.lit at range) ∙ satisfied-unit v (literal n o l.lit) (All-head (IsSatisfied v) (literal n o l.lit ∷ []) [] unit);
}

pub resets_satisfied : (v : ℕ → Bool) (o : ℕ) (m : Parts) (w : List Bool) → IsWellFormed m → IsLaid v o m.max_var w → IsInitial m w →
    AreSatisfied v (flat_map (reset_clauses m.max_var o) m.latches)
resets_satisfied v o m w well at initial =
    All-flat_map (IsSatisfied v) (reset_clauses m.max_var o) m.latches
    (λ k d k_in. reset_satisfied v o m.max_var w (get_or m.latches k d) at (latches_in_range m well k d k_in) (initial k d k_in))

pub satisfied_resets : (v : ℕ → Bool) (o : ℕ) (m : Parts) (w : List Bool) → IsWellFormed m → IsLaid v o m.max_var w →
    AreSatisfied v (flat_map (reset_clauses m.max_var o) m.latches) → IsInitial m w
satisfied_resets v o m w well at all k d k_in =
    satisfied_reset v o m.max_var w (get_or m.latches k d) at (latches_in_range m well k d k_in)
    (All-unflat_map (IsSatisfied v) (reset_clauses m.max_var o) m.latches all k d k_in)

-- an initial case
init_satisfied : (m : Parts) (c : List Lit) (w : List Bool) → IsWellFormed m → IsOverLatches m c → IsValuation m w → IsInitial m w → Denies w c →
    AreSatisfied (extension_of w) (init_clauses m c)
init_satisfied m c w well over h initial denies =
    let n : ℕ = m.max_var in let v : ℕ → Bool = extension_of w in let at = extension_laid m w h in
    let resets : List (List ℤ) = flat_map (reset_clauses n 0) m.latches in
    All-append (IsSatisfied v) (start_clauses m) (unit_clauses (init_units m c))
    (All-cons (IsSatisfied v) (truth_clause n 0) resets (unit-satisfied v _ (truth_true v 0 n w at)) (resets_satisfied v 0 m w well at initial))
    (denial_units v 0 n w c at (clause_range m c well over) denies)

init_says : (m : Parts) (c : List Lit) (w : List Bool) → IsWellFormed m → IsOverLatches m c → IsValuation m w → AreSatisfied (extension_of w) (init_clauses m c) →
    IsInitial m w × Denies w c
init_says m c w well over h all =
    let n : ℕ = m.max_var in let v : ℕ → Bool = extension_of w in let at = extension_laid m w h in
    let resets : List (List ℤ) = flat_map (reset_clauses n 0) m.latches in (
      satisfied_resets v 0 m w well at (All-tail (IsSatisfied v) (truth_clause n 0) resets (All-left (IsSatisfied v) (start_clauses m) (unit_clauses (init_units m c)) all)),
      units_denial v 0 n w c at (clause_range m c well over) (All-right (IsSatisfied v) (start_clauses m) (unit_clauses (init_units m c)) all),
    )

pub init_law : (m : Parts) (c : List Lit) → IsWellFormed m → IsOverLatches m c → InitLaw m c
init_law m c well over w h = (λ p. init_satisfied m c w well over h p.0 p.1, init_says m c w well over h)

-- truth, gates and constraints of the time that lies after the first o variables
pub time_satisfied : (v : ℕ → Bool) (o : ℕ) (m : Parts) (w : List Bool) → IsWellFormed m → IsLaid v o m.max_var w → Agrees m w → KeepsNow m w → AreSatisfied v (time_clauses m o)
time_satisfied v o m w well at agrees keeps =
    All-append (IsSatisfied v) (frame_at m o) (unit_clauses (map (literal m.max_var o) m.constraints)) (frame_satisfied v o m w well at agrees)
    (literal_units v o m.max_var w m.constraints at (constraints_in_range m well) keeps)

pub time_says : (v : ℕ → Bool) (o : ℕ) (m : Parts) (w : List Bool) → IsWellFormed m → IsLaid v o m.max_var w → IsValuation m w → AreSatisfied v (time_clauses m o) →
    Agrees m w × KeepsNow m w
time_says v o m w well at h all =
    let keeps : List (List ℤ) = unit_clauses (map (literal m.max_var o) m.constraints) in (
      frame_agrees v o m w well at h (All-left (IsSatisfied v) (frame_at m o) keeps all),
      units_literal v o m.max_var w m.constraints at (constraints_in_range m well) (All-right (IsSatisfied v) (frame_at m o) keeps all),
    )

-- what the step and bad cases share
shared_satisfied : (m : Parts) (inv : List (List Lit)) (w : List Bool) → IsWellFormed m → All (IsOverLatches m) inv → IsKept m inv w →
    AreSatisfied (extension_of w) (shared_clauses m inv)
shared_satisfied m inv w well over kept =
    let n : ℕ = m.max_var in let v : ℕ → Bool = extension_of w in let at = extension_laid m w kept.agrees.valuation in
    All-append (IsSatisfied v) (time_clauses m 0) (map (map (literal n 0)) inv) (time_satisfied v 0 m w well at kept.agrees kept.keeps)
    (All-map (IsSatisfied v) (map (literal n 0)) inv
    (λ k d k_in. clause_satisfied v 0 n w (get_or inv k d) at (clause_range m (get_or inv k d) well (over k d k_in)) (kept.holds k d k_in)))

shared_says : (m : Parts) (inv : List (List Lit)) (w : List Bool) → IsWellFormed m → All (IsOverLatches m) inv → IsValuation m w →
    AreSatisfied (extension_of w) (shared_clauses m inv) → IsKept m inv w
shared_says m inv w well over h all =
    let n : ℕ = m.max_var in let v : ℕ → Bool = extension_of w in let at = extension_laid m w h in
    let here = time_says v 0 m w well at h (All-left (IsSatisfied v) (time_clauses m 0) (map (map (literal n 0)) inv) all) in
    let last : AreSatisfied v (map (map (literal n 0)) inv) = All-right (IsSatisfied v) (time_clauses m 0) (map (map (literal n 0)) inv) all in
    record {
      agrees = here.0;
      keeps = here.1;
      holds = λ k d k_in. satisfied_clause v 0 n w (get_or inv k d) at (clause_range m (get_or inv k d) well (over k d k_in)) (All-unmap (IsSatisfied v) (map (literal n 0)) inv last k d k_in);
    }

-- the next literals of a clause
abbrev pub nexts : Parts → List Lit → List Lit
nexts m c = map (next_of m.latches) c

pub nexts_range : (m : Parts) (c : List Lit) → IsWellFormed m → IsOverLatches m c → All (IsInRange m.max_var) (nexts m c)
nexts_range m c well over = All-map (IsInRange m.max_var) (next_of m.latches) c
    (λ k d k_in. next_range m.max_var m.latches (get_or c k d) (nexts_in_range m well) (clause_range m c well over k d k_in))

-- the next literal of one
pub next_of_range : (m : Parts) (c : List Lit) → IsWellFormed m → IsOverLatches m c → All (λ a. IsInRange m.max_var (next_of m.latches a)) c
next_of_range m c well over k d k_in = next_range m.max_var m.latches (get_or c k d) (nexts_in_range m well) (clause_range m c well over k d k_in)

pub step_units_are : (m : Parts) (c : List Lit) → map (denial m.max_var 0) (nexts m c) ≡ step_units m c
step_units_are m [] = refl
step_units_are m (a ∷ c) = ap (λ ls. denial m.max_var 0 (next_of m.latches a) ∷ ls) (step_units_are m c)

-- one more unit
pub step_units_more : (m : Parts) (c : List Lit) (i : ℕ) (d : Lit) (us vs : List ℤ) (b : Lit) (l : ℤ) → i < length c → us ≡ step_units m (take i c) →
    b ≡ next_of m.latches (get_or c i d) → l ≡ denial m.max_var 0 b → vs ≡ us ++ l ∷ [] → vs ≡ step_units m (take (i + 1) c)
step_units_more m c i d us vs b l i_in before is_next is_unit more =
    more ∙ rw (before, is_unit, is_next, take_more c i d i_in) (sym (map-append (λ a. denial m.max_var 0 (next_of m.latches a)) (take i c) (get_or c i d ∷ [])))

denies_nexts : (m : Parts) (w : List Bool) (c : List Lit) → DeniesNext m w c → Denies w (nexts m c)
denies_nexts m w c all = All-map (λ a. value_of w a ≡ false) (next_of m.latches) c all

nexts_denied : (m : Parts) (w : List Bool) (c : List Lit) → Denies w (nexts m c) → DeniesNext m w c
nexts_denied m w c all = All-unmap (λ a. value_of w a ≡ false) (next_of m.latches) c all

step_satisfied : (m : Parts) (inv : List (List Lit)) (c : List Lit) (w : List Bool) → IsWellFormed m → All (IsOverLatches m) inv → IsOverLatches m c →
    IsKept m inv w → DeniesNext m w c → AreSatisfied (extension_of w) (step_clauses m inv c)
step_satisfied m inv c w well overs over kept denies =
    let v : ℕ → Bool = extension_of w in
    All-append (IsSatisfied v) (shared_clauses m inv) (unit_clauses (step_units m c)) (shared_satisfied m inv w well overs kept)
    (subst (λ ls. AreSatisfied v (unit_clauses ls)) (step_units_are m c)
    (denial_units v 0 m.max_var w (nexts m c) (extension_laid m w kept.agrees.valuation) (nexts_range m c well over) (denies_nexts m w c denies)))

step_says : (m : Parts) (inv : List (List Lit)) (c : List Lit) (w : List Bool) → IsWellFormed m → All (IsOverLatches m) inv → IsOverLatches m c → IsValuation m w →
    AreSatisfied (extension_of w) (step_clauses m inv c) → IsKept m inv w × DeniesNext m w c
step_says m inv c w well overs over h all =
    let v : ℕ → Bool = extension_of w in (
      shared_says m inv w well overs h (All-left (IsSatisfied v) (shared_clauses m inv) (unit_clauses (step_units m c)) all),
      nexts_denied m w c (units_denial v 0 m.max_var w (nexts m c) (extension_laid m w h) (nexts_range m c well over)
          (subst (λ ls. AreSatisfied v (unit_clauses ls)) (sym (step_units_are m c)) (All-right (IsSatisfied v) (shared_clauses m inv) (unit_clauses (step_units m c)) all))),
    )

pub step_law : (m : Parts) (inv : List (List Lit)) (c : List Lit) → IsWellFormed m → All (IsOverLatches m) inv → IsOverLatches m c → StepLaw m inv c
step_law m inv c well overs over w h = (λ p. step_satisfied m inv c w well overs over p.0 p.1, step_says m inv c w well overs over h)

one_literal : (P : Lit → Type 0) (a : Lit) → P a → All P (a ∷ [])
one_literal P a p = All-cons P a [] p (All-nil P)

pub bad_law : (m : Parts) (inv : List (List Lit)) (a : Lit) → IsWellFormed m → All (IsOverLatches m) inv → IsInRange m.max_var a → BadLaw m inv a
bad_law m inv a well overs range w h =
    let v : ℕ → Bool = extension_of w in
    let last : List (List ℤ) = unit_clauses (bad_units m a) in let at = extension_laid m w h in
    let ranges = one_literal (IsInRange m.max_var) a range in (
      λ p. All-append (IsSatisfied v) (shared_clauses m inv) last (shared_satisfied m inv w well overs p.0)
          (literal_units v 0 m.max_var w (a ∷ []) at ranges (one_literal (λ b. value_of w b ≡ true) a p.1)),
      λ all. (
        shared_says m inv w well overs h (All-left (IsSatisfied v) (shared_clauses m inv) last all),
        All-head (λ b. value_of w b ≡ true) a [] (units_literal v 0 m.max_var w (a ∷ []) at ranges (All-right (IsSatisfied v) (shared_clauses m inv) last all)),
      ),
    )
