-- The clauses of a circuit have literals of its variables, and few clauses.
use Rattle.std.proofs.Common.{◌≡◌, ◌≢◌, ℕ, zero, suc, ◌+◌, ◌-◌, ◌*◌, ◌/◌, ◌%◌, ◌<◌, ◌≤◌, ◌==◌, if◌then◌else◌, Bool, true, false, not, ◌⊎◌, inl, inr, List, [], ◌∷◌, ◌++◌, map, length, get_or, All, Contains, ℤ, pos, unsigned_abs, refl, sym, ◌∙◌, ap, subst, arith, length-append}
use Rattle.std.specs.Prelude.{flat_map}
use Rattle.std.proofs.lemmas.Bool.{cases_eq, eq-eqb, ne_eqb}
use Rattle.std.proofs.lemmas.List.{length-map}
use Rattle.std.proofs.lemmas.List.Elements.{All-nil, All-cons, All-head, All-tail, All-append, All-map, All-contains, Contains-append_left, Contains-append_right}
use Rattle.graph.specs.declared.circuit.Lit.{Lit}
use Rattle.graph.specs.declared.circuit.Latch.{Latch}
use Rattle.graph.specs.declared.circuit.Gate.{Gate}
use Rattle.graph.specs.declared.parts.Parts.{Parts}
use Rattle.graph.specs.Circuits.{variable, defined}
use Rattle.graph.specs.WellFormed.{IsWellFormed, used}
use Rattle.graph.proofs.Evaluation.{held, Contains-map, All-left, latches_in_range, lefts_in_range}
use Rattle.graph.proofs.Gates.{left}
use Rattle.graph.proofs.Shape.{All-flat_map}
use Rattle.graph.proofs.Tabled.{holds_of_used}
use Rattle.lrat.specs.Limits.{IsFormula}
use Rattle.lrat.specs.Literals.{IsLiteral}
use Rattle.lrat.specs.Shared.{unit_clauses}
use Rattle.cnf.specs.Clauses.{signed, is_negated, literal, denial, truth_clause, gate_clauses, reset_clauses, frame_at, time_clauses, frame_clauses, start_clauses, init_units, init_clauses, shared_clauses, along, next_of, step_units, step_clauses, bad_units, bad_clauses}
use Rattle.cnf.specs.Formulas.{IsOverLatches, IsOfTimes, IsOver, IsClause, IsInvariant, formula_of, frame_formula, start_formula, shared_formula}
use Rattle.cnf.proofs.CaseLaws.{nexts, step_units_are}

-- a literal of an allowed variable
abbrev pub IsFrom : (ℕ → Type 0) → ℤ → Type 0
IsFrom Q l = (l ≢ pos 0) × Q (unsigned_abs l)

abbrev pub IsClauseFrom : (ℕ → Type 0) → List ℤ → Type 0
IsClauseFrom Q c = All (IsFrom Q) c

abbrev pub AreFrom : (ℕ → Type 0) → List (List ℤ) → Type 0
AreFrom Q cs = All (IsClauseFrom Q) cs

-- the variables of the time after the first o ones are allowed
pub record Allows (Q : ℕ → Type 0) (m : Parts) (o : ℕ) : Type 0 where
  pub top : Q (o + m.max_var + 1)
  pub inside : (v : ℕ) → Contains (defined m) v → Q (o + v)

-- the constant or of a variable that the circuit defines
abbrev pub IsKnown : Parts → Lit → Type 0
IsKnown m a = (variable a ≡ 0) ⊎ Contains (defined m) (variable a)

signed_from : (Q : ℕ → Type 0) (b : Bool) (u : ℕ) → u ≢ 0 → Q u → IsFrom Q (signed b u)
signed_from Q b zero ne q = absurd (ne refl)
signed_from Q true (suc u) ne q = (λ e. cc, q)
signed_from Q false (suc u) ne q = (λ e. let z : suc u ≡ 0 = cc in ne z, q)

pub chosen_from : (Q : ℕ → Type 0) (b c : Bool) (k o top : ℕ) → top ≢ 0 → Q top → (k ≢ 0 → Q (o + k)) → IsFrom Q (if k == 0 then signed b top else signed c (o + k))
chosen_from Q b c k o top ne q inside = elim (cases_eq k 0) [
  | inl z ↦ rw (eq-eqb k 0 z) (signed_from Q b top ne q)
  | inr nz ↦ rw (ne_eqb k 0 nz) (signed_from Q c (o + k) (λ e. omega arith) (inside nz))
]

inside_if : (Q : ℕ → Type 0) (m : Parts) (o : ℕ) (a : Lit) → Allows Q m o → IsKnown m a → variable a ≢ 0 → Q (o + variable a)
inside_if Q m o a allows known nz = elim known [ inl z ↦ absurd (nz z) | inr found ↦ allows.inside (variable a) found ]

pub literal_from : (Q : ℕ → Type 0) (m : Parts) (o : ℕ) (a : Lit) → Allows Q m o → IsKnown m a → IsFrom Q (literal m.max_var o a)
literal_from Q m o a allows known =
    chosen_from Q (not (is_negated a)) (is_negated a) (variable a) o (o + m.max_var + 1) (λ e. omega arith) allows.top (inside_if Q m o a allows known)

pub denial_from : (Q : ℕ → Type 0) (m : Parts) (o : ℕ) (a : Lit) → Allows Q m o → IsKnown m a → IsFrom Q (denial m.max_var o a)
denial_from Q m o a allows known =
    chosen_from Q (is_negated a) (not (is_negated a)) (variable a) o (o + m.max_var + 1) (λ e. omega arith) allows.top (inside_if Q m o a allows known)

-- what is known of the circuit's literals
latch_defined : (m : Parts) (v : ℕ) → Contains (map held m.latches) v → Contains (defined m) v
latch_defined m v found =
    Contains-append_left (map variable m.inputs ++ map held m.latches) (map left m.gates) v (Contains-append_right (map variable m.inputs) (map held m.latches) v found)

pub latches_known : (m : Parts) → All (λ l. IsKnown m l.lit) m.latches
latches_known m k d k_in = inr (latch_defined m (held (get_or m.latches k d)) (Contains-map held m.latches k d k_in))

pub clause_known : (m : Parts) (c : List Lit) → IsOverLatches m c → All (IsKnown m) c
clause_known m c over k d k_in = inr (latch_defined m (variable (get_or c k d)) (over k d k_in))

gates_known : (m : Parts) → All (λ g. IsKnown m g.lhs) m.gates
gates_known m k d k_in =
    inr (Contains-append_right (map variable m.inputs ++ map held m.latches) (map left m.gates) (left (get_or m.gates k d)) (Contains-map left m.gates k d k_in))

along_known : (m : Parts) (b : Bool) (a : Lit) → IsKnown m a → IsKnown m (along b a)
along_known m false a known = known
along_known m true a known = elim (cases_eq (a.0 % 2) 1) [
  | inl odd ↦ rw (eq-eqb (a.0 % 2) 1 odd) (let e : a.0 / 2 ≡ (a.0 - 1) / 2 = omega arith in subst (λ v. (v ≡ 0) ⊎ Contains (defined m) v) e known)
  | inr even ↦ rw (ne_eqb (a.0 % 2) 1 even) (let e : a.0 / 2 ≡ (a.0 + 1) / 2 = omega arith in subst (λ v. (v ≡ 0) ⊎ Contains (defined m) v) e known)
]

next_known : (m : Parts) (ls : List Latch) (a : Lit) → All (λ l. IsKnown m l.next) ls → IsKnown m a → IsKnown m (next_of ls a)
next_known m [] a all known = known
next_known m (l ∷ ls) a all known = elim (cases_eq (variable l.lit) (variable a)) [
  | inl same ↦ rw (eq-eqb (variable l.lit) (variable a) same) (along_known m (is_negated a) l.next (All-head (λ (x : Latch). IsKnown m x.next) l ls all))
  | inr apart ↦ rw (ne_eqb (variable l.lit) (variable a) apart) (next_known m ls a (All-tail (λ (x : Latch). IsKnown m x.next) l ls all) known)
]

nexts_known : (m : Parts) (c : List Lit) → IsWellFormed m → IsOverLatches m c → All (IsKnown m) (nexts m c)
nexts_known m c well over = All-map (IsKnown m) (next_of m.latches) c
    (λ k d k_in. next_known m m.latches (get_or c k d) ((holds_of_used (IsKnown m) m well.used_defined).next) (clause_known m c over k d k_in))

-- clauses from their literals
one : (Q : ℕ → Type 0) (l : ℤ) → IsFrom Q l → IsClauseFrom Q (l ∷ [])
one Q l p = All-cons (IsFrom Q) l [] p (All-nil (IsFrom Q))

pub two : (Q : ℕ → Type 0) (l k : ℤ) → IsFrom Q l → IsFrom Q k → IsClauseFrom Q (l ∷ k ∷ [])
two Q l k p q = All-cons (IsFrom Q) l (k ∷ []) p (one Q k q)

units_from : (Q : ℕ → Type 0) (ls : List ℤ) → IsClauseFrom Q ls → AreFrom Q (unit_clauses ls)
units_from Q ls all = All-map (IsClauseFrom Q) (λ l. l ∷ []) ls (λ k d k_in. one Q (get_or ls k d) (all k d k_in))

literals_from : (Q : ℕ → Type 0) (m : Parts) (o : ℕ) (c : List Lit) → Allows Q m o → All (IsKnown m) c → IsClauseFrom Q (map (literal m.max_var o) c)
literals_from Q m o c allows known = All-map (IsFrom Q) (literal m.max_var o) c (λ k d k_in. literal_from Q m o (get_or c k d) allows (known k d k_in))

denials_from : (Q : ℕ → Type 0) (m : Parts) (o : ℕ) (c : List Lit) → Allows Q m o → All (IsKnown m) c → IsClauseFrom Q (map (denial m.max_var o) c)
denials_from Q m o c allows known = All-map (IsFrom Q) (denial m.max_var o) c (λ k d k_in. denial_from Q m o (get_or c k d) allows (known k d k_in))

truth_from : (Q : ℕ → Type 0) (m : Parts) (o : ℕ) → Allows Q m o → IsClauseFrom Q (truth_clause m.max_var o)
truth_from Q m o allows = one Q (pos (o + m.max_var + 1)) (signed_from Q false (o + m.max_var + 1) (λ e. omega arith) allows.top)

gate_from : (Q : ℕ → Type 0) (m : Parts) (o : ℕ) (g : Gate) → Allows Q m o → IsKnown m g.lhs → IsKnown m g.rhs0 → IsKnown m g.rhs1 → AreFrom Q (gate_clauses m.max_var o g)
gate_from Q m o g allows lhs rhs0 rhs1 =
    let n : ℕ = m.max_var in
    let c1 : List ℤ = denial n o g.lhs ∷ literal n o g.rhs0 ∷ [] in
    let c2 : List ℤ = denial n o g.lhs ∷ literal n o g.rhs1 ∷ [] in
    let c3 : List ℤ = literal n o g.lhs ∷ denial n o g.rhs0 ∷ denial n o g.rhs1 ∷ [] in
    let not_left = denial_from Q m o g.lhs allows lhs in
    All-cons (IsClauseFrom Q) c1 (c2 ∷ c3 ∷ []) (two Q (denial n o g.lhs) (literal n o g.rhs0) not_left (literal_from Q m o g.rhs0 allows rhs0))
    (All-cons (IsClauseFrom Q) c2 (c3 ∷ []) (two Q (denial n o g.lhs) (literal n o g.rhs1) not_left (literal_from Q m o g.rhs1 allows rhs1))
    (All-cons (IsClauseFrom Q) c3 [] (All-cons (IsFrom Q) (literal n o g.lhs) (denial n o g.rhs0 ∷ denial n o g.rhs1 ∷ []) (literal_from Q m o g.lhs allows lhs)
    (two Q (denial n o g.rhs0) (denial n o g.rhs1) (denial_from Q m o g.rhs0 allows rhs0) (denial_from Q m o g.rhs1 allows rhs1))) (All-nil (IsClauseFrom Q))))

reset_from : (Q : ℕ → Type 0) (m : Parts) (o : ℕ) (l : Latch) → Allows Q m o → IsKnown m l.lit → AreFrom Q (reset_clauses m.max_var o l)
reset_from Q m o l allows known = elim (cases_eq l.reset.0 0) [
  | inl low ↦ rw (eq-eqb l.reset.0 0 low) (units_from Q (denial m.max_var o l.lit ∷ []) (one Q (denial m.max_var o l.lit) (denial_from Q m o l.lit allows known)))
  | inr not_low ↦ rw (ne_eqb l.reset.0 0 not_low) (elim (cases_eq l.reset.0 1) [
    | inl high ↦ rw (eq-eqb l.reset.0 1 high) (units_from Q (literal m.max_var o l.lit ∷ []) (one Q (literal m.max_var o l.lit) (literal_from Q m o l.lit allows known)))
    | inr not_high ↦ rw (ne_eqb l.reset.0 1 not_high) (All-nil (IsClauseFrom Q))
  ])
]

-- the lists of clauses
frame_from : (Q : ℕ → Type 0) (m : Parts) (o : ℕ) → IsWellFormed m → Allows Q m o → AreFrom Q (frame_at m o)
frame_from Q m o well allows =
    let used = holds_of_used (IsKnown m) m well.used_defined in
    All-cons (IsClauseFrom Q) (truth_clause m.max_var o) (flat_map (gate_clauses m.max_var o) m.gates) (truth_from Q m o allows)
    (All-flat_map (IsClauseFrom Q) (gate_clauses m.max_var o) m.gates
    (λ k d k_in. gate_from Q m o (get_or m.gates k d) allows (gates_known m k d k_in) (used.left k d k_in) (used.right k d k_in)))

pub time_from : (Q : ℕ → Type 0) (m : Parts) (o : ℕ) → IsWellFormed m → Allows Q m o → AreFrom Q (time_clauses m o)
time_from Q m o well allows =
    let constraints = (holds_of_used (IsKnown m) m well.used_defined).constraints in
    All-append (IsClauseFrom Q) (frame_at m o) (unit_clauses (map (literal m.max_var o) m.constraints)) (frame_from Q m o well allows)
    (units_from Q (map (literal m.max_var o) m.constraints) (literals_from Q m o m.constraints allows constraints))

pub resets_from : (Q : ℕ → Type 0) (m : Parts) (o : ℕ) → Allows Q m o → AreFrom Q (flat_map (reset_clauses m.max_var o) m.latches)
resets_from Q m o allows = All-flat_map (IsClauseFrom Q) (reset_clauses m.max_var o) m.latches
    (λ k d k_in. reset_from Q m o (get_or m.latches k d) allows (latches_known m k d k_in))

start_from : (Q : ℕ → Type 0) (m : Parts) → Allows Q m 0 → AreFrom Q (start_clauses m)
start_from Q m allows =
    All-cons (IsClauseFrom Q) (truth_clause m.max_var 0) (flat_map (reset_clauses m.max_var 0) m.latches) (truth_from Q m 0 allows) (resets_from Q m 0 allows)

init_from : (Q : ℕ → Type 0) (m : Parts) (c : List Lit) → IsOverLatches m c → Allows Q m 0 → AreFrom Q (init_clauses m c)
init_from Q m c over allows = All-append (IsClauseFrom Q) (start_clauses m) (unit_clauses (init_units m c)) (start_from Q m allows)
    (units_from Q (init_units m c) (denials_from Q m 0 c allows (clause_known m c over)))

shared_from : (Q : ℕ → Type 0) (m : Parts) (inv : List (List Lit)) → IsWellFormed m → All (IsClause m) inv → Allows Q m 0 → AreFrom Q (shared_clauses m inv)
shared_from Q m inv well all allows =
    All-append (IsClauseFrom Q) (time_clauses m 0) (map (map (literal m.max_var 0)) inv) (time_from Q m 0 well allows)
    (All-map (IsClauseFrom Q) (map (literal m.max_var 0)) inv (λ k d k_in. literals_from Q m 0 (get_or inv k d) allows (clause_known m (get_or inv k d) ((all k d k_in).over))))

step_from : (Q : ℕ → Type 0) (m : Parts) (inv : List (List Lit)) (c : List Lit) → IsWellFormed m → All (IsClause m) inv → IsOverLatches m c → Allows Q m 0 →
    AreFrom Q (step_clauses m inv c)
step_from Q m inv c well all over allows =
    All-append (IsClauseFrom Q) (shared_clauses m inv) (unit_clauses (step_units m c)) (shared_from Q m inv well all allows)
    (units_from Q (step_units m c) (subst (IsClauseFrom Q) (step_units_are m c) (denials_from Q m 0 (nexts m c) allows (nexts_known m c well over))))

bad_from : (Q : ℕ → Type 0) (m : Parts) (inv : List (List Lit)) (a : Lit) → IsWellFormed m → All (IsClause m) inv → IsKnown m a → Allows Q m 0 → AreFrom Q (bad_clauses m inv a)
bad_from Q m inv a well all known allows =
    All-append (IsClauseFrom Q) (shared_clauses m inv) (unit_clauses (bad_units m a)) (shared_from Q m inv well all allows)
    (units_from Q (bad_units m a) (one Q (literal m.max_var 0 a) (literal_from Q m 0 a allows known)))

pub bad_known : (m : Parts) → IsWellFormed m → All (IsKnown m) m.bad
bad_known m well = (holds_of_used (IsKnown m) m well.used_defined).bad

-- what is allowed: variables up to a bound, and those of some times
pub defined_small : (m : Parts) (v : ℕ) → IsWellFormed m → Contains (defined m) v → v ≤ m.max_var
defined_small m v well found =
    let ranges = well.defining_in_range in
    let latches = map (λ (l : Latch). l.lit) m.latches in let gates = map (λ (g : Gate). g.lhs) m.gates in
    let first = All-left (λ a. a.0 ≤ 2 * m.max_var + 1) (m.inputs ++ latches) gates ranges in
    All-contains (λ u. u ≤ m.max_var) (defined m) v
    (All-append (λ u. u ≤ m.max_var) (map variable m.inputs ++ map held m.latches) (map left m.gates)
    (All-append (λ u. u ≤ m.max_var) (map variable m.inputs) (map held m.latches)
    (All-map (λ u. u ≤ m.max_var) variable m.inputs (λ k d k_in. let r = All-left (λ a. a.0 ≤ 2 * m.max_var + 1) m.inputs latches first k d k_in in omega arith))
    (All-map (λ u. u ≤ m.max_var) held m.latches (λ k d k_in. let r = latches_in_range m well k d k_in in omega arith)))
    (All-map (λ u. u ≤ m.max_var) left m.gates (λ k d k_in. let r = lefts_in_range m well k d k_in in omega arith)))
    found

pub allows_to : (m : Parts) (o k : ℕ) → IsWellFormed m → o + m.max_var + 1 ≤ k → Allows (λ u. u ≤ k) m o
allows_to m o k well le = record { top = le; inside = λ v found. let small = defined_small m v well found in omega arith }

pub allows_time : (m : Parts) (times t o : ℕ) → t < times → o ≡ t * (m.max_var + 1) → Allows (IsOfTimes m times) m o
allows_time m times t o t_in e = record {
  top = (t, m.max_var + 1, t_in, rw e (let sum : t * (m.max_var + 1) + m.max_var + 1 ≡ t * (m.max_var + 1) + (m.max_var + 1) = omega arith in sum), inl refl);
  inside = λ v found. (t, v, t_in, ap (λ x. x + v) e, inr found);
}

allows_first : (m : Parts) → Allows (IsOfTimes m 1) m 0
allows_first m = allows_time m 1 0 0 (omega arith) (omega arith)

pub variables_of : (m : Parts) (times : ℕ) (cs : List (List ℤ)) → AreFrom (IsOfTimes m times) cs → All (All (λ l. IsOfTimes m times (unsigned_abs l))) cs
variables_of m times cs all k d k_in i e i_in = (all k d k_in i e i_in).1

first_truth : (m : Parts) (cs : List (List ℤ)) → Contains cs (truth_clause m.max_var 0) → (t : ℕ) → t < 1 → Contains cs (truth_clause m.max_var (t * (m.max_var + 1)))
first_truth m cs found t t_in =
    let first : t ≡ 0 = omega arith in
    let none : 0 * (m.max_var + 1) ≡ 0 = omega arith in
    subst (λ o. Contains cs (truth_clause m.max_var o)) (sym (ap (λ s. s * (m.max_var + 1)) first ∙ none)) found

over_first : (m : Parts) (cs : List (List ℤ)) → Contains cs (truth_clause m.max_var 0) → AreFrom (IsOfTimes m 1) cs → IsOver m 1 cs
over_first m cs found all = record { truths = first_truth m cs found; defined_only = variables_of m 1 cs all }

truth_first : (c : List ℤ) (cs : List (List ℤ)) → Contains (c ∷ cs) c
truth_first c cs = (0, omega arith, refl)

frame_truth : (m : Parts) → Contains (frame_clauses m) (truth_clause m.max_var 0)
frame_truth m = truth_first (truth_clause m.max_var 0) (flat_map (gate_clauses m.max_var 0) m.gates)

shared_truth : (m : Parts) (inv : List (List Lit)) → Contains (shared_clauses m inv) (truth_clause m.max_var 0)
shared_truth m inv =
    Contains-append_left (time_clauses m 0) (map (map (literal m.max_var 0)) inv) (truth_clause m.max_var 0)
    (Contains-append_left (frame_clauses m) (unit_clauses (map (literal m.max_var 0) m.constraints)) (truth_clause m.max_var 0) (frame_truth m))

pub frame_over : (m : Parts) → IsWellFormed m → IsOver m 1 (frame_clauses m)
frame_over m well = over_first m (frame_clauses m) (frame_truth m) (frame_from (IsOfTimes m 1) m 0 well (allows_first m))

pub init_over : (m : Parts) (c : List Lit) → IsOverLatches m c → IsOver m 1 (init_clauses m c)
init_over m c over = over_first m (init_clauses m c)
    (Contains-append_left (start_clauses m) (unit_clauses (init_units m c)) (truth_clause m.max_var 0) (truth_first (truth_clause m.max_var 0) (flat_map (reset_clauses m.max_var 0) m.latches)))
    (init_from (IsOfTimes m 1) m c over (allows_first m))

pub step_over : (m : Parts) (inv : List (List Lit)) (c : List Lit) → IsWellFormed m → All (IsClause m) inv → IsOverLatches m c → IsOver m 1 (step_clauses m inv c)
step_over m inv c well all over = over_first m (step_clauses m inv c)
    (Contains-append_left (shared_clauses m inv) (unit_clauses (step_units m c)) (truth_clause m.max_var 0) (shared_truth m inv))
    (step_from (IsOfTimes m 1) m inv c well all over (allows_first m))

pub bad_over : (m : Parts) (inv : List (List Lit)) (a : Lit) → IsWellFormed m → All (IsClause m) inv → IsKnown m a → IsOver m 1 (bad_clauses m inv a)
bad_over m inv a well all known = over_first m (bad_clauses m inv a)
    (Contains-append_left (shared_clauses m inv) (unit_clauses (bad_units m a)) (truth_clause m.max_var 0) (shared_truth m inv))
    (bad_from (IsOfTimes m 1) m inv a well all known (allows_first m))

-- how many clauses there are
gates_length : (n o : ℕ) (gs : List Gate) → length (flat_map (gate_clauses n o) gs) ≡ 3 * length gs
gates_length n o [] = refl
gates_length n o (g ∷ gs) = omega (arith, gates_length n o gs)

reset_length : (n o : ℕ) (l : Latch) → length (reset_clauses n o l) ≤ 1
reset_length n o l = elim (cases_eq l.reset.0 0) [
  | inl low ↦ rw (eq-eqb l.reset.0 0 low) (omega arith)
  | inr not_low ↦ rw (ne_eqb l.reset.0 0 not_low) (elim (cases_eq l.reset.0 1) [
    | inl high ↦ rw (eq-eqb l.reset.0 1 high) (omega arith)
    | inr not_high ↦ rw (ne_eqb l.reset.0 1 not_high) (omega arith)
  ])
]

pub resets_length : (n o : ℕ) (ls : List Latch) → length (flat_map (reset_clauses n o) ls) ≤ length ls
resets_length n o [] = omega arith
resets_length n o (l ∷ ls) = omega (arith, resets_length n o ls, reset_length n o l, length-append (reset_clauses n o l) (flat_map (reset_clauses n o) ls))

frame_length : (m : Parts) (o : ℕ) → length (frame_at m o) ≡ 1 + 3 * length m.gates
frame_length m o = omega (arith, gates_length m.max_var o m.gates)

units_length : (ls : List ℤ) → length (unit_clauses ls) ≡ length ls
units_length ls = length-map ls (λ l. l ∷ [])

pub time_length : (m : Parts) (o : ℕ) → length (time_clauses m o) ≡ 1 + 3 * length m.gates + length m.constraints
time_length m o =
    let keeps : List ℤ = map (literal m.max_var o) m.constraints in
    omega (arith, frame_length m o, length-append (frame_at m o) (unit_clauses keeps), units_length keeps, length-map m.constraints (literal m.max_var o))

shared_length : (m : Parts) (inv : List (List Lit)) → length (shared_clauses m inv) ≡ 1 + 3 * length m.gates + length m.constraints + length inv
shared_length m inv =
    omega (arith, time_length m 0, length-append (time_clauses m 0) (map (map (literal m.max_var 0)) inv), length-map inv (map (literal m.max_var 0)))

allows_formula : (m : Parts) → IsWellFormed m → Allows (λ u. u ≤ m.max_var + 1) m 0
allows_formula m well = allows_to m 0 (m.max_var + 1) well (omega arith)

formed : (m : Parts) (cs : List (List ℤ)) → IsWellFormed m → AreFrom (λ u. u ≤ m.max_var + 1) cs → length cs < 4294967296 → IsFormula (formula_of m cs)
formed m cs well all few = let small = well.limits.max_var in record { are_literals = all; small = omega arith; few = few }

pub frame_formed : (m : Parts) → IsWellFormed m → IsFormula (frame_formula m)
frame_formed m well =
    let gates = well.limits.gates in
    formed m (frame_clauses m) well (frame_from (λ u. u ≤ m.max_var + 1) m 0 well (allows_formula m well)) (omega (arith, frame_length m 0))

pub start_formed : (m : Parts) → IsWellFormed m → IsFormula (start_formula m)
start_formed m well =
    let latches = well.limits.latches in
    formed m (start_clauses m) well (start_from (λ u. u ≤ m.max_var + 1) m (allows_formula m well)) (omega (arith, resets_length m.max_var 0 m.latches))

pub shared_formed : (m : Parts) (inv : List (List Lit)) → IsWellFormed m → IsInvariant m inv → IsFormula (shared_formula m inv)
shared_formed m inv well invariant =
    let gates = well.limits.gates in let constraints = well.limits.constraints in let few = invariant.few in
    formed m (shared_clauses m inv) well (shared_from (λ u. u ≤ m.max_var + 1) m inv well invariant.clauses (allows_formula m well)) (omega (arith, shared_length m inv))

-- units over their base
pub init_units_from : (m : Parts) (c : List Lit) → IsWellFormed m → IsOverLatches m c → IsClauseFrom (λ u. u ≤ m.max_var + 1) (init_units m c)
init_units_from m c well over = denials_from (λ u. u ≤ m.max_var + 1) m 0 c (allows_formula m well) (clause_known m c over)

pub step_units_from : (m : Parts) (c : List Lit) → IsWellFormed m → IsOverLatches m c → IsClauseFrom (λ u. u ≤ m.max_var + 1) (step_units m c)
step_units_from m c well over =
    subst (IsClauseFrom (λ u. u ≤ m.max_var + 1)) (step_units_are m c) (denials_from (λ u. u ≤ m.max_var + 1) m 0 (nexts m c) (allows_formula m well) (nexts_known m c well over))

pub bad_unit_from : (m : Parts) (a : Lit) → IsWellFormed m → Contains (used m) a → IsLiteral (m.max_var + 1) (literal m.max_var 0 a)
bad_unit_from m a well found = literal_from (λ u. u ≤ m.max_var + 1) m 0 a (allows_formula m well) (All-contains (IsKnown m) (used m) a well.used_defined found)
