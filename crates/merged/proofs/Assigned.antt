-- What satisfies the cases of an invariant satisfies those of the merged circuit.
use Rattle.std.proofs.Common.{◌≡◌, ◌≢◌, ◌∙◌, ℕ, zero, suc, ◌+◌, ◌<◌, ◌==◌, if◌then◌else◌, Bool, true, false, not, ◌||◌, inl, inr, List, [], ◌∷◌, ◌++◌, map, length, get_or, All, Option, ℤ, pos, refl, sym, ap, subst, arith}
use Rattle.std.specs.Prelude.{flat_map}
use Rattle.std.proofs.lemmas.Bool.{cases_eq, eq-eqb, ne_eqb}
use Rattle.std.proofs.lemmas.List.{get_or-map, length-map, get_or_default, map-append}
use Rattle.std.proofs.lemmas.List.Elements.{All-nil, All-cons, All-head, All-tail, All-append, All-map}
use Rattle.graph.specs.declared.circuit.Lit.{Lit}
use Rattle.graph.specs.declared.circuit.Latch.{Latch}
use Rattle.graph.specs.declared.circuit.Gate.{Gate}
use Rattle.graph.specs.declared.parts.Parts.{Parts}
use Rattle.graph.specs.Circuits.{variable}
use Rattle.graph.proofs.Evaluation.{All-left, All-right, All-unmap}
use Rattle.graph.proofs.Shape.{All-flat_map, All-unflat_map}
use Rattle.lrat.specs.Literals.{is_true, IsSatisfied}
use Rattle.lrat.specs.Shared.{unit_clauses}
use Rattle.cnf.specs.Clauses.{signed, is_negated, literal, denial, next_of, truth_clause, gate_clauses, frame_at, time_clauses, reset_clauses, init_clauses, init_units, shared_clauses, step_units, step_clauses, bad_units, bad_clauses}
use Rattle.cnf.specs.Formulas.{bad_literal}
use Rattle.cnf.specs.Meaning.{AreSatisfied}
use Rattle.cnf.specs.Invariants.{AreContradictory}
use Rattle.cnf.proofs.Listed.{any_true, any-satisfied, satisfied-any, satisfied-unit, units-satisfied, satisfied-units}
use Rattle.cnf.proofs.Values.{turned}
use Rattle.merged.specs.Reading.{read_as, value_in, HoldIn, IsReadIn, IsTable}
use Rattle.merged.specs.Merged.{merged_latch, merged_gate, merged_parts}
use Rattle.merged.proofs.Read.{value_along, read_same, said_read}

-- what an assignment says of the variables of one time, of which the constant is false
abbrev pub variables_of : (ℕ → Bool) → ℕ → Bool
variables_of v k = if k == 0 then false else v k

signed_true : (v : ℕ → Bool) (b : Bool) (k : ℕ) → k ≢ 0 → is_true v (signed b k) ≡ turned b (v k)
signed_true v true zero ne = absurd (ne refl)
signed_true v false zero ne = absurd (ne refl)
signed_true v true (suc k) ne = refl
signed_true v false (suc k) ne = refl

turned_not : (b p : Bool) → turned (not b) p ≡ not (turned b p)
turned_not true true = refl
turned_not true false = refl
turned_not false true = refl
turned_not false false = refl

at_top : (b : Bool) (p : Bool) → p ≡ true → turned (not b) p ≡ turned b false
at_top true p e = rw e refl
at_top false p e = rw e refl

below_top : (b : Bool) (p : Bool) → p ≡ true → turned b p ≡ not (turned b false)
below_top true p e = rw e refl
below_top false p e = rw e refl

chosen : (v : ℕ → Bool) (b : Bool) (k top : ℕ) → top ≢ 0 → v top ≡ true → is_true v (if k == 0 then signed (not b) top else signed b (0 + k)) ≡ turned b (variables_of v k)
chosen v b k top top_in on = elim (cases_eq k 0) [
  | inl z ↦ rw (eq-eqb k 0 z) (signed_true v (not b) top top_in ∙ at_top b (v top) on)
  | inr nz ↦ rw (ne_eqb k 0 nz) (signed_true v b (0 + k) (λ e. omega (arith, nz, e)) ∙ ap (λ i. turned b (v i)) (let same : 0 + k ≡ k = omega arith in same))
]

chosen_not : (v : ℕ → Bool) (b : Bool) (k top : ℕ) → top ≢ 0 → v top ≡ true → is_true v (if k == 0 then signed b top else signed (not b) (0 + k)) ≡ not (turned b (variables_of v k))
chosen_not v b k top top_in on = elim (cases_eq k 0) [
  | inl z ↦ rw (eq-eqb k 0 z) (signed_true v b top top_in ∙ below_top b (v top) on)
  | inr nz ↦ rw (ne_eqb k 0 nz) (signed_true v (not b) (0 + k) (λ e. omega (arith, nz, e)) ∙ ap (λ i. turned (not b) (v i)) (let same : 0 + k ≡ k = omega arith in same) ∙ turned_not b (v k))
]

literal_value : (v : ℕ → Bool) (n : ℕ) (a : Lit) → v (0 + n + 1) ≡ true → is_true v (literal n 0 a) ≡ value_in (variables_of v) a
literal_value v n a on = chosen v (is_negated a) (variable a) (0 + n + 1) (λ e. omega (arith, e)) on

denial_value : (v : ℕ → Bool) (n : ℕ) (a : Lit) → v (0 + n + 1) ≡ true → is_true v (denial n 0 a) ≡ not (value_in (variables_of v) a)
denial_value v n a on = chosen_not v (is_negated a) (variable a) (0 + n + 1) (λ e. omega (arith, e)) on

-- an assignment in which the time's own variable is true, and each variable has the value of what it is read as
pub record ReadsIn (t : List (Option Lit)) (v : ℕ → Bool) (n : ℕ) : Type 0 where
  pub top : v (0 + n + 1) ≡ true
  pub reads : IsReadIn (variables_of v) t

-- two literals with the same value
literals_same : (v : ℕ → Bool) (n : ℕ) (a b : Lit) → v (0 + n + 1) ≡ true → value_in (variables_of v) a ≡ value_in (variables_of v) b → is_true v (literal n 0 a) ≡ is_true v (literal n 0 b)
literals_same v n a b on e = literal_value v n a on ∙ e ∙ sym (literal_value v n b on)

denials_same : (v : ℕ → Bool) (n : ℕ) (a b : Lit) → v (0 + n + 1) ≡ true → value_in (variables_of v) a ≡ value_in (variables_of v) b → is_true v (denial n 0 a) ≡ is_true v (denial n 0 b)
denials_same v n a b on e = denial_value v n a on ∙ ap not e ∙ sym (denial_value v n b on)

literal_same : (t : List (Option Lit)) (v : ℕ → Bool) (n : ℕ) (a : Lit) → ReadsIn t v n → is_true v (literal n 0 (read_as t a)) ≡ is_true v (literal n 0 a)
literal_same t v n a h = literals_same v n (read_as t a) a h.top (read_same (variables_of v) t a h.reads)

denial_same : (t : List (Option Lit)) (v : ℕ → Bool) (n : ℕ) (a : Lit) → ReadsIn t v n → is_true v (denial n 0 (read_as t a)) ≡ is_true v (denial n 0 a)
denial_same t v n a h = denials_same v n (read_as t a) a h.top (read_same (variables_of v) t a h.reads)

-- clauses that are satisfied hold
hold_in : (v : ℕ → Bool) (n : ℕ) (cs : List (List Lit)) → v (0 + n + 1) ≡ true → AreSatisfied v (map (map (literal n 0)) cs) → HoldIn (variables_of v) cs
hold_in v n cs on all k d k_in =
    let c : List Lit = get_or cs k d in
    let one : IsSatisfied v (map (literal n 0) c) = All-unmap (IsSatisfied v) (map (literal n 0)) cs all k d k_in in
    let blank : Lit = record { 0 = 0 } in
    let i : ℕ = one.1.0 in
    let i_in : i < length c = omega (arith, one.1.1, length-map c (literal n 0)) in
    let a : Lit = get_or c i blank in
    let same : literal n 0 a ≡ one.0 = sym (get_or-map (literal n 0) c i blank one.0 i_in) ∙ one.1.2 in
    (i, a, i_in, get_or_default c i a blank i_in, sym (literal_value v n a on) ∙ ap (is_true v) same ∙ one.2)

-- a gate
gate_read : (t : List (Option Lit)) (v : ℕ → Bool) (n : ℕ) (g : Gate) → ReadsIn t v n → AreSatisfied v (gate_clauses n 0 g) → AreSatisfied v (gate_clauses n 0 (merged_gate t g))
gate_read t v n g h all =
    let x : ℤ = literal n 0 g.lhs in let nx : ℤ = denial n 0 g.lhs in
    let y : ℤ = literal n 0 g.rhs0 in let ny : ℤ = denial n 0 g.rhs0 in
    let z : ℤ = literal n 0 g.rhs1 in let nz : ℤ = denial n 0 g.rhs1 in
    let y' : ℤ = literal n 0 (read_as t g.rhs0) in let ny' : ℤ = denial n 0 (read_as t g.rhs0) in
    let z' : ℤ = literal n 0 (read_as t g.rhs1) in let nz' : ℤ = denial n 0 (read_as t g.rhs1) in
    let rest : AreSatisfied v ((nx ∷ z ∷ []) ∷ (x ∷ ny ∷ nz ∷ []) ∷ []) = All-tail (IsSatisfied v) (nx ∷ y ∷ []) ((nx ∷ z ∷ []) ∷ (x ∷ ny ∷ nz ∷ []) ∷ []) all in
    let p : any_true v (nx ∷ y ∷ []) ≡ true = satisfied-any v (nx ∷ y ∷ []) (All-head (IsSatisfied v) (nx ∷ y ∷ []) ((nx ∷ z ∷ []) ∷ (x ∷ ny ∷ nz ∷ []) ∷ []) all) in
    let q : any_true v (nx ∷ z ∷ []) ≡ true = satisfied-any v (nx ∷ z ∷ []) (All-head (IsSatisfied v) (nx ∷ z ∷ []) ((x ∷ ny ∷ nz ∷ []) ∷ []) rest) in
    let r : any_true v (x ∷ ny ∷ nz ∷ []) ≡ true = satisfied-any v (x ∷ ny ∷ nz ∷ []) (All-head (IsSatisfied v) (x ∷ ny ∷ nz ∷ []) [] (All-tail (IsSatisfied v) (nx ∷ z ∷ []) ((x ∷ ny ∷ nz ∷ []) ∷ []) rest)) in
    let p' : any_true v (nx ∷ y' ∷ []) ≡ true = ap (λ b. is_true v nx || (b || false)) (literal_same t v n g.rhs0 h) ∙ p in
    let q' : any_true v (nx ∷ z' ∷ []) ≡ true = ap (λ b. is_true v nx || (b || false)) (literal_same t v n g.rhs1 h) ∙ q in
    let r' : any_true v (x ∷ ny' ∷ nz' ∷ []) ≡ true = ap (λ b. is_true v x || (b || (is_true v nz' || false))) (denial_same t v n g.rhs0 h) ∙ ap (λ b. is_true v x || (is_true v ny || (b || false))) (denial_same t v n g.rhs1 h) ∙ r in
    All-cons (IsSatisfied v) (nx ∷ y' ∷ []) ((nx ∷ z' ∷ []) ∷ (x ∷ ny' ∷ nz' ∷ []) ∷ []) (any-satisfied v (nx ∷ y' ∷ []) p')
    (All-cons (IsSatisfied v) (nx ∷ z' ∷ []) ((x ∷ ny' ∷ nz' ∷ []) ∷ []) (any-satisfied v (nx ∷ z' ∷ []) q')
    (All-cons (IsSatisfied v) (x ∷ ny' ∷ nz' ∷ []) [] (any-satisfied v (x ∷ ny' ∷ nz' ∷ []) r') (All-nil (IsSatisfied v))))

-- truth, gates and constraints
pub time_read : (m : Parts) (t : List (Option Lit)) (v : ℕ → Bool) → ReadsIn t v m.max_var → AreSatisfied v (time_clauses m 0) → AreSatisfied v (time_clauses (merged_parts m t) 0)
time_read m t v h all =
    let n : ℕ = m.max_var in
    let s : Parts = merged_parts m t in
    let gates : List (List ℤ) = flat_map (gate_clauses n 0) m.gates in
    let frame : AreSatisfied v (frame_at m 0) = All-left (IsSatisfied v) (frame_at m 0) (unit_clauses (map (literal n 0) m.constraints)) all in
    let units = satisfied-units v (map (literal n 0) m.constraints) (All-right (IsSatisfied v) (frame_at m 0) (unit_clauses (map (literal n 0) m.constraints)) all) in
    let literals : All (λ a. is_true v (literal n 0 a) ≡ true) m.constraints = All-unmap (λ l. is_true v l ≡ true) (literal n 0) m.constraints units in
    let each : All (λ g. AreSatisfied v (gate_clauses n 0 g)) m.gates = All-unflat_map (IsSatisfied v) (gate_clauses n 0) m.gates (All-tail (IsSatisfied v) (truth_clause n 0) gates frame) in
    let read : All (λ g. AreSatisfied v (gate_clauses n 0 g)) s.gates = All-map (λ g. AreSatisfied v (gate_clauses n 0 g)) (merged_gate t) m.gates (λ k d k_in. gate_read t v n (get_or m.gates k d) h (each k d k_in)) in
    let literals_read : All (λ a. is_true v (literal n 0 a) ≡ true) s.constraints = All-map (λ a. is_true v (literal n 0 a) ≡ true) (read_as t) m.constraints
    (λ k d k_in. literal_same t v n (get_or m.constraints k d) h ∙ literals k d k_in) in
    All-append (IsSatisfied v) (frame_at s 0) (unit_clauses (map (literal n 0) s.constraints))
    (All-cons (IsSatisfied v) (truth_clause n 0) (flat_map (gate_clauses n 0) s.gates) (All-head (IsSatisfied v) (truth_clause n 0) gates frame) (All-flat_map (IsSatisfied v) (gate_clauses n 0) s.gates read))
    (units-satisfied v (map (literal n 0) s.constraints) (All-map (λ l. is_true v l ≡ true) (literal n 0) s.constraints literals_read))

-- what a case begins with, with clauses and more clauses
pub record Splits (m : Parts) (cs inv : List (List Lit)) (v : ℕ → Bool) : Type 0 where
  pub time : AreSatisfied v (time_clauses m 0)
  pub clauses : AreSatisfied v (map (map (literal m.max_var 0)) cs)
  pub rest : AreSatisfied v (map (map (literal m.max_var 0)) inv)

pub splits : (m : Parts) (cs inv : List (List Lit)) (v : ℕ → Bool) → AreSatisfied v (shared_clauses m (cs ++ inv)) → Splits m cs inv v
splits m cs inv v all =
    let f : List Lit → List ℤ = map (literal m.max_var 0) in
    let both : AreSatisfied v (map f cs ++ map f inv) = subst (AreSatisfied v) (map-append f cs inv) (All-right (IsSatisfied v) (time_clauses m 0) (map f (cs ++ inv)) all) in
    record {
      time = All-left (IsSatisfied v) (time_clauses m 0) (map f (cs ++ inv)) all;
      clauses = All-left (IsSatisfied v) (map f cs) (map f inv) both;
      rest = All-right (IsSatisfied v) (map f cs) (map f inv) both;
    }

top_on : (v : ℕ → Bool) (n : ℕ) → IsSatisfied v (truth_clause n 0) → v (0 + n + 1) ≡ true
top_on v n h = let some : 0 + n + 1 ≢ 0 = λ e. omega (arith, e) in sym (signed_true v false (0 + n + 1) some) ∙ satisfied-unit v (pos (0 + n + 1)) h

pub reads_in : (m : Parts) (t : List (Option Lit)) (cs inv : List (List Lit)) (v : ℕ → Bool) → IsTable cs t → Splits m cs inv v → ReadsIn t v m.max_var
reads_in m t cs inv v said h =
    let n : ℕ = m.max_var in
    let gates : List (List ℤ) = flat_map (gate_clauses n 0) m.gates in
    let on : v (0 + n + 1) ≡ true = top_on v n (All-head (IsSatisfied v) (truth_clause n 0) gates (All-left (IsSatisfied v) (frame_at m 0) (unit_clauses (map (literal n 0) m.constraints)) h.time)) in
    record {
      top = on;
      reads = said_read (variables_of v) cs t refl (hold_in v n cs on h.clauses) said;
    }

pub shared_read : (m : Parts) (t : List (Option Lit)) (cs inv : List (List Lit)) (v : ℕ → Bool) → ReadsIn t v m.max_var → Splits m cs inv v → AreSatisfied v (shared_clauses (merged_parts m t) inv)
shared_read m t cs inv v reads h =
    All-append (IsSatisfied v) (time_clauses (merged_parts m t) 0) (map (map (literal m.max_var 0)) inv) (time_read m t v reads h.time) h.rest

-- the next literal of a literal
next_same : (t : List (Option Lit)) (f : ℕ → Bool) (ls : List Latch) (a : Lit) → IsReadIn f t → value_in f (next_of (map (merged_latch t) ls) a) ≡ value_in f (next_of ls a)
next_same t f [] a reads = refl
next_same t f (l ∷ ls) a reads = elim (cases_eq (variable l.lit) (variable a)) [
  | inl here ↦ rw (eq-eqb (variable l.lit) (variable a) here)
      (value_along f (is_negated a) (read_as t l.next) ∙ ap (turned (is_negated a)) (read_same f t l.next reads) ∙ sym (value_along f (is_negated a) l.next))
  | inr apart ↦ rw (ne_eqb (variable l.lit) (variable a) apart) (next_same t f ls a reads)
]

units_read : (m : Parts) (t : List (Option Lit)) (c : List Lit) (v : ℕ → Bool) → ReadsIn t v m.max_var → AreSatisfied v (unit_clauses (step_units m c)) → AreSatisfied v (unit_clauses (step_units (merged_parts m t) c))
units_read m t c v h all =
    let n : ℕ = m.max_var in
    let s : Parts = merged_parts m t in
    let each : All (λ a. is_true v (denial n 0 (next_of m.latches a)) ≡ true) c = All-unmap (λ l. is_true v l ≡ true) (λ a. denial n 0 (next_of m.latches a)) c (satisfied-units v (step_units m c) all) in
    units-satisfied v (step_units s c) (All-map (λ l. is_true v l ≡ true) (λ a. denial n 0 (next_of s.latches a)) c
    (λ k d k_in. let a : Lit = get_or c k d in
    denials_same v n (next_of s.latches a) (next_of m.latches a) h.top (next_same t (variables_of v) m.latches a h.reads) ∙ each k d k_in))

-- the cases
pub step_case : (m : Parts) (t : List (Option Lit)) (cs inv : List (List Lit)) (c : List Lit) → IsTable cs t → AreContradictory (step_clauses (merged_parts m t) inv c) → AreContradictory (step_clauses m (cs ++ inv) c)
step_case m t cs inv c said none = λ v all.
    let s : Parts = merged_parts m t in
    let parts = splits m cs inv v (All-left (IsSatisfied v) (shared_clauses m (cs ++ inv)) (unit_clauses (step_units m c)) all) in
    let reads = reads_in m t cs inv v said parts in
    none v (All-append (IsSatisfied v) (shared_clauses s inv) (unit_clauses (step_units s c)) (shared_read m t cs inv v reads parts)
    (units_read m t c v reads (All-right (IsSatisfied v) (shared_clauses m (cs ++ inv)) (unit_clauses (step_units m c)) all)))

pub own_step_case : (m : Parts) (cs inv : List (List Lit)) (c : List Lit) → AreContradictory (step_clauses m cs c) → AreContradictory (step_clauses m (cs ++ inv) c)
own_step_case m cs inv c none = λ v all.
    let parts = splits m cs inv v (All-left (IsSatisfied v) (shared_clauses m (cs ++ inv)) (unit_clauses (step_units m c)) all) in
    none v (All-append (IsSatisfied v) (shared_clauses m cs) (unit_clauses (step_units m c))
    (All-append (IsSatisfied v) (time_clauses m 0) (map (map (literal m.max_var 0)) cs) parts.time parts.clauses)
    (All-right (IsSatisfied v) (shared_clauses m (cs ++ inv)) (unit_clauses (step_units m c)) all))

bad_same : (t : List (Option Lit)) (v : ℕ → Bool) (n : ℕ) (bads : List Lit) → ReadsIn t v n →
    is_true v (literal n 0 (get_or (map (read_as t) bads) 0 (record { 0 = 0 }))) ≡ is_true v (literal n 0 (get_or bads 0 (record { 0 = 0 })))
bad_same t v n [] h = refl
bad_same t v n (b ∷ bads) h = literal_same t v n b h

pub bad_case : (m : Parts) (t : List (Option Lit)) (cs inv : List (List Lit)) → IsTable cs t → AreContradictory (bad_clauses (merged_parts m t) inv (bad_literal (merged_parts m t) 0)) →
    AreContradictory (bad_clauses m (cs ++ inv) (bad_literal m 0))
bad_case m t cs inv said none = λ v all.
    let n : ℕ = m.max_var in
    let s : Parts = merged_parts m t in
    let a : Lit = bad_literal m 0 in
    let b : Lit = bad_literal s 0 in
    let parts = splits m cs inv v (All-left (IsSatisfied v) (shared_clauses m (cs ++ inv)) (unit_clauses (bad_units m a)) all) in
    let reads = reads_in m t cs inv v said parts in
    let on : is_true v (literal n 0 a) ≡ true = All-head (λ l. is_true v l ≡ true) (literal n 0 a) [] (satisfied-units v (bad_units m a) (All-right (IsSatisfied v) (shared_clauses m (cs ++ inv)) (unit_clauses (bad_units m a)) all)) in
    none v (All-append (IsSatisfied v) (shared_clauses s inv) (unit_clauses (bad_units s b)) (shared_read m t cs inv v reads parts)
    (units-satisfied v (bad_units s b) (All-cons (λ l. is_true v l ≡ true) (literal n 0 b) [] (bad_same t v n m.bad reads ∙ on) (All-nil (λ l. is_true v l ≡ true)))))

resets_same : (t : List (Option Lit)) (n : ℕ) (ls : List Latch) → flat_map (reset_clauses n 0) (map (merged_latch t) ls) ≡ flat_map (reset_clauses n 0) ls
resets_same t n [] = refl
resets_same t n (l ∷ ls) = ap (λ cs. reset_clauses n 0 l ++ cs) (resets_same t n ls)

pub init_case : (m : Parts) (t : List (Option Lit)) (c : List Lit) → AreContradictory (init_clauses (merged_parts m t) c) → AreContradictory (init_clauses m c)
init_case m t c none =
    subst (λ cs. AreContradictory ((truth_clause m.max_var 0 ∷ cs) ++ unit_clauses (init_units m c))) (resets_same t m.max_var m.latches) none
