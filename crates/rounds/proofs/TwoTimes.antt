-- Clauses over the latches that are inductive by next literals are so over two times.
use Rattle.std.proofs.Common.{◌≡◌, ◌≢◌, ℕ, zero, suc, ◌+◌, ◌<◌, ◌≤◌, Bool, true, false, not, ◌||◌, List, [], ◌∷◌, ◌++◌, map, get_or, All, ℤ, pos, refl, sym, ◌∙◌, ap, subst, arith}
use Rattle.std.specs.Prelude.{flat_map}
use Rattle.std.proofs.lemmas.List.Elements.{All-cons, All-head, All-map, All-append}
use Rattle.graph.specs.declared.circuit.Lit.{Lit}
use Rattle.graph.specs.declared.circuit.Latch.{Latch}
use Rattle.graph.specs.declared.parts.Parts.{Parts}
use Rattle.graph.specs.Circuits.{place, value_of, IsStep}
use Rattle.graph.specs.WellFormed.{IsWellFormed}
use Rattle.graph.proofs.Evaluation.{All-left, All-right, All-unmap, latches_in_range}
use Rattle.graph.proofs.Shape.{All-unflat_map}
use Rattle.lrat.specs.Literals.{is_true, IsSatisfied}
use Rattle.lrat.specs.Shared.{unit_clauses}
use Rattle.cnf.specs.Clauses.{literal, denial, next_of, truth_clause, gate_clauses, reset_clauses, time_clauses, frame_at, start_clauses, init_units, shared_clauses, step_units}
use Rattle.cnf.specs.Formulas.{IsInRange, IsOverLatches}
use Rattle.cnf.specs.Invariants.{IsInductive}
use Rattle.cnf.specs.Meaning.{AreSatisfied}
use Rattle.cnf.specs.Unrolled.{join_clauses}
use Rattle.cnf.proofs.CaseLaws.{clause_range, next_of_range, next_value, nexts_in_range}
use Rattle.cnf.proofs.Listed.{any_true, satisfied-any, satisfied-unit, satisfied-units, units-satisfied}
use Rattle.cnf.proofs.Values.{IsLaid, denial_true, literal_true}
use Rattle.live_safe.proofs.Forced.{map_from_all}
use Rattle.extension.specs.Inductive.{IsInductiveOver, begin_clauses, clause_from, denied_from, pair_clauses}

-- ---- the values of one time

row : (ℕ → Bool) → ℕ → ℕ → List Bool
row v o zero = []
row v o (suc n) = v (o + 1) ∷ row v (o + 1) n

row_at : (v : ℕ → Bool) (o n k : ℕ) → k < n → get_or (row v o n) k false ≡ v (o + 1 + k)
unfolding row
row_at v o zero k lt = absurd (omega (arith, lt))
row_at v o (suc n) zero lt = ap v (let same : o + 1 ≡ o + 1 + 0 = omega arith in same)
row_at v o (suc n) (suc k) lt = row_at v (o + 1) n k (omega (arith, lt)) ∙ ap v (let same : o + 1 + 1 + k ≡ o + 1 + suc k = omega arith in same)

values_at : (ℕ → Bool) → ℕ → ℕ → List Bool
values_at v o n = false ∷ row v o n

row_inside : (v : ℕ → Bool) (o n k : ℕ) → k ≢ 0 → k ≤ n → v (o + k) ≡ place (values_at v o n) k
unfolding values_at row
row_inside v o n zero nz le = absurd (nz refl)
row_inside v o n (suc k) nz le = ap v (let same : o + suc k ≡ o + 1 + k = omega arith in same) ∙ sym (row_at v o n k (omega (arith, le)))

is_positive : (v : ℕ → Bool) (k : ℕ) → is_true v (pos (k + 1)) ≡ true → v (k + 1) ≡ true
is_positive v k on = let same : k + 1 ≡ suc k = omega arith in subst (λ i. is_true v (pos i) ≡ true → v i ≡ true) (sym same) (λ e. e) on

-- whatever satisfies a time's clauses is laid as some values
laid_at : (v : ℕ → Bool) (o : ℕ) (m : Parts) → AreSatisfied v (time_clauses m o) → IsLaid v o m.max_var (values_at v o m.max_var)
unfolding values_at
laid_at v o m all =
    let frame = All-left (IsSatisfied v) (frame_at m o) (unit_clauses (map (literal m.max_var o) m.constraints)) all in
    let truth = All-head (IsSatisfied v) (truth_clause m.max_var o) (flat_map (gate_clauses m.max_var o) m.gates) frame in
    record {
      inside = row_inside v o m.max_var;
      top = is_positive v (o + m.max_var) (satisfied-unit v (pos (o + m.max_var + 1)) truth);
      constant = refl;
    }

-- ---- the step between two times

same_by : (x y : Bool) → (not x || (y || false)) ≡ true → (x || (not y || false)) ≡ true → x ≡ y
same_by true true p q = refl
same_by true false p q = sym p
same_by false true p q = q
same_by false false p q = refl

joined : (v : ℕ → Bool) (o n : ℕ) (w x : List Bool) (l : Latch) → IsLaid v o n w → IsLaid v (o + n + 1) n x → IsInRange n l.lit → IsInRange n l.next →
    AreSatisfied v (join_clauses n o l) → value_of x l.lit ≡ value_of w l.next
joined v o n w x l at next lit_in next_in all =
    let c1 : List ℤ = denial n (o + n + 1) l.lit ∷ literal n o l.next ∷ [] in
    let c2 : List ℤ = literal n (o + n + 1) l.lit ∷ denial n o l.next ∷ [] in
    let p : any_true v c1 ≡ true = satisfied-any v c1 (All-head (IsSatisfied v) c1 (c2 ∷ []) all) in
    let q : any_true v c2 ≡ true = satisfied-any v c2 (All-right (IsSatisfied v) (c1 ∷ []) (c2 ∷ []) all 0 c2 (omega arith)) in
    same_by (value_of x l.lit) (value_of w l.next)
    (subst (λ (b : Bool). (b || (value_of w l.next || false)) ≡ true) (denial_true v (o + n + 1) n x l.lit next lit_in)
    (subst (λ (b : Bool). (is_true v (denial n (o + n + 1) l.lit) || (b || false)) ≡ true) (literal_true v o n w l.next at next_in) p))
    (subst (λ (b : Bool). (b || (not (value_of w l.next) || false)) ≡ true) (literal_true v (o + n + 1) n x l.lit next lit_in)
    (subst (λ (b : Bool). (is_true v (literal n (o + n + 1) l.lit) || (b || false)) ≡ true) (denial_true v o n w l.next at next_in) q))

stepped : (v : ℕ → Bool) (m : Parts) (w x : List Bool) → IsWellFormed m → IsLaid v 0 m.max_var w → IsLaid v (0 + m.max_var + 1) m.max_var x →
    AreSatisfied v (flat_map (join_clauses m.max_var 0) m.latches) → IsStep m w x
stepped v m w x well at next all =
    let each = All-unflat_map (IsSatisfied v) (join_clauses m.max_var 0) m.latches all in
    map_from_all (λ l. value_of x l.lit) (λ l. value_of w l.next) m.latches
    (λ k d k_in. joined v 0 m.max_var w x (get_or m.latches k d) at next (latches_in_range m well k d k_in) (nexts_in_range m well k d k_in) (each k d k_in))

-- ---- denied clauses

off_by_denial : (b : Bool) → not b ≡ true → b ≡ false
off_by_denial true p = sym p
off_by_denial false p = refl

denial_off : (b : Bool) → b ≡ false → not b ≡ true
denial_off b e = rw e refl

-- what is denied behind a step is denied of the next literals
next_denied : (v : ℕ → Bool) (m : Parts) (w x : List Bool) (c : List Lit) → IsWellFormed m → IsOverLatches m c → IsLaid v 0 m.max_var w → IsLaid v (m.max_var + 1) m.max_var x → IsStep m w x →
    AreSatisfied v (denied_from m (m.max_var + 1) c) → AreSatisfied v (unit_clauses (step_units m c))
next_denied v m w x c well over at next step all =
    let denied = All-unmap (λ l. is_true v l ≡ true) (denial m.max_var (m.max_var + 1)) c (satisfied-units v (map (denial m.max_var (m.max_var + 1)) c) all) in
    units-satisfied v (step_units m c) (All-map (λ l. is_true v l ≡ true) (λ a. denial m.max_var 0 (next_of m.latches a)) c (λ k d k_in.
    let a : Lit = get_or c k d in
    let off : value_of x a ≡ false = off_by_denial (value_of x a) (sym (denial_true v (m.max_var + 1) m.max_var x a next (clause_range m c well over k d k_in)) ∙ denied k d k_in) in
    let off_next : value_of w (next_of m.latches a) ≡ false = sym (next_value m w x a well step (over k d k_in)) ∙ off in
    denial_true v 0 m.max_var w (next_of m.latches a) at (next_of_range m c well over k d k_in) ∙ denial_off (value_of w (next_of m.latches a)) off_next))

-- ---- the cases

begins_over : (v : ℕ → Bool) (m : Parts) (c : List Lit) → AreSatisfied v (begin_clauses m ++ denied_from m 0 c) → AreSatisfied v (start_clauses m ++ unit_clauses (init_units m c))
begins_over v m c all =
    let begin = All-left (IsSatisfied v) (begin_clauses m) (denied_from m 0 c) all in
    let denied = All-right (IsSatisfied v) (begin_clauses m) (denied_from m 0 c) all in
    let resets : List (List ℤ) = flat_map (reset_clauses m.max_var 0) m.latches in
    let time = All-right (IsSatisfied v) resets (time_clauses m 0) begin in
    let frame = All-left (IsSatisfied v) (frame_at m 0) (unit_clauses (map (literal m.max_var 0) m.constraints)) time in
    All-append (IsSatisfied v) (start_clauses m) (unit_clauses (init_units m c))
    (All-cons (IsSatisfied v) (truth_clause m.max_var 0) resets (All-head (IsSatisfied v) (truth_clause m.max_var 0) (flat_map (gate_clauses m.max_var 0) m.gates) frame)
    (All-left (IsSatisfied v) resets (time_clauses m 0) begin))
    denied

goes_over : (v : ℕ → Bool) (m : Parts) (inv : List (List Lit)) (c : List Lit) → IsWellFormed m → IsOverLatches m c → AreSatisfied v (pair_clauses m inv ++ denied_from m (m.max_var + 1) c) →
    AreSatisfied v (shared_clauses m inv ++ unit_clauses (step_units m c))
goes_over v m inv c well over all =
    let joins : List (List ℤ) = flat_map (join_clauses m.max_var 0) m.latches in
    let after : List (List ℤ) = time_clauses m (0 + m.max_var + 1) in
    let clauses : List (List ℤ) = map (clause_from m 0) inv in
    let pair = All-left (IsSatisfied v) (pair_clauses m inv) (denied_from m (m.max_var + 1) c) all in
    let denied = All-right (IsSatisfied v) (pair_clauses m inv) (denied_from m (m.max_var + 1) c) all in
    let times = All-left (IsSatisfied v) ((time_clauses m 0 ++ joins) ++ after) clauses pair in
    let both = All-left (IsSatisfied v) (time_clauses m 0 ++ joins) after times in
    let first = All-left (IsSatisfied v) (time_clauses m 0) joins both in
    let w : List Bool = values_at v 0 m.max_var in
    let x : List Bool = values_at v (0 + m.max_var + 1) m.max_var in
    let at = laid_at v 0 m first in
    let next = laid_at v (0 + m.max_var + 1) m (All-right (IsSatisfied v) (time_clauses m 0 ++ joins) after times) in
    let step = stepped v m w x well at next (All-right (IsSatisfied v) (time_clauses m 0) joins both) in
    let same : 0 + m.max_var + 1 ≡ m.max_var + 1 = omega arith in
    All-append (IsSatisfied v) (shared_clauses m inv) (unit_clauses (step_units m c))
    (All-append (IsSatisfied v) (time_clauses m 0) clauses first (All-right (IsSatisfied v) ((time_clauses m 0 ++ joins) ++ after) clauses pair))
    (next_denied v m w x c well over at (subst (λ o. IsLaid v o m.max_var x) same next) step denied)

-- what is inductive by next literals is so over two times
pub inductive_over : (m : Parts) (inv : List (List Lit)) (a : Lit) → IsWellFormed m → All (IsOverLatches m) inv → IsInductive m inv a → IsInductiveOver m inv a
inductive_over m inv a well over h = record {
  begins = λ k d k_in v all. h.begins k d k_in v (begins_over v m (get_or inv k d) all);
  goes_on = λ k d k_in v all. h.goes_on k d k_in v (goes_over v m inv (get_or inv k d) well (over k d k_in) all);
  excludes = h.excludes;
}
