-- The formula of an unrolling has literals of its variables, and few clauses.
use Rattle.std.proofs.Common.{◌≡◌, ◌≢◌, ℕ, zero, suc, ◌+◌, ◌*◌, ◌<◌, ◌≤◌, List, [], ◌∷◌, ◌++◌, map, length, get_or, All, not, AllPairs, Contains, ℤ, refl, sym, ◌∙◌, ap, subst, arith, length-append}
use Rattle.std.specs.Prelude.{flat_map}
use Rattle.std.proofs.lemmas.List.{length-map}
use Rattle.std.proofs.lemmas.List.Elements.{All-nil, All-cons, All-append, All-map, All-contains, Contains-get_or, Contains-append_left, Contains-append_right}
use Rattle.std.proofs.lemmas.List.Kept.{AllPairs-cons}
use Rattle.std.proofs.lemmas.Bool.{eqb-true}
use Rattle.std.proofs.lemmas.Bool.Decides.{Decides-eqb}
use Rattle.std.proofs.lemmas.Map.Made.{IsDistinct-from_AllPairs}
use Rattle.std.proofs.lemmas.Map.Steps.{length-le_from_distinct_below}
use Rattle.std.proofs.lemmas.Map.Views.{Contains-from_any}
use Rattle.std.proofs.lemmas.Nat.{mul-le}
use Rattle.graph.specs.declared.circuit.Latch.{Latch}
use Rattle.graph.specs.declared.circuit.Lit.{Lit}
use Rattle.graph.specs.declared.parts.Parts.{Parts}
use Rattle.graph.specs.Circuits.{variable, defined}
use Rattle.graph.specs.WellFormed.{IsWellFormed}
use Rattle.graph.proofs.Evaluation.{held, defined_nonzero}
use Rattle.graph.proofs.Gates.{left}
use Rattle.graph.proofs.Shape.{All-flat_map}
use Rattle.graph.proofs.Tabled.{holds_of_used}
use Rattle.cnf.specs.Clauses.{is_negated, literal, denial, truth_clause, frame_at, time_clauses, reset_clauses, bad_units}
use Rattle.lrat.specs.Shared.{unit_clauses}
use Rattle.lrat.specs.Limits.{IsFormula}
use Rattle.cnf.specs.Formulas.{IsInRange, IsOfTimes, IsOver, bad_formula}
use Rattle.cnf.specs.Unrolled.{join_clauses, times_from, unroll_clauses, unroll_formula}
use Rattle.cnf.proofs.Formed.{IsKnown, IsFrom, chosen_from, IsClauseFrom, AreFrom, Allows, literal_from, denial_from, two, latches_known, time_from, resets_from, allows_time, allows_to, defined_small, variables_of, time_length, resets_length}

join_from : (Q : ℕ → Type 0) (m : Parts) (o : ℕ) (l : Latch) → Allows Q m o → Allows Q m (o + m.max_var + 1) → IsKnown m l.lit → IsKnown m l.next →
    AreFrom Q (join_clauses m.max_var o l)
join_from Q m o l here after lit next =
    let n : ℕ = m.max_var in
    let c1 : List ℤ = denial n (o + n + 1) l.lit ∷ literal n o l.next ∷ [] in
    let c2 : List ℤ = literal n (o + n + 1) l.lit ∷ denial n o l.next ∷ [] in
    All-cons (IsClauseFrom Q) c1 (c2 ∷ []) (two Q (denial n (o + n + 1) l.lit) (literal n o l.next) (denial_from Q m (o + n + 1) l.lit after lit) (literal_from Q m o l.next here next))
    (All-cons (IsClauseFrom Q) c2 [] (two Q (literal n (o + n + 1) l.lit) (denial n o l.next) (literal_from Q m (o + n + 1) l.lit after lit) (denial_from Q m o l.next here next))
    (All-nil (IsClauseFrom Q)))

joins_from : (Q : ℕ → Type 0) (m : Parts) (o : ℕ) → IsWellFormed m → Allows Q m o → Allows Q m (o + m.max_var + 1) → AreFrom Q (flat_map (join_clauses m.max_var o) m.latches)
joins_from Q m o well here after =
    let next = (holds_of_used (IsKnown m) m well.used_defined).next in
    All-flat_map (IsClauseFrom Q) (join_clauses m.max_var o) m.latches
    (λ k d k_in. join_from Q m o (get_or m.latches k d) here after (latches_known m k d k_in) (next k d k_in))

-- every time's variables are allowed
abbrev AllowsTimes : (ℕ → Type 0) → Parts → ℕ → ℕ → Type 0
AllowsTimes Q m k o = (t : ℕ) → t ≤ k → Allows Q m (o + t * (m.max_var + 1))

times_are_from : (Q : ℕ → Type 0) (m : Parts) (k o : ℕ) → IsWellFormed m → AllowsTimes Q m k o → AreFrom Q (times_from m k o)
times_are_from Q m zero o well allows =
    let none : o + 0 * (m.max_var + 1) ≡ o = omega arith in
    time_from Q m o well (subst (Allows Q m) none (allows 0 (omega arith)))
times_are_from Q m (suc k) o well allows =
    let none : o + 0 * (m.max_var + 1) ≡ o = omega arith in
    let once : o + 1 * (m.max_var + 1) ≡ o + m.max_var + 1 = omega arith in
    let here : Allows Q m o = subst (Allows Q m) none (allows 0 (omega arith)) in
    let after : Allows Q m (o + m.max_var + 1) = subst (Allows Q m) once (allows 1 (omega arith)) in
    let joins : List (List ℤ) = flat_map (join_clauses m.max_var o) m.latches in
    All-append (IsClauseFrom Q) (time_clauses m o ++ joins) (times_from m k (o + m.max_var + 1))
    (All-append (IsClauseFrom Q) (time_clauses m o) joins (time_from Q m o well here) (joins_from Q m o well here after))
    (times_are_from Q m k (o + m.max_var + 1) well
    (λ t t_in. let more : o + suc t * (m.max_var + 1) ≡ o + m.max_var + 1 + t * (m.max_var + 1) = omega arith in subst (Allows Q m) more (allows (suc t) (omega arith))))

unroll_from : (Q : ℕ → Type 0) (m : Parts) (k : ℕ) → IsWellFormed m → AllowsTimes Q m k 0 → AreFrom Q (unroll_clauses m k)
unroll_from Q m k well allows =
    let none : 0 + 0 * (m.max_var + 1) ≡ 0 = omega arith in
    All-append (IsClauseFrom Q) (flat_map (reset_clauses m.max_var 0) m.latches) (times_from m k 0)
    (resets_from Q m 0 (subst (Allows Q m) none (allows 0 (omega arith)))) (times_are_from Q m k 0 well allows)

truth_of_time : (m : Parts) (o : ℕ) → Contains (time_clauses m o) (truth_clause m.max_var o)
truth_of_time m o = Contains-append_left (frame_at m o) (unit_clauses (map (literal m.max_var o) m.constraints)) (truth_clause m.max_var o) (0, omega arith, refl)

truths_of_times : (m : Parts) (k o t : ℕ) → t ≤ k → Contains (times_from m k o) (truth_clause m.max_var (o + t * (m.max_var + 1)))
truths_of_times m zero o t t_in =
    let same : o ≡ o + t * (m.max_var + 1) = (let first : t ≡ 0 = omega arith in let none : o ≡ o + 0 * (m.max_var + 1) = omega arith in none ∙ ap (λ s. o + s * (m.max_var + 1)) (sym first)) in
    subst (λ p. Contains (time_clauses m o) (truth_clause m.max_var p)) same (truth_of_time m o)
truths_of_times m (suc k) o zero t_in =
    let none : o ≡ o + 0 * (m.max_var + 1) = omega arith in
    let joins : List (List ℤ) = flat_map (join_clauses m.max_var o) m.latches in
    Contains-append_left (time_clauses m o ++ joins) (times_from m k (o + m.max_var + 1)) (truth_clause m.max_var (o + 0 * (m.max_var + 1)))
    (Contains-append_left (time_clauses m o) joins (truth_clause m.max_var (o + 0 * (m.max_var + 1)))
    (subst (λ p. Contains (time_clauses m o) (truth_clause m.max_var p)) none (truth_of_time m o)))
truths_of_times m (suc k) o (suc t) t_in =
    let more : o + m.max_var + 1 + t * (m.max_var + 1) ≡ o + suc t * (m.max_var + 1) = omega arith in
    let joins : List (List ℤ) = flat_map (join_clauses m.max_var o) m.latches in
    Contains-append_right (time_clauses m o ++ joins) (times_from m k (o + m.max_var + 1)) (truth_clause m.max_var (o + suc t * (m.max_var + 1)))
    (subst (λ p. Contains (times_from m k (o + m.max_var + 1)) (truth_clause m.max_var p)) more (truths_of_times m k (o + m.max_var + 1) t (omega arith)))

pub unroll_over : (m : Parts) (k : ℕ) → IsWellFormed m → IsOver m (k + 1) (unroll_clauses m k)
unroll_over m k well = record {
  truths = λ t t_in.
      let same : 0 + t * (m.max_var + 1) ≡ t * (m.max_var + 1) = omega arith in
      Contains-append_right (flat_map (reset_clauses m.max_var 0) m.latches) (times_from m k 0) (truth_clause m.max_var (t * (m.max_var + 1)))
      (subst (λ p. Contains (times_from m k 0) (truth_clause m.max_var p)) same (truths_of_times m k 0 t (omega arith)));
  defined_only = variables_of m (k + 1) (unroll_clauses m k)
      (unroll_from (IsOfTimes m (k + 1)) m k well (λ t t_in. allows_time m (k + 1) t (0 + t * (m.max_var + 1)) (omega arith) (omega arith)));
}

-- latches and gates have variables of their own
few_variables : (m : Parts) → IsWellFormed m → length m.latches + length m.gates ≤ m.max_var
few_variables m well =
    let all : List ℕ = 0 ∷ defined m in
    let apart : AllPairs (λ u v. u ≢ v) all = AllPairs-cons (λ u v. u ≢ v) 0 (defined m) (λ k d k_in e. defined_nonzero m well k d k_in (sym e)) well.defined_once in
    let below : (q : ℕ) → Contains all q → q < m.max_var + 1 = λ q found.
    All-contains (λ v. v < m.max_var + 1) all q
    (All-cons (λ v. v < m.max_var + 1) 0 (defined m) (omega arith)
    (λ k d k_in. let le = defined_small m (get_or (defined m) k d) well (Contains-get_or (defined m) k d k_in) in omega arith)) found in
    let count : length all ≤ m.max_var + 1 = length-le_from_distinct_below all (m.max_var + 1) (IsDistinct-from_AllPairs Decides-eqb all apart)
    (λ q found. below q (Contains-from_any eqb-true q all found)) in
    let inputs : List ℕ = map variable m.inputs in let latches : List ℕ = map held m.latches in let gates : List ℕ = map left m.gates in
    omega (arith, count, length-append (inputs ++ latches) gates, length-append inputs latches, length-map m.latches held, length-map m.gates left)

joins_length : (n o : ℕ) (ls : List Latch) → length (flat_map (join_clauses n o) ls) ≡ 2 * length ls
joins_length n o [] = refl
joins_length n o (l ∷ ls) = omega (arith, joins_length n o ls)

-- how many clauses a time and its joins have
abbrev at_time : Parts → ℕ
at_time m = 1 + 3 * length m.gates + length m.constraints + 2 * length m.latches

times_length : (m : Parts) (k o : ℕ) → length (times_from m k o) + 2 * length m.latches ≡ (k + 1) * at_time m
times_length m zero o = omega (arith, time_length m o)
times_length m (suc k) o =
    let joins : List (List ℤ) = flat_map (join_clauses m.max_var o) m.latches in
    let more : (suc k + 1) * at_time m ≡ at_time m + (k + 1) * at_time m = omega arith in
    omega (
      arith,
      more,
      times_length m k (o + m.max_var + 1),
      time_length m o,
      joins_length m.max_var o m.latches,
      length-append (time_clauses m o ++ joins) (times_from m k (o + m.max_var + 1)),
      length-append (time_clauses m o) joins,
    )

unroll_length : (m : Parts) (k : ℕ) → IsWellFormed m → k ≤ 255 → length (unroll_clauses m k) < 4294967296
unroll_length m k well small =
    let constraints = well.limits.constraints in let greatest = well.limits.max_var in
    let bound : (k + 1) * at_time m ≤ 256 * 16777213 = mul-le (k + 1) (at_time m) 256 16777213 (omega arith) (omega (arith, few_variables m well)) in
    omega (arith, bound, times_length m k 0, resets_length m.max_var 0 m.latches, length-append (flat_map (reset_clauses m.max_var 0) m.latches) (times_from m k 0))

pub unroll_formed : (m : Parts) (k : ℕ) → IsWellFormed m → k ≤ 255 → IsFormula (unroll_formula m k)
unroll_formed m k well small =
    let greatest = well.limits.max_var in
    let vars : (k + 1) * (m.max_var + 1) ≤ 256 * 4194304 = mul-le (k + 1) (m.max_var + 1) 256 4194304 (omega arith) (omega arith) in
    record {
      are_literals = unroll_from (λ u. u ≤ (k + 1) * (m.max_var + 1)) m k well
          (λ t t_in. allows_to m (0 + t * (m.max_var + 1)) ((k + 1) * (m.max_var + 1)) well
          (let top : (t + 1) * (m.max_var + 1) ≤ (k + 1) * (m.max_var + 1) = mul-le (t + 1) (m.max_var + 1) (k + 1) (m.max_var + 1) (omega arith) (omega arith) in omega (arith, top)));
      small = omega (arith, vars);
      few = unroll_length m k well small;
    }

-- a literal in range is of the variables up to a number
pub literal_below : (n o top : ℕ) (a : Lit) → IsInRange n a → o + n + 1 ≤ top → IsFrom (λ u. u ≤ top) (literal n o a)
literal_below n o top a range high =
    chosen_from (λ u. u ≤ top) (not (is_negated a)) (is_negated a) (variable a) o (o + n + 1) (λ e. omega arith) high (λ nz. omega (arith, range, high))

-- the literals of a clause in range are of them
pub clause_below : (n o top : ℕ) (c : List Lit) → All (IsInRange n) c → o + n + 1 ≤ top → IsClauseFrom (λ u. u ≤ top) (map (literal n o) c)
clause_below n o top c over high =
    All-map (IsFrom (λ u. u ≤ top)) (literal n o) c (λ i e i_in. literal_below n o top (get_or c i e) (over i e i_in) high)

pub clauses_below : (n o top : ℕ) (inv : List (List Lit)) → All (All (IsInRange n)) inv → o + n + 1 ≤ top → AreFrom (λ u. u ≤ top) (map (map (literal n o)) inv)
clauses_below n o top inv over high =
    All-map (IsClauseFrom (λ u. u ≤ top)) (map (literal n o)) inv (λ k d k_in. clause_below n o top (get_or inv k d) (over k d k_in) high)

pub begin_formed : (m : Parts) → IsWellFormed m → IsFormula (record { vars = m.max_var + 1; clauses = unroll_clauses m 0 })
begin_formed m well =
    let same : (0 + 1) * (m.max_var + 1) ≡ m.max_var + 1 = omega arith in
    subst (λ n. IsFormula (record { vars = n; clauses = unroll_clauses m 0 })) same (unroll_formed m 0 well (omega arith))

pub pair_formed : (m : Parts) (inv : List (List Lit)) → IsWellFormed m → All (All (IsInRange m.max_var)) inv → length inv ≤ 4194303 →
    IsFormula (record { vars = 2 * (m.max_var + 1); clauses = times_from m 1 0 ++ map (map (literal m.max_var 0)) inv })
pair_formed m inv well over few_clauses =
    let top : ℕ = 2 * (m.max_var + 1) in
    let Q : ℕ → Type 0 = λ u. u ≤ top in
    let cs : List (List ℤ) = map (map (literal m.max_var 0)) inv in
    let greatest = well.limits.max_var in let constraints = well.limits.constraints in
    let bound : (1 + 1) * at_time m ≤ 2 * 16777213 = mul-le (1 + 1) (at_time m) 2 16777213 (omega arith) (omega (arith, few_variables m well)) in
    record {
      are_literals = All-append (IsClauseFrom Q) (times_from m 1 0) cs
          (times_are_from Q m 1 0 well (λ t t_in. allows_to m (0 + t * (m.max_var + 1)) top well
          (let high : (t + 1) * (m.max_var + 1) ≤ 2 * (m.max_var + 1) = mul-le (t + 1) (m.max_var + 1) 2 (m.max_var + 1) (omega arith) (omega arith) in omega (arith, high))))
          (clauses_below m.max_var 0 top inv over (omega arith));
      small = omega arith;
      few = omega (arith, bound, times_length m 1 0, length-append (times_from m 1 0) cs, length-map inv (map (literal m.max_var 0)));
    }

pub claim_formed : (m : Parts) (inv : List (List Lit)) (a : Lit) → IsWellFormed m → All (All (IsInRange m.max_var)) inv → length inv ≤ 4194303 → IsInRange m.max_var a →
    IsFormula (bad_formula m inv a)
claim_formed m inv a well over few_clauses range =
    let top : ℕ = m.max_var + 1 in
    let Q : ℕ → Type 0 = λ u. u ≤ top in
    let cs : List (List ℤ) = map (map (literal m.max_var 0)) inv in
    let us : List (List ℤ) = unit_clauses (bad_units m a) in
    let greatest = well.limits.max_var in let gates = well.limits.gates in let constraints = well.limits.constraints in
    record {
      are_literals = All-append (IsClauseFrom Q) (time_clauses m 0 ++ cs) us
          (All-append (IsClauseFrom Q) (time_clauses m 0) cs (time_from Q m 0 well (allows_to m 0 top well (omega arith))) (clauses_below m.max_var 0 top inv over (omega arith)))
          (All-cons (IsClauseFrom Q) (literal m.max_var 0 a ∷ []) []
          (All-cons (IsFrom Q) (literal m.max_var 0 a) [] (literal_below m.max_var 0 top a range (omega arith)) (All-nil (IsFrom Q))) (All-nil (IsClauseFrom Q)));
      small = omega arith;
      few = omega (arith, time_length m 0, length-append (time_clauses m 0 ++ cs) us, length-append (time_clauses m 0) cs, length-map inv (map (literal m.max_var 0)));
    }
