-- An unrolling is satisfied exactly by runs that keep the constraints.
use Rattle.std.proofs.Common.{◌≡◌, ℕ, zero, suc, ◌+◌, Bool, true, false, not, ◌||◌, List, [], ◌∷◌, ◌++◌, map, length, get_or, All, ℤ, refl, sym, arith}
use Rattle.std.specs.Prelude.{flat_map}
use Rattle.std.proofs.lemmas.List.Elements.{All-nil, All-cons, All-head, All-tail, All-append}
use Rattle.graph.specs.declared.circuit.Latch.{Latch}
use Rattle.graph.specs.declared.parts.Parts.{Parts}
use Rattle.graph.specs.Circuits.{place, value_of, IsValuation, Agrees, IsStep, Steps, IsRun, KeepsConstraints}
use Rattle.graph.specs.WellFormed.{IsWellFormed}
use Rattle.graph.proofs.Evaluation.{All-left, All-right, latches_in_range}
use Rattle.graph.proofs.Shape.{All-flat_map, All-unflat_map}
use Rattle.lrat.specs.Literals.{IsSatisfied}
use Rattle.cnf.specs.Clauses.{literal, denial, reset_clauses, time_clauses}
use Rattle.cnf.specs.Formulas.{IsInRange}
use Rattle.cnf.specs.Meaning.{AreSatisfied, KeepsNow}
use Rattle.cnf.specs.Unrolled.{join_clauses, times_from, unroll_clauses, laid, UnrollLaw}
use Rattle.cnf.proofs.Listed.{any_true, any-satisfied, satisfied-any}
use Rattle.cnf.proofs.Values.{IsLaid, literal_true, denial_true}
use Rattle.cnf.proofs.CaseLaws.{nexts_in_range, resets_satisfied, satisfied_resets, time_satisfied, time_says}
use Rattle.cnf.proofs.Laid.{Lies, laid_lies}

first_way : (x y : Bool) → x ≡ y → (not x || (y || false)) ≡ true
first_way true true e = refl
first_way true false e = sym e
first_way false y e = refl

second_way : (x y : Bool) → x ≡ y → (x || (not y || false)) ≡ true
second_way true y e = refl
second_way false false e = refl
second_way false true e = e

both_ways : (x y : Bool) → (not x || (y || false)) ≡ true → (x || (not y || false)) ≡ true → x ≡ y
both_ways true true p q = refl
both_ways true false p q = sym p
both_ways false true p q = q
both_ways false false p q = refl

-- the next value of one latch
joined : (v : ℕ → Bool) (o n : ℕ) (w x : List Bool) (l : Latch) → IsLaid v o n w → IsLaid v (o + n + 1) n x → IsInRange n l.lit → IsInRange n l.next →
    value_of x l.lit ≡ value_of w l.next → AreSatisfied v (join_clauses n o l)
joined v o n w x l at next lit_in next_in same =
    let c1 : List ℤ = denial n (o + n + 1) l.lit ∷ literal n o l.next ∷ [] in
    let c2 : List ℤ = literal n (o + n + 1) l.lit ∷ denial n o l.next ∷ [] in
    let p : any_true v c1 ≡ true = rw (denial_true v (o + n + 1) n x l.lit next lit_in, literal_true v o n w l.next at next_in) (first_way (value_of x l.lit) (value_of w l.next) same) in
    let q : any_true v c2 ≡ true = rw (literal_true v (o + n + 1) n x l.lit next lit_in, denial_true v o n w l.next at next_in) (second_way (value_of x l.lit) (value_of w l.next) same) in
    All-cons (IsSatisfied v) c1 (c2 ∷ []) (any-satisfied v c1 p) (All-cons (IsSatisfied v) c2 [] (any-satisfied v c2 q) (All-nil (IsSatisfied v)))

takes_over : (v : ℕ → Bool) (o n : ℕ) (w x : List Bool) (l : Latch) → IsLaid v o n w → IsLaid v (o + n + 1) n x → IsInRange n l.lit → IsInRange n l.next →
    AreSatisfied v (join_clauses n o l) → value_of x l.lit ≡ value_of w l.next
takes_over v o n w x l at next lit_in next_in all =
    let c1 : List ℤ = denial n (o + n + 1) l.lit ∷ literal n o l.next ∷ [] in
    let c2 : List ℤ = literal n (o + n + 1) l.lit ∷ denial n o l.next ∷ [] in
    let p : any_true v c1 ≡ true = satisfied-any v c1 (All-head (IsSatisfied v) c1 (c2 ∷ []) all) in
    let q : any_true v c2 ≡ true = satisfied-any v c2 (All-head (IsSatisfied v) c2 [] (All-tail (IsSatisfied v) c1 (c2 ∷ []) all)) in
    both_ways (value_of x l.lit) (value_of w l.next)
    (rw (denial_true v (o + n + 1) n x l.lit next lit_in, literal_true v o n w l.next at next_in) at p)
    (rw (literal_true v (o + n + 1) n x l.lit next lit_in, denial_true v o n w l.next at next_in) at q)

maps_same : (f g : Latch → Bool) (ls : List Latch) → All (λ l. f l ≡ g l) ls → map f ls ≡ map g ls
maps_same f g [] all = refl
maps_same f g (l ∷ ls) all =
    let head : f l ≡ g l = All-head (λ (y : Latch). f y ≡ g y) l ls all in
    let rest : map f ls ≡ map g ls = maps_same f g ls (All-tail (λ (y : Latch). f y ≡ g y) l ls all) in
    rw (head, rest) refl

same_maps : (f g : Latch → Bool) (ls : List Latch) → map f ls ≡ map g ls → All (λ l. f l ≡ g l) ls
same_maps f g [] same = All-nil (λ (y : Latch). f y ≡ g y)
same_maps f g (l ∷ ls) same =
    let head : f l ≡ g l = cc in let rest : map f ls ≡ map g ls = cc in
    All-cons (λ (y : Latch). f y ≡ g y) l ls head (same_maps f g ls rest)

-- a step, both ways
step_joins : (v : ℕ → Bool) (o : ℕ) (m : Parts) (w x : List Bool) → IsWellFormed m → IsLaid v o m.max_var w → IsLaid v (o + m.max_var + 1) m.max_var x → IsStep m w x →
    AreSatisfied v (flat_map (join_clauses m.max_var o) m.latches)
step_joins v o m w x well at next step =
    let each = same_maps (λ l. value_of x l.lit) (λ l. value_of w l.next) m.latches step in
    All-flat_map (IsSatisfied v) (join_clauses m.max_var o) m.latches
    (λ k d k_in. joined v o m.max_var w x (get_or m.latches k d) at next (latches_in_range m well k d k_in) (nexts_in_range m well k d k_in) (each k d k_in))

joins_step : (v : ℕ → Bool) (o : ℕ) (m : Parts) (w x : List Bool) → IsWellFormed m → IsLaid v o m.max_var w → IsLaid v (o + m.max_var + 1) m.max_var x →
    AreSatisfied v (flat_map (join_clauses m.max_var o) m.latches) → IsStep m w x
joins_step v o m w x well at next all =
    let each = All-unflat_map (IsSatisfied v) (join_clauses m.max_var o) m.latches all in
    maps_same (λ l. value_of x l.lit) (λ l. value_of w l.next) m.latches
    (λ k d k_in. takes_over v o m.max_var w x (get_or m.latches k d) at next (latches_in_range m well k d k_in) (nexts_in_range m well k d k_in) (each k d k_in))

-- the times of a run, both ways
times_satisfied : (v : ℕ → Bool) (m : Parts) (k o : ℕ) (w : List Bool) (r : List (List Bool)) → IsWellFormed m → length r ≡ k → Lies v m.max_var (w ∷ r) o →
    All (Agrees m) (w ∷ r) → KeepsConstraints m (w ∷ r) → Steps m (w ∷ r) → AreSatisfied v (times_from m k o)
times_satisfied v m zero o w [] well len lies agrees keeps steps =
    time_satisfied v o m w well lies.0 (All-head (Agrees m) w [] agrees) (All-head (KeepsNow m) w [] keeps)
times_satisfied v m zero o w (x ∷ r) well len lies agrees keeps steps = absurd (omega (arith, len))
times_satisfied v m (suc k) o w [] well len lies agrees keeps steps = absurd (omega (arith, len))
times_satisfied v m (suc k) o w (x ∷ r) well len lies agrees keeps steps =
    let here = time_satisfied v o m w well lies.0 (All-head (Agrees m) w (x ∷ r) agrees) (All-head (KeepsNow m) w (x ∷ r) keeps) in
    let joins : List (List ℤ) = flat_map (join_clauses m.max_var o) m.latches in
    let later = times_satisfied v m k (o + m.max_var + 1) x r well (omega (arith, len)) lies.1 (All-tail (Agrees m) w (x ∷ r) agrees) (All-tail (KeepsNow m) w (x ∷ r) keeps) steps.1 in
    All-append (IsSatisfied v) (time_clauses m o ++ joins) (times_from m k (o + m.max_var + 1))
    (All-append (IsSatisfied v) (time_clauses m o) joins here (step_joins v o m w x well lies.0 lies.1.0 steps.0)) later

-- what satisfied times say
record Runs (m : Parts) (r : List (List Bool)) : Type 0 where
  agrees : All (Agrees m) r
  keeps : KeepsConstraints m r
  steps : Steps m r

times_say : (v : ℕ → Bool) (m : Parts) (k o : ℕ) (w : List Bool) (r : List (List Bool)) → IsWellFormed m → length r ≡ k → Lies v m.max_var (w ∷ r) o →
    All (IsValuation m) (w ∷ r) → AreSatisfied v (times_from m k o) → Runs m (w ∷ r)
times_say v m zero o w [] well len lies vals all =
    let here = time_says v o m w well lies.0 (All-head (IsValuation m) w [] vals) all in
    record { agrees = All-cons (Agrees m) w [] here.0 (All-nil (Agrees m)); keeps = All-cons (KeepsNow m) w [] here.1 (All-nil (KeepsNow m)); steps = tt }
times_say v m zero o w (x ∷ r) well len lies vals all = absurd (omega (arith, len))
times_say v m (suc k) o w [] well len lies vals all = absurd (omega (arith, len))
times_say v m (suc k) o w (x ∷ r) well len lies vals all =
    let joins : List (List ℤ) = flat_map (join_clauses m.max_var o) m.latches in
    let rest : List (List ℤ) = times_from m k (o + m.max_var + 1) in
    let first : AreSatisfied v (time_clauses m o ++ joins) = All-left (IsSatisfied v) (time_clauses m o ++ joins) rest all in
    let here = time_says v o m w well lies.0 (All-head (IsValuation m) w (x ∷ r) vals) (All-left (IsSatisfied v) (time_clauses m o) joins first) in
    let step = joins_step v o m w x well lies.0 lies.1.0 (All-right (IsSatisfied v) (time_clauses m o) joins first) in
    let later = times_say v m k (o + m.max_var + 1) x r well (omega (arith, len)) lies.1 (All-tail (IsValuation m) w (x ∷ r) vals)
    (All-right (IsSatisfied v) (time_clauses m o ++ joins) rest all) in
    record {
      agrees = All-cons (Agrees m) w (x ∷ r) here.0 later.agrees;
      keeps = All-cons (KeepsNow m) w (x ∷ r) here.1 later.keeps;
      steps = (step, later.steps);
    }

lies_at : (m : Parts) (r : List (List Bool)) → All (IsValuation m) r → Lies (place (laid r)) m.max_var r 0
lies_at m r vals = laid_lies m.max_var r (λ k d k_in. ((vals k d k_in).places, (vals k d k_in).constant))

unroll_satisfied : (m : Parts) (k : ℕ) (r : List (List Bool)) → IsWellFormed m → length r ≡ k + 1 → All (IsValuation m) r → IsRun m r → KeepsConstraints m r →
    AreSatisfied (place (laid r)) (unroll_clauses m k)
unroll_satisfied m k [] well len vals run keeps = absurd (omega (arith, len))
unroll_satisfied m k (w ∷ r) well len vals run keeps =
    let v : ℕ → Bool = place (laid (w ∷ r)) in let lies = lies_at m (w ∷ r) vals in
    All-append (IsSatisfied v) (flat_map (reset_clauses m.max_var 0) m.latches) (times_from m k 0)
    (resets_satisfied v 0 m w well lies.0 run.starts)
    (times_satisfied v m k 0 w r well (omega (arith, len)) lies run.agrees keeps run.steps)

unroll_says : (m : Parts) (k : ℕ) (r : List (List Bool)) → IsWellFormed m → length r ≡ k + 1 → All (IsValuation m) r → AreSatisfied (place (laid r)) (unroll_clauses m k) →
    IsRun m r × KeepsConstraints m r
unroll_says m k [] well len vals all = absurd (omega (arith, len))
unroll_says m k (w ∷ r) well len vals all =
    let v : ℕ → Bool = place (laid (w ∷ r)) in let lies = lies_at m (w ∷ r) vals in
    let resets : List (List ℤ) = flat_map (reset_clauses m.max_var 0) m.latches in
    let runs = times_say v m k 0 w r well (omega (arith, len)) lies vals (All-right (IsSatisfied v) resets (times_from m k 0) all) in (
      record {
        agrees = runs.agrees;
        starts = satisfied_resets v 0 m w well lies.0 (All-left (IsSatisfied v) resets (times_from m k 0) all);
        steps = runs.steps;
      },
      runs.keeps,
    )

pub unroll_law : (m : Parts) (k : ℕ) → IsWellFormed m → UnrollLaw m k
unroll_law m k well r len vals = (λ p. unroll_satisfied m k r well len vals p.0 p.1, unroll_says m k r well len vals)
