-- What latches that count steps say of runs.
use Rattle.std.proofs.Common.{◌≡◌, ℕ, zero, suc, ◌+◌, ◌-◌, ◌*◌, ◌<◌, ◌≤◌, ◌↔◌, Bool, true, false, List, [], ◌∷◌, ◌++◌, length, map, take, get_or, refl, inl, inr, arith, Contains, get_or-take, ◌∙◌, sym, ap, ap₂, subst, length-append}
use Rattle.std.proofs.Math.Seq.{take-append_seam}
use Rattle.std.proofs.lemmas.Bool.{cases_lt, true≢false}
use Rattle.std.proofs.lemmas.List.{map-append, length-map, get_or-map, get_or_append_left, get_or-append-add}
use Rattle.std.proofs.lemmas.List.Elements.{All-nil, Contains-append_right}
use Rattle.graph.specs.declared.circuit.Lit.{Lit}
use Rattle.graph.specs.declared.circuit.Latch.{Latch}
use Rattle.graph.specs.declared.circuit.Property.TheVariants.{Bad}
use Rattle.graph.specs.declared.parts.Parts.{Parts}
use Rattle.graph.specs.Circuits.{at, Valuation, place, variable, value_of, state_of, inputs_of, defined, IsReset, IsRun, KeepsConstraints}
use Rattle.graph.specs.WellFormed.{IsWellFormed, only_bad}
use Rattle.graph.proofs.Alone.{run_with, run_without, watched_one}
use Rattle.graph.proofs.Evaluation.{held, All-right, Contains-map}
use Rattle.graph.proofs.Times.{Steps-at, Starts-at}
use Rattle.live_safe.specs.Shadow.{positive, cleared}
use Rattle.live_safe.proofs.Values.{value-at}
use Rattle.live_safe.proofs.Extended.{of_latches}
use Rattle.live_safe.proofs.Begun.{begins_at, begins_from}
use Rattle.live_safe.proofs.Forced.{all_from_map, map_from_all}
use Rattle.live_safe.proofs.Ranges.{AreIn, are_in}
use Rattle.extension.specs.Extended.{extended, IsNextLatch, AreNextLatches, IsExtension, IsKnown, IsFitting, FittingLaw, CarriedLaw, RestrictedLaw}
use Rattle.extension.specs.Rounds.{always}
use Rattle.cover_circuits.proofs.OneBad.{alone_well_formed}
use Rattle.cover_circuits.specs.Covering.{Violates, IsAlwaysBad, step_literal, step_latches, behind, IsBadBehind, ShowsRun}

-- ---- the constant true

always_on : (x : Valuation) → place x 0 ≡ false → value_of x always ≡ true
always_on x off = rw off refl

always_known : (m : Parts) → IsKnown m always
always_known m = inl (omega arith)

pub always_well_formed : (m : Parts) → IsWellFormed m → IsWellFormed (only_bad m always)
always_well_formed m well = alone_well_formed m always well (omega arith) (always_known m)

pub always_bad : (m : Parts) → IsAlwaysBad m (only_bad m always)
always_bad m r = (
  λ h. (run_without m always r h.runs, h.keeps),
  λ h. let some = (Starts-at m r h.0.starts).0 in record {
    runs = run_with m always r h.0;
    keeps = h.1;
    bad = always;
    watched = refl;
    time = 0;
    inside = some;
    sets = always_on (at r 0) (h.0.agrees 0 [] some).valuation.constant;
  },
)

-- ---- the latches

pub length-steps : (v n : ℕ) → length (step_latches v n) ≡ n
length-steps v zero = refl
length-steps v (suc n) = omega (arith, length-append (step_latches v n) (cleared (v + n) (step_literal v n) ∷ []), length-steps v n)

pub steps_more : (v n : ℕ) → step_latches v (n + 1) ≡ step_latches v n ++ cleared (v + n) (step_literal v n) ∷ []
steps_more v n = let e : n + 1 ≡ suc n = omega arith in rw e refl

next_last : (ls : List Latch) (l : Latch) (n : ℕ) → AreNextLatches ls n → IsNextLatch (n + length ls) l → AreNextLatches (ls ++ l ∷ []) n
next_last [] l n h last = let e : n + 0 ≡ n = omega arith in (rw e at last, tt)
next_last (k ∷ ls) l n h last = let e : n + suc (length ls) ≡ n + 1 + length ls = omega arith in (h.0, next_last ls l (n + 1) h.1 (rw e at last))

next_steps : (v n : ℕ) → AreNextLatches (step_latches v n) v
next_steps v zero = tt
next_steps v (suc n) =
    let last : IsNextLatch (v + n) (cleared (v + n) (step_literal v n)) = record { defines = refl; reset = inl refl } in
    next_last (step_latches v n) (cleared (v + n) (step_literal v n)) v (next_steps v n) (rw (length-steps v n) last)

step_at : (v n j : ℕ) (d : Latch) → j < n → get_or (step_latches v n) j d ≡ cleared (v + j) (step_literal v j)
step_at v zero j d j_in = absurd (omega arith)
step_at v (suc n) j d j_in =
    let xs : List Latch = step_latches v n in
    let last : Latch = cleared (v + n) (step_literal v n) in
    elim (cases_lt j n) [
      | inl before ↦ get_or_append_left xs (last ∷ []) d j (omega (arith, before, length-steps v n)) ∙ step_at v n j d before
      | inr after ↦
          let is_n : j ≡ n = omega arith in
          let place_is : j ≡ length xs + 0 = omega (arith, is_n, length-steps v n) in
          ap (λ q. get_or (xs ++ last ∷ []) q d) place_is ∙ get_or-append-add xs (last ∷ []) 0 d ∙ ap (λ q. cleared (v + q) (step_literal v q)) (sym is_n)
    ]

pub steps_extend : (m : Parts) (n : ℕ) → IsExtension m (step_latches (m.max_var + 1) n) []
steps_extend m n = record { latches = next_steps (m.max_var + 1) n; gates = tt }

-- ---- the circuit is well formed

-- the variable of a step's latch is defined
step_defined : (m : Parts) (n k : ℕ) → k < n → Contains (defined (extended m (step_latches (m.max_var + 1) n) [])) (m.max_var + 1 + k)
step_defined m n k k_in =
    let v : ℕ = m.max_var + 1 in
    let ls : List Latch = step_latches v n in
    let d : Latch = cleared 0 always in
    let here : get_or ls k d ≡ cleared (v + k) (step_literal v k) = step_at v n k d k_in in
    let is : held (cleared (v + k) (step_literal v k)) ≡ v + k = omega arith in
    let among : Contains (map held ls) (v + k) = subst (Contains (map held ls)) (ap held here ∙ is) (Contains-map held ls k d (omega (arith, k_in, length-steps v n))) in
    of_latches (extended m ls []) (v + k) (rw (map-append held m.latches ls) (Contains-append_right (map held m.latches) (map held ls) (v + k) among))

known_step : (m : Parts) (n k : ℕ) → k ≤ n → IsKnown (extended m (step_latches (m.max_var + 1) n) []) (step_literal (m.max_var + 1) k)
known_step m n zero k_in = inl (omega arith)
known_step m n (suc k) k_in =
    let is : variable (positive (m.max_var + 1 + k)) ≡ m.max_var + 1 + k = omega arith in
    inr (rw is (step_defined m n k (omega arith)))

step_range : (v n : ℕ) → 0 < v → (step_literal v n).0 + 1 ≤ 2 * (v + n)
step_range v zero some = omega arith
step_range v (suc n) some = omega arith

pub behind_well_formed : (m : Parts) (n : ℕ) → FittingLaw m (step_latches (m.max_var + 1) n) [] → m.max_var + n ≤ 4194303 → IsWellFormed (behind m n)
behind_well_formed m n fitting within =
    let v : ℕ = m.max_var + 1 in
    let ls : List Latch = step_latches v n in
    let x : Parts = extended m ls [] in
    let long : length ls ≡ n = length-steps v n in
    let fits : IsFitting m ls [] = record {
      within = omega (arith, long);
      nexts = λ k d k_in. let here : get_or ls k d ≡ cleared (v + k) (step_literal v k) = step_at v n k d (omega (arith, k_in, long)) in rw here (known_step m n k (omega (arith, k_in, long)));
      rhs0s = All-nil (λ g. IsKnown x g.rhs0);
      rhs1s = All-nil (λ g. IsKnown x g.rhs1);
    } in
    let range = step_range v n (omega arith) in
    alone_well_formed x (step_literal v n) (fitting.0 fits) (omega (arith, range, long)) (known_step m n n (omega arith))

-- ---- what is set from one step on, is next set from two steps on

record Goes (times n : ℕ) (b : ℕ → ℕ → Bool) : Type 0 where
  one : (t : ℕ) → t < times → b 0 t ≡ true
  first : (k : ℕ) → k < n → b (suc k) 0 ≡ false
  step : (k t : ℕ) → k < n → suc t < times → b (suc k) (suc t) ≡ b k t

set_from : (times n : ℕ) (b : ℕ → ℕ → Bool) → Goes times n b → (k t : ℕ) → k ≤ n → k ≤ t → t < times → b k t ≡ true
set_from times n b h zero t k_in later t_in = h.one t t_in
set_from times n b h (suc k) zero k_in later t_in = absurd (omega arith)
set_from times n b h (suc k) (suc t) k_in later t_in = h.step k t (omega arith) t_in ∙ set_from times n b h k t (omega arith) (omega arith) (omega arith)

off_before : (times n : ℕ) (b : ℕ → ℕ → Bool) → Goes times n b → (k t : ℕ) → k ≤ n → t < k → t < times → b k t ≡ false
off_before times n b h zero t k_in before t_in = absurd (omega arith)
off_before times n b h (suc k) zero k_in before t_in = h.first k (omega arith)
off_before times n b h (suc k) (suc t) k_in before t_in = h.step k t (omega arith) t_in ∙ off_before times n b h k t (omega arith) (omega arith) (omega arith)

goes : (m : Parts) (n : ℕ) (s : List Valuation) → IsRun (extended m (step_latches (m.max_var + 1) n) []) s →
    Goes (length s) n (λ k t. value_of (at s t) (step_literal (m.max_var + 1) k))
goes m n s run =
    let v : ℕ = m.max_var + 1 in
    let ls : List Latch = step_latches v n in
    let x : Parts = extended m ls [] in
    let d : Latch = cleared 0 always in
    let there : (k : ℕ) → k < n → k < length ls = λ k k_in. omega (arith, k_in, length-steps v n) in
    let start = Starts-at x s run.starts in
    record {
      one = λ t t_in. always_on (at s t) (run.agrees t [] t_in).valuation.constant;
      first = λ k k_in.
          let here : get_or ls k d ≡ cleared (v + k) (step_literal v k) = step_at v n k d k_in in
          let reset : IsReset (at s 0) (get_or ls k d) = All-right (IsReset (at s 0)) m.latches ls start.1 k d (there k k_in) in
          (rw here at reset).low refl;
      step = λ k t k_in t_in.
          let e : t + 1 ≡ suc t = omega arith in
          let here : get_or ls k d ≡ cleared (v + k) (step_literal v k) = step_at v n k d k_in in
          let moves = All-right (λ l. value_of (at s (suc t)) l.lit ≡ value_of (at s t) l.next) m.latches ls
          (all_from_map (λ l. value_of (at s (suc t)) l.lit) (λ l. value_of (at s t) l.next) (m.latches ++ ls) (rw e at (Steps-at x s t run.steps (omega arith)))) in
          rw here at (moves k d (there k k_in));
    }

-- ---- the laws

exactly : (m : Parts) (n : ℕ) (s : List Valuation) → IsRun (behind m n) s → KeepsConstraints (behind m n) s → Violates (behind m n) (Bad 0) s ↔ (n < length s)
exactly m n s run keeps =
    let v : ℕ = m.max_var + 1 in
    let last : Lit = step_literal v n in
    let x : Parts = extended m (step_latches v n) [] in
    let b : ℕ → ℕ → Bool = λ k t. value_of (at s t) (step_literal v k) in
    let g : Goes (length s) n b = goes m n s (run_without x last s run) in (
      λ h. elim (cases_lt h.time n) [
        | inr late ↦ let inside = h.inside in omega (arith, late, inside)
        | inl early ↦
            let same : last ≡ h.bad = watched_one (behind m n) (Bad 0) last h.bad refl h.watched in
            absurd (true≢false (sym h.sets ∙ ap (value_of (at s h.time)) (sym same) ∙ off_before (length s) n b g n h.time (omega arith) early h.inside))
      ],
      λ long. record {
        runs = run;
        keeps = keeps;
        bad = last;
        watched = refl;
        time = n;
        inside = long;
        sets = set_from (length s) n b g n n (omega arith) (omega arith) long;
      },
    )

pub bad_behind : (m : Parts) (n : ℕ) → CarriedLaw m (step_latches (m.max_var + 1) n) [] → RestrictedLaw m (step_latches (m.max_var + 1) n) [] → IsBadBehind m (behind m n) n
bad_behind m n there back =
    let v : ℕ = m.max_var + 1 in
    let ls : List Latch = step_latches v n in
    let x : Parts = extended m ls [] in
    let last : Lit = step_literal v n in
    record {
      carried = λ r run keeps. let c = there r run keeps in (c.0, run_with x last c.0 c.1, c.2, c.3);
      restricted = λ s run keeps. back s (run_without x last s run) keeps;
      exact = exactly m n;
    }

-- ---- stimuli

front_value : (n : ℕ) (x : Valuation) (a : Lit) → variable a < n → value_of (take n x) a ≡ value_of x a
front_value n x a a_in = value-at (take n x) x a (get_or-take n x (variable a) false a_in)

abbrev front : Parts → Valuation → Valuation
front m x = take (m.max_var + 1) x

front_inputs : (m : Parts) (x : Valuation) → AreIn m 0 → inputs_of m (front m x) ≡ inputs_of m x
front_inputs m x known = map_from_all (value_of (front m x)) (value_of x) m.inputs
    (λ k d k_in. let range = known.inputs k d k_in in front_value (m.max_var + 1) x (get_or m.inputs k d) (omega (arith, range)))

front_state : (m : Parts) (x : Valuation) → AreIn m 0 → state_of m (front m x) ≡ state_of m x
front_state m x known = map_from_all (λ l. value_of (front m x) l.lit) (λ l. value_of x l.lit) m.latches
    (λ k d k_in. let range = known.latches k d k_in in front_value (m.max_var + 1) x (get_or m.latches k d).lit (omega (arith, range)))

front_lines : (m : Parts) (s : List Valuation) → AreIn m 0 → map (inputs_of m) (map (front m) s) ≡ map (inputs_of m) s
front_lines m [] known = refl
front_lines m (x ∷ s) known = ap₂ (λ p q. p ∷ q) (front_inputs m x known) (front_lines m s known)

first_values : (m : Parts) (n : ℕ) (x : Valuation) → take (length m.latches) (state_of (behind m n) x) ≡ state_of m x
first_values m n x =
    let some : List Bool = state_of m x in
    let rest : List Bool = map (λ l. value_of x l.lit) (step_latches (m.max_var + 1) n) in
    let whole : state_of (behind m n) x ≡ some ++ rest = map-append (λ l. value_of x l.lit) m.latches (step_latches (m.max_var + 1) n) in
    let long : length some ≡ length m.latches = length-map m.latches (λ l. value_of x l.lit) in
    ap (take (length m.latches)) whole ∙ ap (λ n. take n (some ++ rest)) (sym long) ∙ take-append_seam some rest

pub shows_run : (m : Parts) (n : ℕ) → IsWellFormed m → IsBadBehind m (behind m n) n → ShowsRun m (behind m n) n
shows_run m n well law initial lines h =
    let known : AreIn m 0 = are_in m 0 well in
    let c : Parts = behind m n in
    let s : List Valuation = h.replay in
    let r : List Valuation = map (front m) s in
    let some : 0 < length s = (Starts-at c s h.runs.starts).0 in
    let long : length r ≡ length s = length-map s (front m) in
    let run = law.restricted s h.runs h.keeps in
    let first : state_of m (at r 0) ≡ take (length m.latches) initial =
    ap (state_of m) (get_or-map (front m) s 0 [] [] some) ∙ front_state m (at s 0) known ∙ sym (first_values m n (at s 0)) ∙ ap (take (length m.latches)) (begins_at c initial s h.replays.begins) in
    let violates : Violates c (Bad 0) s = record {
      runs = h.runs;
      keeps = h.keeps;
      bad = h.bad;
      watched = h.watched;
      time = length s - 1;
      inside = omega (arith, some);
      sets = h.sets;
    } in
    let reaches : n < length s = (law.exact s h.runs h.keeps).0 violates in (
      r,
      record {
        agrees = run.0.agrees;
        begins = begins_from m (take (length m.latches) initial) r (omega (arith, some, long)) first;
        has_inputs = front_lines m s known ∙ h.replays.has_inputs;
        steps = run.0.steps;
      },
      run.0,
      run.1,
      omega (arith, reaches, long),
    )
