-- A run of the shadow circuit that sets its bad literal shows a lasso.
use Rattle.std.proofs.Common.{◌≡◌, ℕ, zero, suc, ◌+◌, ◌-◌, ◌<◌, ◌≤◌, ◌⊎◌, Bool, true, false, ◌&&◌, ◌||◌, List, [], ◌∷◌, length, map, take, get_or, refl, inl, inr, arith, All, ◌∙◌, sym, ap, ap₂, subst, length-take-le, get_or-take}
use Rattle.std.proofs.lemmas.Bool.{cases_lt, cases_Bool, and_parts, or_cases, true≢false}
use Rattle.std.proofs.lemmas.List.{length-map, get_or-map, get_or_past}
use Rattle.std.proofs.lemmas.List.Elements.{All-from_get_or}
use Rattle.graph.specs.declared.circuit.Lit.{Lit}
use Rattle.graph.specs.declared.circuit.Latch.{Latch}
use Rattle.graph.specs.declared.parts.Parts.{Parts}
use Rattle.graph.specs.Circuits.{place, variable, value_of, state_of, inputs_of, Fires, Agrees, IsReset, next_state, IsRun, wanted_of, at, IsSetWithin}
use Rattle.graph.specs.WellFormed.{IsWellFormed}
use Rattle.graph.proofs.Evaluation.{All-left, All-right}
use Rattle.live_safe.specs.Shadow.{positive, save_of, saved_of, seen_from, new_latches, new_gates, shadow_of}
use Rattle.live_safe.specs.Laws.{FoundLaw}
use Rattle.live_safe.proofs.Begun.{begins_from}
use Rattle.live_safe.proofs.Values.{value-positive, value-at}
use Rattle.graph.proofs.Times.{Steps-at, Steps-from, Starts-at, Starts-from, at-take}
use Rattle.live_safe.proofs.Forced.{map_from_all, NewFire, new_fire, shadows, IsShadowStep, shadow_step, Closes, closes_from}
use Rattle.live_safe.proofs.Ranges.{AreIn, are_in}
use Rattle.live_safe.proofs.Extended.{AreCleared, cleared_new, length-new_latches, defined_old}
use Rattle.live_safe.proofs.Carried.{cleared_resets}

-- the values of the circuit's own variables
abbrev pub old_part : Parts → List Bool → List Bool
old_part m x = take (m.max_var + 1) x

old_place : (m : Parts) (x : List Bool) (v : ℕ) → v ≤ m.max_var → place (old_part m x) v ≡ place x v
old_place m x v v_in = get_or-take (m.max_var + 1) x v false (omega arith)

pub old_value : (m : Parts) (x : List Bool) (a : Lit) → variable a ≤ m.max_var → value_of (old_part m x) a ≡ value_of x a
old_value m x a a_in = value-at (old_part m x) x a (old_place m x (variable a) a_in)

pub old_agrees : (m : Parts) (j : ℕ) (x : List Bool) → AreIn m j → Agrees (shadow_of m j) x → Agrees m (old_part m x)
old_agrees m j x known agrees =
    let long : length (old_part m x) ≡ m.max_var + 1 = length-take-le (m.max_var + 1) x (let p = agrees.valuation.places in omega (arith, p)) in
    record {
      valuation = record {
        places = long;
        constant = old_place m x 0 (omega arith) ∙ agrees.valuation.constant;
        defined_only = λ v on. elim (cases_lt m.max_var v) [
          | inl past ↦ absurd (true≢false (sym on ∙ get_or_past (old_part m x) v false (omega arith)))
          | inr inside ↦ defined_old m j v known inside (agrees.valuation.defined_only v (sym (old_place m x v inside) ∙ on))
        ];
      };
      gates = λ k d k_in. rw (
        old_value m x (get_or m.gates k d).lhs (known.lefts k d k_in),
        old_value m x (get_or m.gates k d).rhs0 (known.rights0 k d k_in),
        old_value m x (get_or m.gates k d).rhs1 (known.rights1 k d k_in),
      ) (All-left (Fires x) m.gates (new_gates m j) agrees.gates k d k_in);
    }

old_state : (m : Parts) (j : ℕ) (x : List Bool) → AreIn m j → state_of m (old_part m x) ≡ state_of m x
old_state m j x known = map_from_all (λ l. value_of (old_part m x) l.lit) (λ l. value_of x l.lit) m.latches (λ k d k_in. old_value m x (get_or m.latches k d).lit (known.latches k d k_in))

old_next : (m : Parts) (j : ℕ) (x : List Bool) → AreIn m j → next_state m (old_part m x) ≡ next_state m x
old_next m j x known = map_from_all (λ l. value_of (old_part m x) l.next) (λ l. value_of x l.next) m.latches (λ k d k_in. old_value m x (get_or m.latches k d).next (known.nexts k d k_in))

old_inputs : (m : Parts) (j : ℕ) (x : List Bool) → AreIn m j → inputs_of m (old_part m x) ≡ inputs_of m x
old_inputs m j x known = map_from_all (value_of (old_part m x)) (value_of x) m.inputs (λ k d k_in. old_value m x (get_or m.inputs k d) (known.inputs k d k_in))

-- latches that are off, by their variables
off_at : (x : List Bool) (ls : List Latch) (n k : ℕ) → AreCleared ls n → All (λ l. value_of x l.lit ≡ false) ls → k < length ls → place x (n + k) ≡ false
off_at x [] n k h off k_in = absurd (omega arith)
off_at x (l ∷ ls) n zero (here, rest) off k_in =
    let e : n + 0 ≡ n = omega arith in rw e (sym (value-positive x n) ∙ subst (λ q. value_of x q ≡ false) here.defines (off 0 l (omega arith)))
off_at x (l ∷ ls) n (suc k) (here, rest) off k_in =
    let e : n + suc k ≡ n + 1 + k = omega arith in rw e (off_at x ls (n + 1) k rest (λ i d i_in. off (suc i) d (omega arith)) (omega arith))

-- a run of the shadow circuit up to a time
pub record Watched (m : Parts) (j : ℕ) (run : List (List Bool)) : Type 0 where
  pub known : AreIn m j
  pub runs : IsRun (shadow_of m j) run

-- the state was saved at an earlier time, and what is seen has been set since
pub record Since (m : Parts) (j : ℕ) (run : List (List Bool)) (t : ℕ) : Type 0 where
  pub saved : place (at run t) (saved_of m) ≡ true
  pub time : ℕ
  pub earlier : time < t
  pub shadow : shadows m (at run t) ≡ state_of m (at run time)
  pub seen : (k : ℕ) (d : Lit) → k < length (wanted_of m j) → place (at run t) (seen_from m + k) ≡ true → IsSetWithin run time t (get_or (wanted_of m j) k d)

pub record NotYet (m : Parts) (j : ℕ) (run : List (List Bool)) (t : ℕ) : Type 0 where
  pub not_saved : place (at run t) (saved_of m) ≡ false
  pub none_seen : (k : ℕ) → k < length (wanted_of m j) → place (at run t) (seen_from m + k) ≡ false

watched_fire : (m : Parts) (j : ℕ) (run : List (List Bool)) (t : ℕ) → Watched m j run → t < length run → NewFire m j (at run t)
watched_fire m j run t h t_in = new_fire m j (at run t) (All-right (Fires (at run t)) m.gates (new_gates m j) (h.runs.agrees t [] t_in).gates)

watched_words : (m : Parts) (j : ℕ) (run : List (List Bool)) (t : ℕ) → Watched m j run → t + 1 < length run → IsShadowStep m j (at run t) (at run (t + 1))
watched_words m j run t h t_in = shadow_step m j (at run t) (at run (t + 1)) (watched_fire m j run t h (omega arith)) (Steps-at (shadow_of m j) run t h.runs.steps t_in)

at_first : (m : Parts) (j : ℕ) (run : List (List Bool)) → Watched m j run → NotYet m j run 0
at_first m j run h =
    let x : List Bool = at run 0 in
    let initial : All (IsReset x) (new_latches m j) = All-right (IsReset x) m.latches (new_latches m j) (Starts-at (shadow_of m j) run h.runs.starts).1 in
    let off : All (λ l. value_of x l.lit ≡ false) (new_latches m j) = λ k d k_in. (initial k d k_in).low (cleared_resets (new_latches m j) (saved_of m) (cleared_new m j) k d k_in) in
    let off_from : (k : ℕ) → k < length (new_latches m j) → place x (saved_of m + k) ≡ false = λ k k_in. off_at x (new_latches m j) (saved_of m) k (cleared_new m j) off k_in in
    record {
      not_saved = (let e : saved_of m ≡ saved_of m + 0 = omega arith in rw e (off_from 0 (omega arith)));
      none_seen = λ k k_in. let e : seen_from m + k ≡ saved_of m + (1 + length m.latches + k) = omega arith in
          rw e (off_from (1 + length m.latches + k) (omega (arith, length-new_latches m j)));
    }

starts_now : (m : Parts) (j : ℕ) (run : List (List Bool)) (t : ℕ) → IsShadowStep m j (at run t) (at run (t + 1)) → NotYet m j run t → place (at run t) (save_of m) ≡ true → Since m j run (t + 1)
starts_now m j run t step before save = record {
  saved = step.saved ∙ rw save refl;
  time = t;
  earlier = omega arith;
  shadow = step.shadow ∙ rw (save, before.not_saved) refl;
  seen = λ k d k_in on.
      let x : List Bool = at run t in
      let q : Lit = get_or (wanted_of m j) k d in
      let both = and_parts (place x (save_of m) || place x (saved_of m)) (place x (seen_from m + k) || value_of x q) (sym (step.seen k d k_in) ∙ on) in
      let set : value_of x q ≡ true = rw (before.none_seen k k_in) at both.1 in
      (t, omega arith, omega arith, set);
}

stays_idle : (m : Parts) (j : ℕ) (run : List (List Bool)) (t : ℕ) → IsShadowStep m j (at run t) (at run (t + 1)) → NotYet m j run t → place (at run t) (save_of m) ≡ false → NotYet m j run (t + 1)
stays_idle m j run t step before save = record {
  not_saved = step.saved ∙ rw (save, before.not_saved) refl;
  none_seen = λ k k_in. step.seen k (positive 0) k_in ∙ rw (save, before.not_saved) refl;
}

and-false : (b : Bool) → (b && false) ≡ false
and-false true = refl
and-false false = refl

goes_on : (m : Parts) (j : ℕ) (run : List (List Bool)) (t : ℕ) → IsShadowStep m j (at run t) (at run (t + 1)) → Since m j run t → Since m j run (t + 1)
goes_on m j run t step h =
    let x : List Bool = at run t in
    let before : h.time < t = h.earlier in
    record {
      saved = step.saved ∙ rw h.saved (elim (cases_Bool (place x (save_of m))) [ inl on ↦ rw on refl | inr off ↦ rw off refl ]);
      time = h.time;
      earlier = omega arith;
      shadow = step.shadow ∙ rw (h.saved, and-false (place x (save_of m))) h.shadow;
      seen = λ k d k_in on.
          let q : Lit = get_or (wanted_of m j) k d in
          let both = and_parts (place x (save_of m) || place x (saved_of m)) (place x (seen_from m + k) || value_of x q) (sym (step.seen k d k_in) ∙ on) in
          elim (or_cases (place x (seen_from m + k)) (value_of x q) both.1) [
            | inl seen ↦ (let set = h.seen k d k_in seen in (set.0, set.1, (let p = set.2 in omega arith), set.3))
            | inr set ↦ (t, omega arith, omega arith, set)
          ];
    }

pub watched : (m : Parts) (j : ℕ) (run : List (List Bool)) (t : ℕ) → Watched m j run → t < length run → NotYet m j run t ⊎ Since m j run t
watched m j run zero h t_in = inl (at_first m j run h)
watched m j run (suc t) h t_in =
    let e : t + 1 ≡ suc t = omega arith in
    let step = watched_words m j run t h (omega arith) in
    rw (sym e) (elim (watched m j run t h (omega arith)) [
      | inl not_yet ↦ elim (cases_Bool (place (at run t) (save_of m))) [
        | inl save ↦ inr (starts_now m j run t step not_yet save)
        | inr idle ↦ inl (stays_idle m j run t step not_yet idle)
      ]
      | inr since ↦ inr (goes_on m j run t step since)
    ])

same_lines : (m : Parts) (j : ℕ) (part : List (List Bool)) → AreIn m j → map (inputs_of m) (map (old_part m) part) ≡ map (inputs_of m) part
same_lines m j [] known = refl
same_lines m j (x ∷ part) known = ap₂ (λ p q. p ∷ q) (old_inputs m j x known) (same_lines m j part known)

-- a run of the shadow circuit that sets its bad literal at time t gives a lasso of t lines
pub lasso_found : (m : Parts) (j : ℕ) → IsWellFormed m → j < length m.justice → FoundLaw m j
lasso_found m j well exists run t runs keeps t_in bad =
    let known : AreIn m j = are_in m j well in
    let h : Watched m j run = record { known = known; runs = runs } in
    let closes : Closes m j (at run t) = closes_from m j (at run t) (watched_fire m j run t h t_in) bad in
    let since : Since m j run t = elim (watched m j run t h t_in) [ inl not_yet ↦ absurd (true≢false (sym closes.saved ∙ not_yet.not_saved)) | inr found ↦ found ] in
    let i : ℕ = since.time in
    let before : i < t = since.earlier in
    let part : List (List Bool) = take t run in
    let part_long : length part ≡ t = length-take-le t run (omega arith) in
    let r : List (List Bool) = map (old_part m) part in
    let long : length r ≡ t = length-map part (old_part m) ∙ part_long in
    let is_at : (k : ℕ) → k < t → at r k ≡ old_part m (at run k) = λ k k_in. get_or-map (old_part m) part k [] [] (omega arith) ∙ ap (old_part m) (at-take run t k k_in) in
    let everywhere : (P : List Bool → Type 0) → ((k : ℕ) → k < t → P (old_part m (at run k))) → All P r = λ P each.
    All-from_get_or P r [] (λ k k_in. let inside : k < t = omega arith in rw (is_at k inside) (each k inside)) in
    let step_at : (k : ℕ) → k + 1 < length run → state_of m (at run (k + 1)) ≡ next_state m (at run k) = λ k k_in. (watched_words m j run k h k_in).old in
    let r_runs : IsRun m r = record {
      agrees = everywhere (Agrees m) (λ k k_in. old_agrees m j (at run k) known (runs.agrees k [] (omega arith)));
      starts = Starts-from m r (omega arith) (rw (is_at 0 (omega arith)) (λ k d k_in.
          let initial = All-left (IsReset (at run 0)) m.latches (new_latches m j) (Starts-at (shadow_of m j) run runs.starts).1 k d k_in in
          let same = old_value m (at run 0) (get_or m.latches k d).lit (known.latches k d k_in) in
          record { low = λ e. same ∙ initial.low e; high = λ e. same ∙ initial.high e }));
      steps = Steps-from m r (λ k k_in. rw (is_at k (omega arith), is_at (k + 1) (omega arith))
          (old_state m j (at run (k + 1)) known ∙ step_at k (omega arith) ∙ sym (old_next m j (at run k) known)));
    } in
    let last : (t - 1) + 1 ≡ t = omega arith in
    record {
      position = j;
      start = i;
      replay = r;
      names = refl;
      exists = exists;
      replays = record {
        agrees = r_runs.agrees;
        begins = begins_from m (state_of m (at run 0)) r (omega arith) (ap (state_of m) (is_at 0 (omega arith)) ∙ old_state m j (at run 0) known);
        has_inputs = same_lines m j part known;
        steps = r_runs.steps;
      };
      runs = r_runs;
      keeps = everywhere (λ w. All (λ a. value_of w a ≡ true) m.constraints)
          (λ k k_in c d c_in. old_value m (at run k) (get_or m.constraints c d) (known.constraints c d c_in) ∙ keeps k [] (omega arith) c d c_in);
      lasso = record {
        inside = omega arith;
        closes = rw (is_at i before, long, is_at (t - 1) (omega arith))
            (old_state m j (at run i) known ∙ sym since.shadow ∙ sym closes.equal
            ∙ subst (λ q. state_of m (at run q) ≡ next_state m (at run (t - 1))) last (step_at (t - 1) (omega arith)) ∙ sym (old_next m j (at run (t - 1)) known));
        sets = λ k d k_in.
            let set = since.seen k d k_in (closes.seen k k_in) in
            let inside : set.0 < t = set.2 in
            (set.0, set.1, rw long inside, rw (is_at set.0 inside) (old_value m (at run set.0) (get_or (wanted_of m j) k d) (known.wanted k d k_in) ∙ set.3));
      };
    }
