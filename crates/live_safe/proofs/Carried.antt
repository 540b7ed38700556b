-- A lasso is carried to a run of the shadow circuit.
use Rattle.std.proofs.Common.{◌≡◌, ℕ, zero, suc, ◌+◌, ◌-◌, ◌<◌, ◌≤◌, ◌==◌, Bool, true, false, ◌||◌, List, [], ◌∷◌, ◌++◌, length, map, get_or, refl, inl, inr, arith, All, ◌∙◌, sym, ap, ap₂, subst, eq-eqb, ne_eqb}
use Rattle.std.specs.List.{range_with_len}
use Rattle.std.proofs.lemmas.Bool.{cases_eq, cases_lt, and_from, or_left, or_right}
use Rattle.std.proofs.lemmas.List.{map-append, length-map, get_or_push, get_or_append_left, get_or-map}
use Rattle.std.proofs.lemmas.List.FromFn.{length-map-range_with_len, get_or-map-range_with_len}
use Rattle.std.proofs.lemmas.List.Elements.{All-append, All-from_get_or}
use Rattle.graph.specs.declared.circuit.Lit.{Lit}
use Rattle.graph.specs.declared.circuit.Latch.{Latch}
use Rattle.graph.specs.declared.parts.Parts.{Parts}
use Rattle.graph.specs.Circuits.{place, variable, value_of, state_of, inputs_of, Agrees, IsReset, IsInitial, IsStep, next_state, IsRun, KeepsConstraints, wanted_of, at, IsSetWithin}
use Rattle.graph.specs.WellFormed.{IsWellFormed}
use Rattle.graph.specs.declared.circuit.Property.TheVariants.{Justice}
use Rattle.stimulus.specs.Shown.{IsReplay, closing_state, ClosesLasso}
use Rattle.live_safe.specs.Shadow.{positive, save_of, saved_of, seen_from, new_latches, shadow_of}
use Rattle.live_safe.specs.Laws.{Carries, CarriedLaw}
use Rattle.live_safe.proofs.Begun.{begins_at}
use Rattle.live_safe.proofs.Values.{value-positive}
use Rattle.graph.proofs.Times.{Steps-at, Steps-from, Starts-at, Starts-from}
use Rattle.live_safe.proofs.Forced.{all_from_map, map_from_all, new_fire, shadows, IsShadowStep, shadow_step, Closes, closes_to}
use Rattle.live_safe.proofs.Ranges.{AreIn, are_in}
use Rattle.live_safe.proofs.Extended.{AreCleared, cleared_new, IsExtension, extend, extends, extension_value, extension_agrees}

-- the valuations of a lasso's times, the one of time i again at the end
pub record IsUnwound (m : Parts) (j i : ℕ) (r : List (List Bool)) (n : ℕ) : Type 0 where
  pub agrees : (t : ℕ) → t ≤ n → Agrees m (at r t)
  pub starts : IsInitial m (at r 0)
  pub steps : (t : ℕ) → t < n → IsStep m (at r t) (at r (t + 1))
  pub keeps : (t : ℕ) → t ≤ n → All (λ a. value_of (at r t) a ≡ true) m.constraints
  pub before : i < n
  pub again : at r n ≡ at r i
  pub sets : All (IsSetWithin r i n) (wanted_of m j)

-- what the new latches have at first, and later
abbrev pub cleared_bits : Parts → ℕ → List Bool
cleared_bits m j = map (λ _. false) (new_latches m j)

abbrev pub next_bits : Parts → ℕ → List Bool → List Bool
next_bits m j x = map (λ l. value_of x l.next) (new_latches m j)

-- the valuations of the shadow circuit, time by time
abbrev pub carry : Parts → ℕ → List (List Bool) → ℕ → ℕ → List Bool
carry m j r i zero = extend m j (at r 0) (0 == i) (cleared_bits m j)
carry m j r i (suc t) = extend m j (at r (suc t)) (suc t == i) (next_bits m j (carry m j r i t))

abbrev pub bits_at : Parts → ℕ → List (List Bool) → ℕ → ℕ → List Bool
bits_at m j r i zero = cleared_bits m j
bits_at m j r i (suc t) = next_bits m j (carry m j r i t)

pub carry_extends : (m : Parts) (j : ℕ) (r : List (List Bool)) (i t : ℕ) → AreIn m j → Agrees m (at r t) →
    IsExtension m j (at r t) (t == i) (bits_at m j r i t) (carry m j r i t)
carry_extends m j r i zero known agrees = extends m j (at r 0) (0 == i) (cleared_bits m j) known agrees.valuation.places (length-map (new_latches m j) (λ _. false))
carry_extends m j r i (suc t) known agrees =
    extends m j (at r (suc t)) (suc t == i) (next_bits m j (carry m j r i t)) known agrees.valuation.places (length-map (new_latches m j) (λ l. value_of (carry m j r i t) l.next))

-- a literal of the circuit keeps its value_of
carry_value : (m : Parts) (j : ℕ) (r : List (List Bool)) (i t : ℕ) (a : Lit) → AreIn m j → Agrees m (at r t) → variable a ≤ m.max_var → value_of (carry m j r i t) a ≡ value_of (at r t) a
carry_value m j r i t a known agrees a_in =
    extension_value m j (at r t) (t == i) (bits_at m j r i t) (carry m j r i t) a (carry_extends m j r i t known agrees) a_in

carry_state : (m : Parts) (j : ℕ) (r : List (List Bool)) (i t : ℕ) → AreIn m j → Agrees m (at r t) → state_of m (carry m j r i t) ≡ state_of m (at r t)
carry_state m j r i t known agrees = map_from_all (λ l. value_of (carry m j r i t) l.lit) (λ l. value_of (at r t) l.lit) m.latches
    (λ k d k_in. carry_value m j r i t (get_or m.latches k d).lit known agrees (known.latches k d k_in))

carry_next : (m : Parts) (j : ℕ) (r : List (List Bool)) (i t : ℕ) → AreIn m j → Agrees m (at r t) → next_state m (carry m j r i t) ≡ next_state m (at r t)
carry_next m j r i t known agrees = map_from_all (λ l. value_of (carry m j r i t) l.next) (λ l. value_of (at r t) l.next) m.latches
    (λ k d k_in. carry_value m j r i t (get_or m.latches k d).next known agrees (known.nexts k d k_in))

-- the carried valuations are in step
carry_step : (m : Parts) (j : ℕ) (r : List (List Bool)) (i t : ℕ) → AreIn m j → Agrees m (at r t) → Agrees m (at r (suc t)) → IsStep m (at r t) (at r (suc t)) →
    IsStep (shadow_of m j) (carry m j r i t) (carry m j r i (suc t))
carry_step m j r i t known agrees agrees_next step =
    let x : List Bool = carry m j r i t in
    let y : List Bool = carry m j r i (suc t) in
    map-append (λ l. value_of y l.lit) m.latches (new_latches m j)
    ∙ ap₂ (λ p q. p ++ q) (carry_state m j r i (suc t) known agrees_next ∙ step ∙ sym (carry_next m j r i t known agrees)) (carry_extends m j r i (suc t) known agrees_next).held
    ∙ sym (map-append (λ l. value_of x l.next) m.latches (new_latches m j))

pub cleared_resets : (ls : List Latch) (n : ℕ) → AreCleared ls n → All (λ l. l.reset.0 ≡ 0) ls
cleared_resets [] n h k d k_in = absurd (omega arith)
cleared_resets (l ∷ ls) n h zero d k_in = h.0.reset
cleared_resets (l ∷ ls) n h (suc k) d k_in = cleared_resets ls (n + 1) h.1 k d (omega arith)

carry_initial : (m : Parts) (j : ℕ) (r : List (List Bool)) (i : ℕ) → AreIn m j → Agrees m (at r 0) → IsInitial m (at r 0) → IsInitial (shadow_of m j) (carry m j r i 0)
carry_initial m j r i known agrees initial =
    let x : List Bool = carry m j r i 0 in
    All-append (IsReset x) m.latches (new_latches m j)
    (λ k d k_in. let same = carry_value m j r i 0 (get_or m.latches k d).lit known agrees (known.latches k d k_in) in
    record { low = λ e. same ∙ (initial k d k_in).low e; high = λ e. same ∙ (initial k d k_in).high e })
    (λ k d k_in. record {
      low = λ _. all_from_map (λ l. value_of x l.lit) (λ _. false) (new_latches m j) (carry_extends m j r i 0 known agrees).held k d k_in;
      high = λ e. absurd (let off = cleared_resets (new_latches m j) (saved_of m) (cleared_new m j) k d k_in in omega (arith, e, off));
    })

-- the run, and what it is made of
pub record Carry (m : Parts) (j i : ℕ) (r : List (List Bool)) (n : ℕ) : Type 0 where
  pub known : AreIn m j
  pub unwound : IsUnwound m j i r n

carry_words : (m : Parts) (j i : ℕ) (r : List (List Bool)) (n t : ℕ) → Carry m j i r n → t < n → IsShadowStep m j (carry m j r i t) (carry m j r i (suc t))
carry_words m j i r n t h t_in =
    let agrees = h.unwound.agrees t (omega arith) in
    let e : t + 1 ≡ suc t = omega arith in
    shadow_step m j (carry m j r i t) (carry m j r i (suc t)) (new_fire m j (carry m j r i t) (carry_extends m j r i t h.known agrees).fires)
    (carry_step m j r i t h.known agrees (h.unwound.agrees (suc t) (omega arith)) (rw e at (h.unwound.steps t t_in)))

carry_save : (m : Parts) (j i : ℕ) (r : List (List Bool)) (n t : ℕ) → Carry m j i r n → t ≤ n → place (carry m j r i t) (save_of m) ≡ (t == i)
carry_save m j i r n t h t_in = (carry_extends m j r i t h.known (h.unwound.agrees t t_in)).saves

-- saved is clear up to time i, and set after it
not_saved : (m : Parts) (j i : ℕ) (r : List (List Bool)) (n t : ℕ) → Carry m j i r n → t ≤ n → t ≤ i → place (carry m j r i t) (saved_of m) ≡ false
not_saved m j i r n zero h t_in early =
    sym (value-positive (carry m j r i 0) (saved_of m))
    ∙ all_from_map (λ l. value_of (carry m j r i 0) l.lit) (λ _. false) (new_latches m j) (carry_extends m j r i 0 h.known (h.unwound.agrees 0 t_in)).held 0
    record { lit = positive 0; next = positive 0; reset = positive 0 } (omega arith)
not_saved m j i r n (suc t) h t_in early =
    (carry_words m j i r n t h (omega arith)).saved
    ∙ rw (carry_save m j i r n t h (omega arith), ne_eqb t i (λ e. omega arith), not_saved m j i r n t h (omega arith) (omega arith)) refl

is_saved : (m : Parts) (j i : ℕ) (r : List (List Bool)) (n t : ℕ) → Carry m j i r n → t ≤ n → i < t → place (carry m j r i t) (saved_of m) ≡ true
is_saved m j i r n zero h t_in late = absurd (omega arith)
is_saved m j i r n (suc t) h t_in late =
    (carry_words m j i r n t h (omega arith)).saved ∙ rw (carry_save m j i r n t h (omega arith)) (elim (cases_eq t i) [
      | inl same ↦ or_left (t == i) (place (carry m j r i t) (saved_of m)) (eq-eqb t i same)
      | inr apart ↦ or_right (t == i) (place (carry m j r i t) (saved_of m)) (is_saved m j i r n t h (omega arith) (omega arith))
    ])

-- the shadows hold the state of time i after it
shadows_hold : (m : Parts) (j i : ℕ) (r : List (List Bool)) (n t : ℕ) → Carry m j i r n → t ≤ n → i < t → shadows m (carry m j r i t) ≡ state_of m (at r i)
shadows_hold m j i r n zero h t_in late = absurd (omega arith)
shadows_hold m j i r n (suc t) h t_in late =
    (carry_words m j i r n t h (omega arith)).shadow ∙ rw (carry_save m j i r n t h (omega arith)) (elim (cases_eq t i) [
      | inl same ↦ rw (eq-eqb t i same, not_saved m j i r n t h (omega arith) (omega arith)) (carry_state m j r i t h.known (h.unwound.agrees t (omega arith)) ∙ ap (λ q. state_of m (at r q)) same)
      | inr apart ↦ rw (ne_eqb t i apart) (shadows_hold m j i r n t h (omega arith) (omega arith))
    ])

-- a wanted literal that has been set since time i is seen
sees : (m : Parts) (j i : ℕ) (r : List (List Bool)) (n t k : ℕ) (d : Lit) → Carry m j i r n → t ≤ n → k < length (wanted_of m j) →
    IsSetWithin r i t (get_or (wanted_of m j) k d) → place (carry m j r i t) (seen_from m + k) ≡ true
sees m j i r n zero k d h t_in k_in set = absurd (let p = set.2 in omega arith)
sees m j i r n (suc t) k d h t_in k_in (u, low, high, on) =
    let x : List Bool = carry m j r i t in
    let q : Lit = get_or (wanted_of m j) k d in
    let busy : (place x (save_of m) || place x (saved_of m)) ≡ true = elim (cases_eq t i) [
      | inl same ↦ or_left (place x (save_of m)) (place x (saved_of m)) (carry_save m j i r n t h (omega arith) ∙ eq-eqb t i same)
      | inr apart ↦ or_right (place x (save_of m)) (place x (saved_of m)) (is_saved m j i r n t h (omega arith) (omega arith))
    ] in
    let seen : (place x (seen_from m + k) || value_of x q) ≡ true = elim (cases_eq u t) [
      | inl same ↦ or_right (place x (seen_from m + k)) (value_of x q)
          (carry_value m j r i t q h.known (h.unwound.agrees t (omega arith)) (h.known.wanted k d k_in) ∙ subst (λ p. value_of (at r p) q ≡ true) same on)
      | inr apart ↦ or_left (place x (seen_from m + k)) (value_of x q) (sees m j i r n t k d h (omega arith) k_in (u, low, omega arith, on))
    ] in
    (carry_words m j i r n t h (omega arith)).seen k d k_in ∙ and_from (place x (save_of m) || place x (saved_of m)) (place x (seen_from m + k) || value_of x q) busy seen

carry_closes : (m : Parts) (j i : ℕ) (r : List (List Bool)) (n : ℕ) → Carry m j i r n → Closes m j (carry m j r i n)
carry_closes m j i r n h =
    let late : i < n = h.unwound.before in
    record {
      saved = is_saved m j i r n n h (omega arith) late;
      equal = carry_state m j r i n h.known (h.unwound.agrees n (omega arith)) ∙ ap (state_of m) h.unwound.again ∙ sym (shadows_hold m j i r n n h (omega arith) late);
      seen = λ k k_in. let d : Lit = positive 0 in sees m j i r n n k d h (omega arith) k_in (h.unwound.sets k d k_in);
    }

-- the times of a lasso, and its first time once more
unwound : (m : Parts) (j : ℕ) (r : List (List Bool)) (i : ℕ) → IsRun m r → KeepsConstraints m r → ClosesLasso m (wanted_of m j) (closing_state m r) r i →
    IsUnwound m j i (r ++ at r i ∷ []) (length r)
unwound m j r i runs keeps lasso =
    let n : ℕ = length r in
    let inside : i < n = lasso.inside in
    let more : List (List Bool) = r ++ at r i ∷ [] in
    let front : (t : ℕ) → t < n → at more t ≡ at r t = λ t t_in. get_or_append_left r (at r i ∷ []) [] t t_in in
    let end : at more n ≡ at r i = get_or_push r (at r i) [] n refl in
    let everywhere : (P : List Bool → Type 0) → All P r → (t : ℕ) → t ≤ n → P (at more t) = λ P all t t_in. elim (cases_lt t n) [
      | inl before ↦ rw (front t before) (all t [] before)
      | inr last ↦ let is_n : t ≡ n = omega arith in rw (is_n, end) (all i [] inside)
    ] in
    record {
      agrees = everywhere (Agrees m) runs.agrees;
      starts = rw (front 0 (omega arith)) (Starts-at m r runs.starts).1;
      steps = λ t t_in. elim (cases_lt (t + 1) n) [
        | inl before ↦ rw (front t t_in, front (t + 1) before) (Steps-at m r t runs.steps before)
        | inr last ↦ let is_n : t + 1 ≡ n = omega arith in let is_t : t ≡ n - 1 = omega arith in
            rw (front t t_in, is_n, end) (lasso.closes ∙ ap (λ q. next_state m (at r q)) (sym is_t))
      ];
      keeps = everywhere (λ w. All (λ a. value_of w a ≡ true) m.constraints) keeps;
      before = inside;
      again = end ∙ sym (front i inside);
      sets = λ k d k_in. let set = lasso.sets k d k_in in
          let set_in : set.0 < n = set.2 in
          (set.0, set.1, set_in, rw (front set.0 set_in) set.3);
    }

carry_inputs : (m : Parts) (j i : ℕ) (r : List (List Bool)) (n t : ℕ) → Carry m j i r n → t ≤ n →
    inputs_of (shadow_of m j) (carry m j r i t) ≡ inputs_of m (at r t) ++ (t == i) ∷ []
carry_inputs m j i r n t h t_in =
    let x : List Bool = carry m j r i t in
    map-append (value_of x) m.inputs (positive (save_of m) ∷ [])
    ∙ ap₂ (λ p q. p ++ q ∷ [])
    (map_from_all (value_of x) (value_of (at r t)) m.inputs (λ k d k_in. carry_value m j r i t (get_or m.inputs k d) h.known (h.unwound.agrees t t_in) (h.known.inputs k d k_in)))
    (value-positive x (save_of m) ∙ carry_save m j i r n t h t_in)

carry_keeps : (m : Parts) (j i : ℕ) (r : List (List Bool)) (n t : ℕ) → Carry m j i r n → t ≤ n → All (λ a. value_of (carry m j r i t) a ≡ true) m.constraints
carry_keeps m j i r n t h t_in k d k_in =
    carry_value m j r i t (get_or m.constraints k d) h.known (h.unwound.agrees t t_in) (h.known.constraints k d k_in) ∙ h.unwound.keeps t t_in k d k_in

-- every lasso is carried to a run that sets the new bad literal
run_carried : (m : Parts) (j : ℕ) (initial : List Bool) (lines before : List (List Bool)) (i : ℕ) → IsWellFormed m → IsReplay m initial lines before → IsRun m before →
    KeepsConstraints m before → ClosesLasso m (wanted_of m j) (closing_state m before) before i → (run : List (List Bool)) × Carries m j initial lines i run
run_carried m j initial lines before i well replays runs keeps lasso =
    let r : List (List Bool) = before ++ at before i ∷ [] in
    let n : ℕ = length before in
    let i_n : i < n = lasso.inside in
    let is_n : n ≡ length lines = sym (length-map before (inputs_of m)) ∙ ap length replays.has_inputs in
    let c : Carry m j i r n = record { known = are_in m j well; unwound = unwound m j before i runs keeps lasso } in
    let line : (t : ℕ) → t < n → inputs_of m (at r t) ≡ get_or lines t [] = λ t t_in.
    ap (inputs_of m) (get_or_append_left before (at before i ∷ []) [] t t_in) ∙ sym (get_or-map (inputs_of m) before t [] [] t_in) ∙ ap (λ q. get_or q t []) replays.has_inputs in
    let run : List (List Bool) = map (carry m j r i) (range_with_len 0 (n + 1)) in
    let run_long : length run ≡ n + 1 = length-map-range_with_len (carry m j r i) 0 (n + 1) in
    let is_at : (t : ℕ) → t ≤ n → at run t ≡ carry m j r i t = λ t t_in. get_or-map-range_with_len (carry m j r i) 0 (n + 1) t t [] (omega arith) (omega arith) in
    let everywhere : (P : List Bool → Type 0) → ((t : ℕ) → t ≤ n → P (carry m j r i t)) → All P run = λ P each.
    All-from_get_or P run [] (λ t t_in. let inside : t ≤ n = omega arith in rw (is_at t inside) (each t inside)) in (
      run,
      record {
        runs = record {
          agrees = everywhere (Agrees (shadow_of m j)) (λ t t_in. extension_agrees m j (at r t) (t == i) (bits_at m j r i t) (carry m j r i t) c.known (c.unwound.agrees t t_in)
              (carry_extends m j r i t c.known (c.unwound.agrees t t_in)));
          starts = Starts-from (shadow_of m j) run (omega arith) (rw (is_at 0 (omega arith)) (carry_initial m j r i c.known (c.unwound.agrees 0 (omega arith)) c.unwound.starts));
          steps = Steps-from (shadow_of m j) run (λ t t_in.
              let e : t + 1 ≡ suc t = omega arith in
              rw (is_at t (omega arith), is_at (t + 1) (omega arith), e)
              (carry_step m j r i t c.known (c.unwound.agrees t (omega arith)) (c.unwound.agrees (suc t) (omega arith)) (rw e at (c.unwound.steps t (omega arith)))));
        };
        keeps = everywhere (λ w. All (λ a. value_of w a ≡ true) m.constraints) (λ t t_in. carry_keeps m j i r n t c t_in);
        long = run_long ∙ ap (λ q. q + 1) is_n;
        begins = ap (state_of m) (is_at 0 (omega arith)) ∙ carry_state m j r i 0 c.known (c.unwound.agrees 0 (omega arith))
            ∙ ap (state_of m) (get_or_append_left before (at before i ∷ []) [] 0 (omega arith)) ∙ begins_at m initial before replays.begins;
        follows = λ t t_in. rw (is_at t (omega arith)) (carry_inputs m j i r n t c (omega arith) ∙ ap (λ q. q ++ (t == i) ∷ []) (line t (omega arith)));
        returns = rw (sym is_n) (rw (is_at n (omega arith)) (carry_inputs m j i r n n c (omega arith)
            ∙ ap₂ (λ p q. p ++ q ∷ []) (ap (inputs_of m) c.unwound.again ∙ line i i_n) (ne_eqb n i (λ e. omega arith))));
        sets = rw (sym is_n) (rw (is_at n (omega arith))
            (closes_to m j (carry m j r i n) (new_fire m j (carry m j r i n) (carry_extends m j r i n c.known (c.unwound.agrees n (omega arith))).fires) (carry_closes m j i r n c)));
      },
    )

same_position : (j k : ℕ) → Justice j ≡ Justice k → j ≡ k
same_position j k e = cc

pub lasso_carried : (m : Parts) (j : ℕ) → IsWellFormed m → CarriedLaw m j
lasso_carried m j well initial lines h =
    let same : h.position ≡ j = sym (same_position j h.position h.names) in
    run_carried m j initial lines h.replay h.start well h.replays h.runs h.keeps
    (subst (λ q. ClosesLasso m (wanted_of m q) (closing_state m h.replay) h.replay h.start) same h.lasso)
