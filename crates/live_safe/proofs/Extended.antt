-- A valuation of the circuit, with values for the new input and latches, has one of the shadow circuit that it extends to.
use Rattle.std.proofs.Common.{◌≡◌, ℕ, zero, suc, ◌+◌, ◌*◌, ◌<◌, ◌≤◌, Bool, false, List, [], ◌∷◌, ◌++◌, length, map, get_or, refl, inl, inr, arith, All, Contains, ◌∙◌, sym, ap, subst, length-append}
use Rattle.std.proofs.lemmas.Bool.{cases_eq, cases_lt, true≢false}
use Rattle.std.proofs.lemmas.List.{get_or_at, get_or-append-add, get_or_append_left, map-append, get_or_past}
use Rattle.std.proofs.lemmas.List.Elements.{All-append, Contains-append_left, Contains-append_right, Contains-append_cases}
use Rattle.graph.specs.declared.circuit.Lit.{Lit}
use Rattle.graph.specs.declared.circuit.Latch.{Latch}
use Rattle.graph.specs.declared.circuit.Gate.{Gate}
use Rattle.graph.specs.declared.parts.Parts.{Parts}
use Rattle.graph.specs.Circuits.{place, variable, value_of, defined, Fires, Agrees, wanted_of}
use Rattle.graph.proofs.Evaluation.{held}
use Rattle.graph.proofs.Gates.{left}
use Rattle.live_safe.specs.Shadow.{positive, negative, negation, joins, save_of, saved_of, shadow_from, seen_from, start_of, idle_of, copies_from, watches_from, chain_from, copy_gates, shadow_latches, equal_literals, watch_gates, seen_latches, seen_literals, chain_gates, chained, new_latches, new_gates, shadow_of}
use Rattle.live_safe.proofs.Values.{value-positive, value-at, variable-negation}
use Rattle.live_safe.proofs.Extension.{IsNext, AreNext, AreNext-append, run_gates, length-run, place-run, run_fires}
use Rattle.live_safe.proofs.Ranges.{AreIn}

abbrev Below : ℕ → Lit → Type 0
Below n a = variable a < n

next_at : (n v : ℕ) (a b : Lit) → v ≡ n → Below n a → Below n b → IsNext n (joins v a b)
next_at n v a b is_n a_in b_in = record { defines = ap (λ q. 2 * q) is_n; left = a_in; right = b_in }

pub length-copies : (start : ℕ) (ls : List Latch) (shadow v : ℕ) → length (copy_gates start ls shadow v) ≡ 6 * length ls
length-copies start [] shadow v = refl
length-copies start (l ∷ ls) shadow v = let h = length-copies start ls (shadow + 1) (v + 6) in omega (arith, h)

pub length-watches : (idle : ℕ) (qs : List Lit) (seen v : ℕ) → length (watch_gates idle qs seen v) ≡ 2 * length qs
length-watches idle [] seen v = refl
length-watches idle (q ∷ qs) seen v = let h = length-watches idle qs (seen + 1) (v + 2) in omega (arith, h)

pub length-chain : (rest : List Lit) (first : Lit) (v : ℕ) → length (chain_gates rest first v) ≡ length rest
length-chain [] first v = refl
length-chain (a ∷ rest) first v = let h = length-chain rest (positive v) (v + 1) in omega (arith, h)

pub length-equal : (ls : List Latch) (v : ℕ) → length (equal_literals ls v) ≡ length ls
length-equal [] v = refl
length-equal (l ∷ ls) v = let h = length-equal ls (v + 6) in omega (arith, h)

pub length-seen : (qs : List Lit) (seen : ℕ) → length (seen_literals qs seen) ≡ length qs
length-seen [] seen = refl
length-seen (q ∷ qs) seen = let h = length-seen qs (seen + 1) in omega (arith, h)

next_copies : (start : ℕ) (ls : List Latch) (shadow v : ℕ) → start < v → shadow + length ls ≤ v → All (λ l. Below v l.lit) ls → AreNext (copy_gates start ls shadow v) v
next_copies start [] shadow v start_in shadow_in h = tt
next_copies start (l ∷ ls) shadow v start_in shadow_in h =
    let here : Below v l.lit = h 0 l (omega arith) in
    let negated : variable (negation l.lit) ≡ variable l.lit = variable-negation l.lit in
    let e : v + 1 + 1 + 1 + 1 + 1 + 1 ≡ v + 6 = omega arith in (
      next_at v v (positive start) l.lit refl (omega arith) here,
      (
        next_at (v + 1) (v + 1) (negative start) (positive shadow) refl (omega arith) (omega arith),
        (
          next_at (v + 1 + 1) (v + 2) (negative v) (negative (v + 1)) (omega arith) (omega arith) (omega arith),
          (
            next_at (v + 1 + 1 + 1) (v + 3) l.lit (negative shadow) (omega arith) (omega arith) (omega arith),
            (
              next_at (v + 1 + 1 + 1 + 1) (v + 4) (negation l.lit) (positive shadow) (omega arith) (omega arith) (omega arith),
              (
                next_at (v + 1 + 1 + 1 + 1 + 1) (v + 5) (negative (v + 3)) (negative (v + 4)) (omega arith) (omega arith) (omega arith),
                rw e (next_copies start ls (shadow + 1) (v + 6) (omega arith) (omega arith) (λ k d k_in. let p = h (suc k) d (omega arith) in omega (arith, p))),
              ),
            ),
          ),
        ),
      ),
    )

next_watches : (idle : ℕ) (qs : List Lit) (seen v : ℕ) → idle < v → seen + length qs ≤ v → All (Below v) qs → AreNext (watch_gates idle qs seen v) v
next_watches idle [] seen v idle_in seen_in h = tt
next_watches idle (q ∷ qs) seen v idle_in seen_in h =
    let here : Below v q = h 0 q (omega arith) in
    let negated : variable (negation q) ≡ variable q = variable-negation q in
    let e : v + 1 + 1 ≡ v + 2 = omega arith in (
      next_at v v (negative seen) (negation q) refl (omega arith) (omega arith),
      (
        next_at (v + 1) (v + 1) (negative idle) (negative v) refl (omega arith) (omega arith),
        rw e (next_watches idle qs (seen + 1) (v + 2) (omega arith) (omega arith) (λ k d k_in. let p = h (suc k) d (omega arith) in omega (arith, p))),
      ),
    )

next_chain : (rest : List Lit) (first : Lit) (v : ℕ) → Below v first → All (Below v) rest → AreNext (chain_gates rest first v) v
next_chain [] first v first_in h = tt
next_chain (a ∷ rest) first v first_in h = (
  next_at v v first a refl first_in (h 0 a (omega arith)),
  next_chain rest (positive v) (v + 1) (omega arith) (λ k d k_in. let p = h (suc k) d (omega arith) in omega (arith, p)),
)

below_equal : (ls : List Latch) (v n : ℕ) → v + 6 * length ls ≤ n → All (Below n) (equal_literals ls v)
below_equal [] v n h k d k_in = absurd (omega arith)
below_equal (l ∷ ls) v n h zero d k_in = omega arith
below_equal (l ∷ ls) v n h (suc k) d k_in = below_equal ls (v + 6) n (omega arith) k d (omega arith)

below_seen : (qs : List Lit) (seen n : ℕ) → seen + length qs ≤ n → All (Below n) (seen_literals qs seen)
below_seen [] seen n h k d k_in = absurd (omega arith)
below_seen (q ∷ qs) seen n h zero d k_in = omega arith
below_seen (q ∷ qs) seen n h (suc k) d k_in = below_seen qs (seen + 1) n (omega arith) k d (omega arith)

-- the new gates define the variables from the start on
pub next_new : (m : Parts) (j : ℕ) → AreIn m j → AreNext (new_gates m j) (start_of m j)
next_new m j h =
    let wanted : List Lit = wanted_of m j in
    let n : ℕ = start_of m j in
    let copy = copy_gates n m.latches (shadow_from m) (copies_from m j) in
    let watch = watch_gates (idle_of m j) wanted (seen_from m) (watches_from m j) in
    let chain = chain_gates (chained m j) (positive (saved_of m)) (chain_from m j) in
    let e : n + 1 + 1 ≡ copies_from m j = omega arith in
    let after_copy : copies_from m j + length copy ≡ watches_from m j = omega (arith, length-copies n m.latches (shadow_from m) (copies_from m j)) in
    let after_watch : watches_from m j + length watch ≡ chain_from m j = omega (arith, length-watches (idle_of m j) wanted (seen_from m) (watches_from m j)) in
    let copy_next : AreNext copy (copies_from m j) = next_copies n m.latches (shadow_from m) (copies_from m j) (omega arith) (omega arith)
    (λ k d k_in. let p = h.latches k d k_in in omega (arith, p)) in
    let watch_next : AreNext watch (watches_from m j) = next_watches (idle_of m j) wanted (seen_from m) (watches_from m j) (omega arith) (omega arith)
    (λ k d k_in. let p = h.wanted k d k_in in omega (arith, p)) in
    let chain_next : AreNext chain (chain_from m j) = next_chain (chained m j) (positive (saved_of m)) (chain_from m j) (omega arith)
    (All-append (Below (chain_from m j)) (equal_literals m.latches (copies_from m j)) (seen_literals wanted (seen_from m))
    (below_equal m.latches (copies_from m j) (chain_from m j) (omega arith)) (below_seen wanted (seen_from m) (chain_from m j) (omega arith))) in (
      next_at n n (positive (save_of m)) (negative (saved_of m)) refl (omega arith) (omega arith),
      (
        next_at (n + 1) (idle_of m j) (negative (save_of m)) (negative (saved_of m)) refl (omega arith) (omega arith),
        rw e (AreNext-append copy (watch ++ chain) (copies_from m j) copy_next
            (rw after_copy (AreNext-append watch chain (watches_from m j) watch_next (rw after_watch chain_next)))),
      ),
    )

-- latches of consecutive variables, all reset to 0
pub record IsCleared (n : ℕ) (l : Latch) : Type 0 where
  pub defines : l.lit ≡ positive n
  pub reset : l.reset.0 ≡ 0

abbrev pub AreCleared : List Latch → ℕ → Type 0
AreCleared [] n = Unit {0}
AreCleared (l ∷ ls) n = IsCleared n l × AreCleared ls (n + 1)

AreCleared-append : (ls ks : List Latch) (n : ℕ) → AreCleared ls n → AreCleared ks (n + length ls) → AreCleared (ls ++ ks) n
AreCleared-append [] ks n h k = let e : n + 0 ≡ n = omega arith in rw e at k
AreCleared-append (l ∷ ls) ks n h k = (h.0, AreCleared-append ls ks (n + 1) h.1 (let e : n + 1 + length ls ≡ n + suc (length ls) = omega arith in rw e k))

cleared_shadows : (ls : List Latch) (shadow v : ℕ) → AreCleared (shadow_latches ls shadow v) shadow
cleared_shadows [] shadow v = tt
cleared_shadows (l ∷ ls) shadow v = (record { defines = refl; reset = refl }, cleared_shadows ls (shadow + 1) (v + 6))

cleared_seens : (qs : List Lit) (seen v : ℕ) → AreCleared (seen_latches qs seen v) seen
cleared_seens [] seen v = tt
cleared_seens (q ∷ qs) seen v = (record { defines = refl; reset = refl }, cleared_seens qs (seen + 1) (v + 2))

pub length-shadows : (ls : List Latch) (shadow v : ℕ) → length (shadow_latches ls shadow v) ≡ length ls
length-shadows [] shadow v = refl
length-shadows (l ∷ ls) shadow v = let h = length-shadows ls (shadow + 1) (v + 6) in omega (arith, h)

pub length-seens : (qs : List Lit) (seen v : ℕ) → length (seen_latches qs seen v) ≡ length qs
length-seens [] seen v = refl
length-seens (q ∷ qs) seen v = let h = length-seens qs (seen + 1) (v + 2) in omega (arith, h)

pub cleared_new : (m : Parts) (j : ℕ) → AreCleared (new_latches m j) (saved_of m)
cleared_new m j =
    let shadows = shadow_latches m.latches (shadow_from m) (copies_from m j) in
    let e : saved_of m + 1 ≡ shadow_from m = omega arith in
    let f : shadow_from m + length shadows ≡ seen_from m = omega (arith, length-shadows m.latches (shadow_from m) (copies_from m j)) in (
      record { defines = refl; reset = refl },
      rw e (AreCleared-append shadows (seen_latches (wanted_of m j) (seen_from m) (watches_from m j)) (shadow_from m)
          (cleared_shadows m.latches (shadow_from m) (copies_from m j)) (rw f (cleared_seens (wanted_of m j) (seen_from m) (watches_from m j)))),
    )

pub length-new_latches : (m : Parts) (j : ℕ) → length (new_latches m j) ≡ 1 + length m.latches + length (wanted_of m j)
length-new_latches m j =
    let shadows = shadow_latches m.latches (shadow_from m) (copies_from m j) in
    let seens = seen_latches (wanted_of m j) (seen_from m) (watches_from m j) in
    omega (arith, length-shadows m.latches (shadow_from m) (copies_from m j), length-seens (wanted_of m j) (seen_from m) (watches_from m j), length-append shadows seens)

pub length-new_gates : (m : Parts) (j : ℕ) → length (new_gates m j) ≡ 2 + 7 * length m.latches + 3 * length (wanted_of m j)
length-new_gates m j =
    let copy = copy_gates (start_of m j) m.latches (shadow_from m) (copies_from m j) in
    let watch = watch_gates (idle_of m j) (wanted_of m j) (seen_from m) (watches_from m j) in
    let chain = chain_gates (chained m j) (positive (saved_of m)) (chain_from m j) in
    omega (
      arith,
      length-copies (start_of m j) m.latches (shadow_from m) (copies_from m j),
      length-watches (idle_of m j) (wanted_of m j) (seen_from m) (watches_from m j),
      length-chain (chained m j) (positive (saved_of m)) (chain_from m j),
      length-equal m.latches (copies_from m j),
      length-seen (wanted_of m j) (seen_from m),
      length-append (equal_literals m.latches (copies_from m j)) (seen_literals (wanted_of m j) (seen_from m)),
      length-append watch chain,
      length-append copy (watch ++ chain),
    )

-- the new latches have the values that stand at their variables
pub cleared_values : (x bits : List Bool) (ls : List Latch) (n : ℕ) → AreCleared ls n → length bits ≡ length ls → ((k : ℕ) → k < length bits → place x (n + k) ≡ place bits k) →
    map (λ l. value_of x l.lit) ls ≡ bits
cleared_values x [] [] n h long each = refl
cleared_values x (b ∷ bits) [] n h long each = absurd (omega arith)
cleared_values x [] (l ∷ ls) n h long each = absurd (omega arith)
cleared_values x (b ∷ bits) (l ∷ ls) n (here, rest) long each =
    let e : n + 0 ≡ n = omega arith in
    let head : value_of x l.lit ≡ b = subst (λ q. value_of x q ≡ b) (sym here.defines) (value-positive x n ∙ rw e at (each 0 (omega arith))) in
    let tail = cleared_values x bits ls (n + 1) rest (omega arith) (λ k k_in. let f : n + 1 + k ≡ n + suc k = omega arith in rw f (each (suc k) (omega arith))) in
    rw (head, tail) refl

contains_later : (y : ℕ) (ys : List ℕ) (v : ℕ) → Contains ys v → Contains (y ∷ ys) v
contains_later y ys v h = (suc h.0, omega (arith, h.1), h.2)

cleared_contains : (ls : List Latch) (n v : ℕ) → AreCleared ls n → n ≤ v → v < n + length ls → Contains (map held ls) v
cleared_contains [] n v h low high = absurd (omega arith)
cleared_contains (l ∷ ls) n v (here, rest) low high = elim (cases_eq n v) [
  | inl same ↦ (0, omega arith, (let e : variable l.lit ≡ n = (let q = ap variable here.defines in omega (arith, q)) in e ∙ same))
  | inr apart ↦ contains_later (held l) (map held ls) v (cleared_contains ls (n + 1) v rest (omega arith) (omega arith))
]

next_contains : (gs : List Gate) (n v : ℕ) → AreNext gs n → n ≤ v → v < n + length gs → Contains (map left gs) v
next_contains [] n v h low high = absurd (omega arith)
next_contains (g ∷ gs) n v (here, rest) low high = elim (cases_eq n v) [
  | inl same ↦ (0, omega arith, (let e : variable g.lhs ≡ n = (let q = here.defines in omega (arith, q)) in e ∙ same))
  | inr apart ↦ contains_later (left g) (map left gs) v (next_contains gs (n + 1) v rest (omega arith) (omega arith))
]

-- what is defined stays so, and every new variable is defined
pub map_left : {X : Type 0} (f : X → ℕ) (xs ys : List X) (v : ℕ) → Contains (map f xs) v → Contains (map f (xs ++ ys)) v
map_left f xs ys v h = rw (map-append f xs ys) (Contains-append_left (map f xs) (map f ys) v h)

map_right : {X : Type 0} (f : X → ℕ) (xs ys : List X) (v : ℕ) → Contains (map f ys) v → Contains (map f (xs ++ ys)) v
map_right f xs ys v h = rw (map-append f xs ys) (Contains-append_right (map f xs) (map f ys) v h)

of_inputs : (m : Parts) (v : ℕ) → Contains (map variable m.inputs) v → Contains (defined m) v
of_inputs m v h = Contains-append_left (map variable m.inputs ++ map held m.latches) (map left m.gates) v (Contains-append_left (map variable m.inputs) (map held m.latches) v h)

pub of_latches : (m : Parts) (v : ℕ) → Contains (map held m.latches) v → Contains (defined m) v
of_latches m v h = Contains-append_left (map variable m.inputs ++ map held m.latches) (map left m.gates) v (Contains-append_right (map variable m.inputs) (map held m.latches) v h)

of_gates : (m : Parts) (v : ℕ) → Contains (map left m.gates) v → Contains (defined m) v
of_gates m v h = Contains-append_right (map variable m.inputs ++ map held m.latches) (map left m.gates) v h

pub defined_stays : (m : Parts) (j v : ℕ) → Contains (defined m) v → Contains (defined (shadow_of m j)) v
defined_stays m j v h = elim (Contains-append_cases (map variable m.inputs ++ map held m.latches) (map left m.gates) v h) [
  | inl outside ↦ elim (Contains-append_cases (map variable m.inputs) (map held m.latches) v outside) [
    | inl input ↦ of_inputs (shadow_of m j) v (map_left variable m.inputs (positive (save_of m) ∷ []) v input)
    | inr latch ↦ of_latches (shadow_of m j) v (map_left held m.latches (new_latches m j) v latch)
  ]
  | inr gate ↦ of_gates (shadow_of m j) v (map_left left m.gates (new_gates m j) v gate)
]

pub defined_new : (m : Parts) (j v : ℕ) → AreIn m j → m.max_var < v → v ≤ (shadow_of m j).max_var → Contains (defined (shadow_of m j)) v
defined_new m j v h low high = elim (cases_eq v (save_of m)) [
  | inl same ↦ of_inputs (shadow_of m j) v (map_right variable m.inputs (positive (save_of m) ∷ []) v (0, omega arith, omega arith))
  | inr later ↦ elim (cases_lt v (start_of m j)) [
    | inl latch ↦ of_latches (shadow_of m j) v (map_right held m.latches (new_latches m j) v
        (cleared_contains (new_latches m j) (saved_of m) v (cleared_new m j) (omega arith) (omega (arith, length-new_latches m j))))
    | inr gate ↦ of_gates (shadow_of m j) v (map_right left m.gates (new_gates m j) v
        (next_contains (new_gates m j) (start_of m j) v (next_new m j h) gate (omega (arith, length-new_gates m j))))
  ]
]

-- the extension
abbrev pub extend : Parts → ℕ → List Bool → Bool → List Bool → List Bool
extend m j w save bits = run_gates (new_gates m j) (w ++ save ∷ bits)

pub record IsExtension (m : Parts) (j : ℕ) (w : List Bool) (save : Bool) (bits x : List Bool) : Type 0 where
  pub old : (v : ℕ) → v ≤ m.max_var → place x v ≡ place w v
  pub saves : place x (save_of m) ≡ save
  pub held : map (λ l. value_of x l.lit) (new_latches m j) ≡ bits
  pub places : length x ≡ (shadow_of m j).max_var + 1
  pub fires : All (Fires x) (new_gates m j)

pub extends : (m : Parts) (j : ℕ) (w : List Bool) (save : Bool) (bits : List Bool) → AreIn m j → length w ≡ m.max_var + 1 → length bits ≡ length (new_latches m j) →
    IsExtension m j w save bits (extend m j w save bits)
extends m j w save bits h long wide =
    let base : List Bool = w ++ save ∷ bits in
    let x : List Bool = run_gates (new_gates m j) base in
    let base_long : length base ≡ start_of m j = omega (arith, length-append w (save ∷ bits), length-new_latches m j) in
    record {
      old = λ v v_in. place-run (new_gates m j) base v (omega arith) ∙ get_or_append_left w (save ∷ bits) false v (omega arith);
      saves = place-run (new_gates m j) base (save_of m) (omega arith) ∙ get_or_at w save bits false (save_of m) long;
      held = cleared_values x bits (new_latches m j) (saved_of m) (cleared_new m j) wide (λ k k_in.
          let e : saved_of m + k ≡ length w + suc k = omega arith in
          place-run (new_gates m j) base (saved_of m + k) (omega (arith, length-append w (save ∷ bits))) ∙ rw e (get_or-append-add w (save ∷ bits) (suc k) false));
      places = (let r = length-run (new_gates m j) base in omega (arith, r, base_long, length-new_gates m j));
      fires = run_fires (new_gates m j) base (rw base_long (next_new m j h));
    }

pub extension_value : (m : Parts) (j : ℕ) (w : List Bool) (save : Bool) (bits x : List Bool) (a : Lit) → IsExtension m j w save bits x → variable a ≤ m.max_var → value_of x a ≡ value_of w a
extension_value m j w save bits x a h a_in = value-at x w a (h.old (variable a) a_in)

pub extension_agrees : (m : Parts) (j : ℕ) (w : List Bool) (save : Bool) (bits x : List Bool) → AreIn m j → Agrees m w → IsExtension m j w save bits x → Agrees (shadow_of m j) x
extension_agrees m j w save bits x known agrees h = record {
  valuation = record {
    places = h.places;
    constant = h.old 0 (omega arith) ∙ agrees.valuation.constant;
    defined_only = λ v on. elim (cases_lt m.max_var v) [
      | inr old ↦ defined_stays m j v (agrees.valuation.defined_only v (sym (h.old v old) ∙ on))
      | inl new ↦ elim (cases_lt (shadow_of m j).max_var v) [
        | inr inside ↦ defined_new m j v known new inside
        | inl outside ↦ absurd (true≢false (sym on ∙ get_or_past x v false (let e = h.places in omega (arith, e, outside))))
      ]
    ];
  };
  gates = All-append (Fires x) m.gates (new_gates m j)
      (λ k d k_in. rw (
        extension_value m j w save bits x (get_or m.gates k d).lhs h (known.lefts k d k_in),
        extension_value m j w save bits x (get_or m.gates k d).rhs0 h (known.rights0 k d k_in),
        extension_value m j w save bits x (get_or m.gates k d).rhs1 h (known.rights1 k d k_in),
      ) (agrees.gates k d k_in))
      h.fires;
}

-- a variable of the circuit is defined by no new part
pub cleared_low : (ls : List Latch) (n k : ℕ) (d : ℕ) → AreCleared ls n → k < length (map held ls) → n ≤ get_or (map held ls) k d
cleared_low [] n k d h k_in = absurd (omega arith)
cleared_low (l ∷ ls) n zero d (here, rest) k_in = let e : variable l.lit ≡ n = (let q = ap variable here.defines in omega (arith, q)) in omega (arith, e)
cleared_low (l ∷ ls) n (suc k) d (here, rest) k_in = let p = cleared_low ls (n + 1) k d rest (omega arith) in omega (arith, p)

pub next_low : (gs : List Gate) (n k : ℕ) (d : ℕ) → AreNext gs n → k < length (map left gs) → n ≤ get_or (map left gs) k d
next_low [] n k d h k_in = absurd (omega arith)
next_low (g ∷ gs) n zero d (here, rest) k_in = let e : variable g.lhs ≡ n = (let q = here.defines in omega (arith, q)) in omega (arith, e)
next_low (g ∷ gs) n (suc k) d (here, rest) k_in = let p = next_low gs (n + 1) k d rest (omega arith) in omega (arith, p)

pub defined_old : (m : Parts) (j v : ℕ) → AreIn m j → v ≤ m.max_var → Contains (defined (shadow_of m j)) v → Contains (defined m) v
defined_old m j v known old h =
    let all_inputs : List ℕ = map variable (m.inputs ++ positive (save_of m) ∷ []) in
    let all_latches : List ℕ = map held (m.latches ++ new_latches m j) in
    let all_gates : List ℕ = map left (m.gates ++ new_gates m j) in
    elim (Contains-append_cases (all_inputs ++ all_latches) all_gates v h) [
      | inl outside ↦ elim (Contains-append_cases all_inputs all_latches v outside) [
        | inl input ↦ elim (Contains-append_cases (map variable m.inputs) (map variable (positive (save_of m) ∷ [])) v
            (rw (map-append variable m.inputs (positive (save_of m) ∷ [])) at input)) [
              | inl kept ↦ of_inputs m v kept
              | inr new ↦ let first : new.0 ≡ 0 = (let p = new.1 in omega arith) in
                  let is_save : variable (positive (save_of m)) ≡ v = rw first at new.2 in absurd (omega (arith, is_save))
            ]
        | inr latch ↦ elim (Contains-append_cases (map held m.latches) (map held (new_latches m j)) v (rw (map-append held m.latches (new_latches m j)) at latch)) [
          | inl kept ↦ of_latches m v kept
          | inr new ↦ absurd (let p = cleared_low (new_latches m j) (saved_of m) new.0 v (cleared_new m j) new.1 in let e = new.2 in omega (arith, p, e))
        ]
      ]
      | inr gate ↦ elim (Contains-append_cases (map left m.gates) (map left (new_gates m j)) v (rw (map-append left m.gates (new_gates m j)) at gate)) [
        | inl kept ↦ of_gates m v kept
        | inr new ↦ absurd (let p = next_low (new_gates m j) (start_of m j) new.0 v (next_new m j known) new.1 in let e = new.2 in omega (arith, p, e))
      ]
    ]
