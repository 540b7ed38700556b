-- What the gates of the shadow circuit force.
use Rattle.std.proofs.Common.{◌≡◌, ℕ, zero, suc, ◌+◌, ◌<◌, Bool, true, false, not, ◌&&◌, ◌||◌, cond, List, [], ◌∷◌, ◌++◌, length, map, get_or, refl, arith, All, ◌∙◌, sym, ap, ap₂, subst}
use Rattle.std.proofs.lemmas.Bool.{and_parts, and_from}
use Rattle.std.proofs.lemmas.List.{get_or-map}
use Rattle.std.proofs.lemmas.List.Elements.{All-nil, All-cons, All-head, All-tail, All-append}
use Rattle.graph.specs.declared.circuit.Lit.{Lit}
use Rattle.graph.specs.declared.circuit.Latch.{Latch}
use Rattle.graph.specs.declared.circuit.Gate.{Gate}
use Rattle.graph.specs.declared.parts.Parts.{Parts}
use Rattle.graph.specs.Circuits.{place, value_of, state_of, Fires, IsStep, next_state, wanted_of}
use Rattle.graph.proofs.Evaluation.{All-left, All-right}
use Rattle.live_safe.specs.Shadow.{positive, negative, negation, joins, save_of, saved_of, shadow_from, seen_from, start_of, idle_of, copies_from, watches_from, chain_from, copy_gates, shadow_latches, equal_literals, watch_gates, seen_latches, seen_literals, chain_gates, chain_end, chained, new_latches, new_gates, closing_literal, shadow_of}
use Rattle.live_safe.proofs.Values.{value-positive, value-negative, value-negation, fires_at}

-- two lists made from one are equal where their elements are
pub all_from_map : {X : Type 0} (f g : X → Bool) (xs : List X) → map f xs ≡ map g xs → All (λ x. f x ≡ g x) xs
all_from_map f g xs same k d k_in = sym (get_or-map f xs k d (f d) k_in) ∙ ap (λ q. get_or q k (f d)) same ∙ get_or-map g xs k d (f d) k_in

pub map_from_all : {X : Type 0} (f g : X → Bool) (xs : List X) → All (λ x. f x ≡ g x) xs → map f xs ≡ map g xs
map_from_all f g [] h = refl
map_from_all f g (x ∷ xs) h = ap₂ (λ p q. p ∷ q) (All-head (λ x. f x ≡ g x) x xs h) (map_from_all f g xs (All-tail (λ x. f x ≡ g x) x xs h))

-- the six gates of a latch, and the two of a wanted literal
copied : (s l h : Bool) → not (not (s && l) && not (not s && h)) ≡ cond s l h
copied true true h = refl
copied true false h = refl
copied false l true = refl
copied false l false = refl

equal_if : (l h : Bool) → (not (l && not h) && not (not l && h)) ≡ true → l ≡ h
equal_if true true e = refl
equal_if true false e = sym e
equal_if false true e = e
equal_if false false e = refl

equal_then : (l h : Bool) → l ≡ h → (not (l && not h) && not (not l && h)) ≡ true
equal_then true true e = refl
equal_then true false e = sym e
equal_then false true e = e
equal_then false false e = refl

watched : (idle seen q : Bool) → (not idle && not (not seen && not q)) ≡ (not idle && (seen || q))
watched true seen q = refl
watched false true q = refl
watched false false true = refl
watched false false false = refl

busy : (save saved : Bool) → not (not save && not saved) ≡ (save || saved)
busy true saved = refl
busy false true = refl
busy false false = refl

cond-cons : (s a b : Bool) (xs ys : List Bool) → cond s (a ∷ xs) (b ∷ ys) ≡ cond s a b ∷ cond s xs ys
cond-cons true a b xs ys = refl
cond-cons false a b xs ys = refl

cond-nil : (s : Bool) → let none : List Bool = [] in none ≡ cond s none none
cond-nil true = refl
cond-nil false = refl

-- the values of as many variables as there are latches
abbrev pub row : List Bool → List Latch → ℕ → List Bool
row w [] v = []
row w (l ∷ ls) v = place w v ∷ row w ls (v + 1)

-- what the gates of one latch say
record Copies (x : List Bool) (start : ℕ) (l : Latch) (shadow v : ℕ) : Type 0 where
  kept : not (place x (v + 2)) ≡ cond (place x start) (value_of x l.lit) (place x shadow)
  equal : place x (v + 5) ≡ (not (value_of x l.lit && not (place x shadow)) && not (not (value_of x l.lit) && place x shadow))

blank : Gate
blank = joins 0 (positive 0) (positive 0)

copies : (x : List Bool) (start : ℕ) (l : Latch) (ls : List Latch) (shadow v : ℕ) → All (Fires x) (copy_gates start (l ∷ ls) shadow v) → Copies x start l shadow v
copies x start l ls shadow v fires =
    let a = fires_at x v (positive start) l.lit (fires 0 blank (omega arith)) in
    let b = fires_at x (v + 1) (negative start) (positive shadow) (fires 1 blank (omega arith)) in
    let n = fires_at x (v + 2) (negative v) (negative (v + 1)) (fires 2 blank (omega arith)) in
    let e1 = fires_at x (v + 3) l.lit (negative shadow) (fires 3 blank (omega arith)) in
    let e2 = fires_at x (v + 4) (negation l.lit) (positive shadow) (fires 4 blank (omega arith)) in
    let e = fires_at x (v + 5) (negative (v + 3)) (negative (v + 4)) (fires 5 blank (omega arith)) in
    record {
      kept = rw (n, value-negative x v, value-negative x (v + 1), a, b, value-positive x start, value-negative x start, value-positive x shadow) (copied (place x start) (value_of x l.lit) (place x shadow));
      equal = rw (e, value-negative x (v + 3), value-negative x (v + 4), e1, e2, value-negative x shadow, value-negation x l.lit, value-positive x shadow) refl;
    }

later_copies : (x : List Bool) (start : ℕ) (l : Latch) (ls : List Latch) (shadow v : ℕ) → All (Fires x) (copy_gates start (l ∷ ls) shadow v) → All (Fires x) (copy_gates start ls (shadow + 1) (v + 6))
later_copies x start l ls shadow v fires k d k_in = fires (suc (suc (suc (suc (suc (suc k)))))) d (omega arith)

-- the next values of the shadows are the latches' at the start, and their own otherwise
pub copy_step : (x y : List Bool) (start : ℕ) (ls : List Latch) (shadow v : ℕ) → All (Fires x) (copy_gates start ls shadow v) →
    All (λ l. value_of y l.lit ≡ value_of x l.next) (shadow_latches ls shadow v) → row y ls shadow ≡ cond (place x start) (map (λ l. value_of x l.lit) ls) (row x ls shadow)
copy_step x y start [] shadow v fires steps = cond-nil (place x start)
copy_step x y start (l ∷ ls) shadow v fires steps =
    let here = copies x start l ls shadow v fires in
    let head : place y shadow ≡ cond (place x start) (value_of x l.lit) (place x shadow) =
    sym (value-positive y shadow) ∙ steps 0 l (omega arith) ∙ value-negative x (v + 2) ∙ here.kept in
    let tail = copy_step x y start ls (shadow + 1) (v + 6) (later_copies x start l ls shadow v fires)
    (All-tail (λ q. value_of y q.lit ≡ value_of x q.next) _ (shadow_latches ls (shadow + 1) (v + 6)) steps) in
    ap₂ (λ p q. p ∷ q) head tail ∙ sym (cond-cons (place x start) (value_of x l.lit) (place x shadow) (map (λ q. value_of x q.lit) ls) (row x ls (shadow + 1)))

-- the literals of equality are true where each latch equals its shadow
pub equal_read : (x : List Bool) (start : ℕ) (ls : List Latch) (shadow v : ℕ) → All (Fires x) (copy_gates start ls shadow v) →
    All (λ a. value_of x a ≡ true) (equal_literals ls v) → map (λ l. value_of x l.lit) ls ≡ row x ls shadow
equal_read x start [] shadow v fires on = refl
equal_read x start (l ∷ ls) shadow v fires on =
    let here = copies x start l ls shadow v fires in
    ap₂ (λ p q. p ∷ q)
    (equal_if (value_of x l.lit) (place x shadow) (sym here.equal ∙ sym (value-positive x (v + 5)) ∙ on 0 l.lit (omega arith)))
    (equal_read x start ls (shadow + 1) (v + 6) (later_copies x start l ls shadow v fires) (All-tail (λ a. value_of x a ≡ true) _ (equal_literals ls (v + 6)) on))

same_heads : (a b : Bool) (xs ys : List Bool) → a ∷ xs ≡ b ∷ ys → (a ≡ b) × (xs ≡ ys)
same_heads a b xs ys e = (cc, cc)

pub equal_set : (x : List Bool) (start : ℕ) (ls : List Latch) (shadow v : ℕ) → All (Fires x) (copy_gates start ls shadow v) →
    map (λ l. value_of x l.lit) ls ≡ row x ls shadow → All (λ a. value_of x a ≡ true) (equal_literals ls v)
equal_set x start [] shadow v fires same = All-nil (λ a. value_of x a ≡ true)
equal_set x start (l ∷ ls) shadow v fires same =
    let here = copies x start l ls shadow v fires in
    let parts = same_heads (value_of x l.lit) (place x shadow) (map (λ q. value_of x q.lit) ls) (row x ls (shadow + 1)) same in
    All-cons (λ a. value_of x a ≡ true) (positive (v + 5)) (equal_literals ls (v + 6))
    (value-positive x (v + 5) ∙ here.equal ∙ equal_then (value_of x l.lit) (place x shadow) parts.0)
    (equal_set x start ls (shadow + 1) (v + 6) (later_copies x start l ls shadow v fires) parts.1)

-- what has been seen afterwards
pub watch_step : (x y : List Bool) (idle : ℕ) (qs : List Lit) (seen v : ℕ) → All (Fires x) (watch_gates idle qs seen v) →
    All (λ l. value_of y l.lit ≡ value_of x l.next) (seen_latches qs seen v) → (k : ℕ) (d : Lit) → k < length qs →
    place y (seen + k) ≡ (not (place x idle) && (place x (seen + k) || value_of x (get_or qs k d)))
watch_step x y idle [] seen v fires steps k d k_in = absurd (omega arith)
watch_step x y idle (q ∷ qs) seen v fires steps zero d k_in =
    let u = fires_at x v (negative seen) (negation q) (fires 0 blank (omega arith)) in
    let w = fires_at x (v + 1) (negative idle) (negative v) (fires 1 blank (omega arith)) in
    let e : seen + 0 ≡ seen = omega arith in
    rw e (sym (value-positive y seen) ∙ steps 0 record { lit = q; next = q; reset = q } (omega arith) ∙ value-positive x (v + 1)
    ∙ rw (w, value-negative x idle, value-negative x v, u, value-negative x seen, value-negation x q) (watched (place x idle) (place x seen) (value_of x q)))
watch_step x y idle (q ∷ qs) seen v fires steps (suc k) d k_in =
    let e : seen + suc k ≡ seen + 1 + k = omega arith in
    rw e (watch_step x y idle qs (seen + 1) (v + 2) (λ i c i_in. fires (suc (suc i)) c (omega arith))
    (All-tail (λ l. value_of y l.lit ≡ value_of x l.next) _ (seen_latches qs (seen + 1) (v + 2)) steps) k d (omega arith))

pub seen_read : (x : List Bool) (qs : List Lit) (seen : ℕ) → All (λ a. value_of x a ≡ true) (seen_literals qs seen) → (k : ℕ) → k < length qs → place x (seen + k) ≡ true
seen_read x [] seen on k k_in = absurd (omega arith)
seen_read x (q ∷ qs) seen on zero k_in = let e : seen + 0 ≡ seen = omega arith in rw e (sym (value-positive x seen) ∙ on 0 q (omega arith))
seen_read x (q ∷ qs) seen on (suc k) k_in = let e : seen + suc k ≡ seen + 1 + k = omega arith in
    rw e (seen_read x qs (seen + 1) (All-tail (λ a. value_of x a ≡ true) _ (seen_literals qs (seen + 1)) on) k (omega arith))

pub seen_set : (x : List Bool) (qs : List Lit) (seen : ℕ) → ((k : ℕ) → k < length qs → place x (seen + k) ≡ true) → All (λ a. value_of x a ≡ true) (seen_literals qs seen)
seen_set x [] seen on = All-nil (λ a. value_of x a ≡ true)
seen_set x (q ∷ qs) seen on =
    let e : seen + 0 ≡ seen = omega arith in
    All-cons (λ a. value_of x a ≡ true) (positive seen) (seen_literals qs (seen + 1)) (value-positive x seen ∙ rw e at (on 0 (omega arith)))
    (seen_set x qs (seen + 1) (λ k k_in. let f : seen + 1 + k ≡ seen + suc k = omega arith in rw f (on (suc k) (omega arith))))

-- the end of a chain is true where its first literal and all that are joined to it are
pub chain_true : (x : List Bool) (rest : List Lit) (first : Lit) (v : ℕ) → All (Fires x) (chain_gates rest first v) →
    value_of x (chain_end rest first v) ≡ true → (value_of x first ≡ true) × All (λ a. value_of x a ≡ true) rest
chain_true x [] first v fires on = (on, All-nil (λ a. value_of x a ≡ true))
chain_true x (a ∷ rest) first v fires on =
    let later = chain_true x rest (positive v) (v + 1) (All-tail (Fires x) _ (chain_gates rest (positive v) (v + 1)) fires) on in
    let both = and_parts (value_of x first) (value_of x a) (sym (All-head (Fires x) (joins v first a) (chain_gates rest (positive v) (v + 1)) fires) ∙ later.0) in
    (both.0, All-cons (λ q. value_of x q ≡ true) a rest both.1 later.1)

pub true_chain : (x : List Bool) (rest : List Lit) (first : Lit) (v : ℕ) → All (Fires x) (chain_gates rest first v) →
    value_of x first ≡ true → All (λ a. value_of x a ≡ true) rest → value_of x (chain_end rest first v) ≡ true
true_chain x [] first v fires on all = on
true_chain x (a ∷ rest) first v fires on all =
    true_chain x rest (positive v) (v + 1) (All-tail (Fires x) _ (chain_gates rest (positive v) (v + 1)) fires)
    (All-head (Fires x) (joins v first a) (chain_gates rest (positive v) (v + 1)) fires
    ∙ and_from (value_of x first) (value_of x a) on (All-head (λ q. value_of x q ≡ true) a rest all))
    (All-tail (λ q. value_of x q ≡ true) a rest all)

-- the new gates, kind by kind
pub record NewFire (m : Parts) (j : ℕ) (x : List Bool) : Type 0 where
  pub start : place x (start_of m j) ≡ (place x (save_of m) && not (place x (saved_of m)))
  pub idle : not (place x (idle_of m j)) ≡ (place x (save_of m) || place x (saved_of m))
  pub copy : All (Fires x) (copy_gates (start_of m j) m.latches (shadow_from m) (copies_from m j))
  pub watch : All (Fires x) (watch_gates (idle_of m j) (wanted_of m j) (seen_from m) (watches_from m j))
  pub chain : All (Fires x) (chain_gates (chained m j) (positive (saved_of m)) (chain_from m j))

pub new_fire : (m : Parts) (j : ℕ) (x : List Bool) → All (Fires x) (new_gates m j) → NewFire m j x
new_fire m j x fires =
    let copy = copy_gates (start_of m j) m.latches (shadow_from m) (copies_from m j) in
    let watch = watch_gates (idle_of m j) (wanted_of m j) (seen_from m) (watches_from m j) in
    let chain = chain_gates (chained m j) (positive (saved_of m)) (chain_from m j) in
    let start = fires_at x (start_of m j) (positive (save_of m)) (negative (saved_of m)) (fires 0 blank (omega arith)) in
    let idle = fires_at x (idle_of m j) (negative (save_of m)) (negative (saved_of m)) (fires 1 blank (omega arith)) in
    let rest : All (Fires x) (copy ++ (watch ++ chain)) = λ k d k_in. fires (suc (suc k)) d (omega arith) in
    let last : All (Fires x) (watch ++ chain) = All-right (Fires x) copy (watch ++ chain) rest in
    record {
      start = rw (start, value-positive x (save_of m), value-negative x (saved_of m)) refl;
      idle = rw (idle, value-negative x (save_of m), value-negative x (saved_of m)) (busy (place x (save_of m)) (place x (saved_of m)));
      copy = All-left (Fires x) copy (watch ++ chain) rest;
      watch = All-left (Fires x) watch chain last;
      chain = All-right (Fires x) watch chain last;
    }

-- the state of the shadows
abbrev pub shadows : Parts → List Bool → List Bool
shadows m x = row x m.latches (shadow_from m)

-- a step of the shadow circuit in words
pub record IsShadowStep (m : Parts) (j : ℕ) (x y : List Bool) : Type 0 where
  pub old : state_of m y ≡ next_state m x
  pub saved : place y (saved_of m) ≡ (place x (save_of m) || place x (saved_of m))
  pub shadow : shadows m y ≡ cond (place x (save_of m) && not (place x (saved_of m))) (state_of m x) (shadows m x)
  pub seen : (k : ℕ) (d : Lit) → k < length (wanted_of m j) →
      place y (seen_from m + k) ≡ ((place x (save_of m) || place x (saved_of m)) && (place x (seen_from m + k) || value_of x (get_or (wanted_of m j) k d)))

pub shadow_step : (m : Parts) (j : ℕ) (x y : List Bool) → NewFire m j x → IsStep (shadow_of m j) x y → IsShadowStep m j x y
shadow_step m j x y fire step =
    let P : Latch → Type 0 = λ l. value_of y l.lit ≡ value_of x l.next in
    let each : All P (m.latches ++ new_latches m j) = all_from_map (λ l. value_of y l.lit) (λ l. value_of x l.next) (m.latches ++ new_latches m j) step in
    let copies : List Latch = shadow_latches m.latches (shadow_from m) (copies_from m j) in
    let watches : List Latch = seen_latches (wanted_of m j) (seen_from m) (watches_from m j) in
    let new : All P (new_latches m j) = All-right P m.latches (new_latches m j) each in
    let head = All-head P _ (copies ++ watches) new in
    let tail : All P (copies ++ watches) = All-tail P _ (copies ++ watches) new in
    record {
      old = map_from_all (λ l. value_of y l.lit) (λ l. value_of x l.next) m.latches (All-left P m.latches (new_latches m j) each);
      saved = sym (value-positive y (saved_of m)) ∙ head ∙ value-negative x (idle_of m j) ∙ fire.idle;
      shadow = subst (λ q. shadows m y ≡ cond q (state_of m x) (shadows m x)) fire.start
          (copy_step x y (start_of m j) m.latches (shadow_from m) (copies_from m j) fire.copy (All-left P copies watches tail));
      seen = λ k d k_in. rw (← fire.idle)
          (watch_step x y (idle_of m j) (wanted_of m j) (seen_from m) (watches_from m j) fire.watch (All-right P copies watches tail) k d k_in);
    }

-- the new bad literal in words
pub record Closes (m : Parts) (j : ℕ) (x : List Bool) : Type 0 where
  pub saved : place x (saved_of m) ≡ true
  pub equal : state_of m x ≡ shadows m x
  pub seen : (k : ℕ) → k < length (wanted_of m j) → place x (seen_from m + k) ≡ true

pub closes_from : (m : Parts) (j : ℕ) (x : List Bool) → NewFire m j x → value_of x (closing_literal m j) ≡ true → Closes m j x
closes_from m j x fire on =
    let T : Lit → Type 0 = λ a. value_of x a ≡ true in
    let equal : List Lit = equal_literals m.latches (copies_from m j) in
    let seen : List Lit = seen_literals (wanted_of m j) (seen_from m) in
    let all = chain_true x (chained m j) (positive (saved_of m)) (chain_from m j) fire.chain on in
    record {
      saved = sym (value-positive x (saved_of m)) ∙ all.0;
      equal = equal_read x (start_of m j) m.latches (shadow_from m) (copies_from m j) fire.copy (All-left T equal seen all.1);
      seen = seen_read x (wanted_of m j) (seen_from m) (All-right T equal seen all.1);
    }

pub closes_to : (m : Parts) (j : ℕ) (x : List Bool) → NewFire m j x → Closes m j x → value_of x (closing_literal m j) ≡ true
closes_to m j x fire h =
    let T : Lit → Type 0 = λ a. value_of x a ≡ true in
    let equal : List Lit = equal_literals m.latches (copies_from m j) in
    let seen : List Lit = seen_literals (wanted_of m j) (seen_from m) in
    true_chain x (chained m j) (positive (saved_of m)) (chain_from m j) fire.chain (value-positive x (saved_of m) ∙ h.saved)
    (All-append T equal seen
    (equal_set x (start_of m j) m.latches (shadow_from m) (copies_from m j) fire.copy h.equal)
    (seen_set x (wanted_of m j) (seen_from m) h.seen))
