-- A replay whose values may be open, time after time.
use Rattle.std.proofs.Common.{◌≡◌, ℕ, suc, false, inl, inr, ◌+◌, ◌*◌, ◌<◌, ◌≤◌, Bool, List, [], ◌∷◌, ◌++◌, length, length-append, length-drop, length-set, get_or, set, map, take, drop, Option, None, Some, Result, Ok, Err, IfOk, refl, sym, ap, ◌∙◌, arith, subst, below_more}
use Rattle.std.specs.List.{flat_map}
use Rattle.std.proofs.lemmas.Grind.{flat_map-append}
use Rattle.std.proofs.lemmas.List.{append-nil, get_or_append_left, get_or_push, length_push, drop_more, ext_get_or, get_or-map, get_or-set_same, get_or-set_other, length-map, take_all, take_more}
use Rattle.graph.specs.declared.circuit.Latch.{Latch}
use Rattle.graph.specs.declared.parts.Parts.{Parts}
use Rattle.graph.specs.Circuits.{next_state, Valuation, value_of}
use Rattle.stimulus.specs.Courses.{Course, IsAt}
use Rattle.stimulus.proofs.CourseLaws.{course_length}
use Rattle.witness.specs.Completions.{Completes, Keeps}
use Rattle.witness.specs.Cleared.{CompleteAll}
use Rattle.wave_signals.specs.declared.bits.Bit.{Bit}
use Rattle.wave_signals.specs.Columns.{values_at}
use Rattle.wave_signals.specs.OpenValues.{Stand, open_first, open_place, open_reset, open_value_of}
use Rattle.wave_signals.proofs.OpenLaws.{completes_at, keeps_value}
use Rattle.simulate.specs.Starts.{IsFine, Starts}
use Rattle.std.proofs.lemmas.Bool.Decides.{eqb_tells}

-- ---- the next state, latch by latch

pub record OpenTaken (f : Latch → Option Bool) (xs : List Latch) (state : List (Option Bool)) (n : ℕ) : Type 0 where
  pub same : (k : ℕ) (d : Latch) → k < n → open_place state k ≡ f (get_or xs k d)
  pub long : length state ≡ length xs

pub open_taken_more : (f : Latch → Option Bool) (xs : List Latch) (state : List (Option Bool)) (n : ℕ) (x : Option Bool) → n < length xs → ((d : Latch) → x ≡ f (get_or xs n d)) → OpenTaken f xs state n → OpenTaken f xs (set state n x) (n + 1)
open_taken_more f xs state n x n_in is_x h = record {
  same = λ k d. below_more (λ q. open_place (set state n x) q ≡ f (get_or xs q d)) n
      (λ q q_in. get_or-set_other state n q x None (λ e. omega (arith, e, q_in)) ∙ h.same q d q_in)
      (get_or-set_same state n x None (omega (arith, h.long, n_in)) ∙ is_x d) k;
  long = length-set state n x ∙ h.long;
}

pub open_taken_all : (f : Latch → Option Bool) (xs : List Latch) (state : List (Option Bool)) (n : ℕ) (d : Latch) → n ≡ length xs → OpenTaken f xs state n → state ≡ map f xs
open_taken_all f xs state n d is_n h = ext_get_or None state (map f xs) (h.long ∙ sym (length-map xs f))
    (λ i i_in. let i_x : i < length xs = omega (arith, h.long, i_in) in h.same i d (omega (arith, is_n, i_x)) ∙ sym (get_or-map f xs i d None i_x))

pub completes_next : (values : List (Option Bool)) (w : Valuation) (latches : List Latch) → Stand values w → Completes (map (λ l. open_value_of values l.next) latches) (map (λ l. value_of w l.next) latches)
completes_next values w [] h = tt
completes_next values w (l ∷ latches) h = (keeps_value values w l.next h, completes_next values w latches h)

-- ---- what is known of the bits

pub completes_bits : (values : List (Option Bool)) (w : Valuation) (bits : List Bit) → Stand values w → Completes (map (λ b. open_value_of values b.lit) bits) (values_at bits w)
completes_bits values w [] h = tt
completes_bits values w (b ∷ bits) h = (keeps_value values w b.lit h, completes_bits values w bits h)

completes_append : (a b : List (Option Bool)) (x y : List Bool) → Completes a x → Completes b y → Completes (a ++ b) (x ++ y)
completes_append [] b [] y c e = e
completes_append [] b (v ∷ x) y c e = absurd c
completes_append (o ∷ a) b [] y c e = absurd c
completes_append (o ∷ a) b (v ∷ x) y c e = (c.0, completes_append a b x y c.1 e)

-- ---- one line after another

-- the first of what is left
record Split (m : Parts) (now : List Bool) (line : List (Option Bool)) (lines : List (List (Option Bool))) (inputs : List (List Bool)) (r : List Valuation) : Type 0 where
  given : List Bool
  w : Valuation
  later : List (List Bool)
  others : List Valuation
  is_inputs : inputs ≡ given ∷ later
  is_replay : r ≡ w ∷ others
  completes : Completes line given
  left : CompleteAll lines later
  one : IsAt m now given w
  goes_on : Course m (next_state m w) later others

split : (m : Parts) (now : List Bool) (line : List (Option Bool)) (lines : List (List (Option Bool))) (inputs : List (List Bool)) (r : List Valuation) → CompleteAll (line ∷ lines) inputs → Course m now inputs r →
    Split m now line lines inputs r
split m now line lines [] r all course = absurd all
split m now line lines (given ∷ later) [] all course = absurd course
split m now line lines (given ∷ later) (w ∷ others) all course =
    record { given = given; w = w; later = later; others = others; is_inputs = refl; is_replay = refl; completes = all.0; left = all.1; one = course.0; goes_on = course.1 }

some_left : {A : Type 0} (xs : List A) (i : ℕ) (x : A) (ys : List A) → drop i xs ≡ x ∷ ys → i < length xs
some_left {A} xs i x ys e = omega (arith, length-drop i xs, ap (λ (zs : List A). length zs) e)

drop_one : {A : Type 0} (xs : List A) (i : ℕ) (x : A) (ys : List A) → drop i xs ≡ x ∷ ys → drop (i + 1) xs ≡ ys
drop_one xs i x ys e = let more = drop_more xs i x (some_left xs i x ys e) in cc

take_one : {A : Type 0} (xs : List A) (i : ℕ) (x : A) (ys : List A) → drop i xs ≡ x ∷ ys → take (i + 1) xs ≡ take i xs ++ x ∷ []
take_one {A} xs i x ys e =
    let i_in = some_left xs i x ys e in
    let more = drop_more xs i x i_in in
    let here : get_or xs i x ≡ x = cc in
    take_more xs i x i_in ∙ ap (λ (z : A). take i xs ++ z ∷ []) here

-- where a state and inputs complete these, the first i times were replayed
pub record OpenAt (m : Parts) (bits : List Bit) (lines : List (List (Option Bool))) (i : ℕ) (state rows : List (Option Bool)) (inputs : List (List Bool)) (r : List Valuation) : Type 0 where
  pub now : List Bool
  pub completes : Completes state now
  pub course : Course m now (drop i inputs) (drop i r)
  pub left : CompleteAll (drop i lines) (drop i inputs)
  pub shown : Completes rows (flat_map (values_at bits) (take i r))

pub record OpenPlayed (m : Parts) (bits : List Bit) (initial : List (Option Bool)) (lines : List (List (Option Bool))) (i : ℕ) (state rows : List (Option Bool)) : Type 0 where
  pub state_places : length state ≡ length m.latches
  pub rows_places : length rows ≡ i * length bits
  pub played : (st : List Bool) (inputs : List (List Bool)) (r : List Valuation) → Completes initial st → CompleteAll lines inputs → Course m st inputs r → OpenAt m bits lines i state rows inputs r

pub open_none : (m : Parts) (bits : List Bit) (initial : List (Option Bool)) (lines : List (List (Option Bool))) (state : List (Option Bool)) → state ≡ initial → length initial ≡ length m.latches → OpenPlayed m bits initial lines 0 state []
open_none m bits initial lines state same long = record {
  state_places = ap (λ (xs : List (Option Bool)). length xs) same ∙ long;
  rows_places = let e : 0 ≡ 0 * length bits = omega arith in e;
  played = λ st inputs r first all course. record { now = st; completes = subst (λ (xs : List (Option Bool)). Completes xs st) (sym same) first; course = course; left = all; shown = tt };
}

pub open_more : (m : Parts) (bits : List Bit) (initial : List (Option Bool)) (lines : List (List (Option Bool))) (i : ℕ) (line : List (Option Bool)) (state after values rows more : List (Option Bool)) → i < length lines →
    get_or lines i [] ≡ line → length after ≡ length state → more ≡ rows ++ map (λ b. open_value_of values b.lit) bits →
    ((st given : List Bool) (w : Valuation) → Completes state st → Completes line given → IsAt m st given w → Stand values w) →
    ((st given : List Bool) (w : Valuation) → Completes state st → Completes line given → IsAt m st given w → Completes after (next_state m w)) →
    OpenPlayed m bits initial lines i state rows → OpenPlayed m bits initial lines (i + 1) after more
open_more m bits initial lines i line state after values rows more i_in is_line places is_more stand moves h = record {
  state_places = places ∙ h.state_places;
  rows_places =
      let long = length-append rows (map (λ (b : Bit). open_value_of values b.lit) bits) in
      let wide = length-map bits (λ (b : Bit). open_value_of values b.lit) in
      let before = h.rows_places in
      let next : (i + 1) * length bits ≡ i * length bits + length bits = grind arith in
      ap (λ (xs : List (Option Bool)). length xs) is_more ∙ omega (arith, long, wide, before, next);
  played = λ st inputs r first all course.
      let now = h.played st inputs r first all course in
      let lines_left : drop i lines ≡ line ∷ drop (i + 1) lines = drop_more lines i [] i_in ∙ ap (λ (x : List (Option Bool)). x ∷ drop (i + 1) lines) is_line in
      let s = split m now.now line (drop (i + 1) lines) (drop i inputs) (drop i r) (subst (λ (ls : List (List (Option Bool))). CompleteAll ls (drop i inputs)) lines_left now.left) now.course in
      let later = drop_one inputs i s.given s.later s.is_inputs in
      let others = drop_one r i s.w s.others s.is_replay in
      let shown = completes_append rows (map (λ b. open_value_of values b.lit) bits) (flat_map (values_at bits) (take i r)) (values_at bits s.w) now.shown
      (completes_bits values s.w bits (stand now.now s.given s.w now.completes s.completes s.one)) in
      let joined : flat_map (values_at bits) (take (i + 1) r) ≡ flat_map (values_at bits) (take i r) ++ values_at bits s.w = ap (flat_map (values_at bits)) (take_one r i s.w s.others s.is_replay)
      ∙ flat_map-append (values_at bits) (take i r) (s.w ∷ []) ∙ ap (λ (xs : List Bool). flat_map (values_at bits) (take i r) ++ xs) (append-nil (values_at bits s.w)) in
      record {
        now = next_state m s.w;
        completes = moves now.now s.given s.w now.completes s.completes s.one;
        course = subst (λ (x : List Valuation). Course m (next_state m s.w) (drop (i + 1) inputs) x) (sym others) (subst (λ (x : List (List Bool)). Course m (next_state m s.w) x s.others) (sym later) s.goes_on);
        left = subst (λ (x : List (List Bool)). CompleteAll (drop (i + 1) lines) x) (sym later) s.left;
        shown = subst (λ (xs : List (Option Bool)). Completes xs (flat_map (values_at bits) (take (i + 1) r))) (sym is_more) (subst (Completes (rows ++ map (λ b. open_value_of values b.lit) bits)) (sym joined) shown);
      };
}

pub complete_length : (lines : List (List (Option Bool))) (inputs : List (List Bool)) → CompleteAll lines inputs → length lines ≡ length inputs
complete_length [] [] all = refl
complete_length [] (x ∷ inputs) all = absurd all
complete_length (line ∷ lines) [] all = absurd all
complete_length (line ∷ lines) (x ∷ inputs) all = let h = complete_length lines inputs all.1 in omega (arith, h)

pub open_all : (m : Parts) (bits : List Bit) (initial : List (Option Bool)) (lines : List (List (Option Bool))) (i : ℕ) (state rows : List (Option Bool)) → i ≡ length lines → OpenPlayed m bits initial lines i state rows →
    (st : List Bool) (inputs : List (List Bool)) (r : List Valuation) → Completes initial st → CompleteAll lines inputs → Course m st inputs r → Completes rows (flat_map (values_at bits) r)
open_all m bits initial lines i state rows is_i h st inputs r first all course =
    let now = h.played st inputs r first all course in
    let long : length r ≤ i = omega (arith, is_i, complete_length lines inputs all, course_length m st inputs r course) in
    subst (λ (x : List Valuation). Completes rows (flat_map (values_at bits) x)) (take_all i r long) now.shown

-- ---- the first state

keeps_reset : (l : Latch) (b : Bool) → IsFine l b → Keeps (open_reset l) b
keeps_reset l b fine = elim (eqb_tells l.reset.0 0) [
  | inl low ↦ rw low.0 (fine.low low.1)
  | inr other ↦ elim (eqb_tells l.reset.0 1) [ inl high ↦ rw (other.0, high.0) (fine.high high.1) | inr none ↦ rw (other.0, none.0) tt ]
]

keeps_first : (l : Latch) (given : Option Bool) (b : Bool) → IsFine l b → Keeps given b → Keeps (open_first l given) b
keeps_first l None b fine k = keeps_reset l b fine
keeps_first l (Some v) b fine k = k

completes_length : (given : List (Option Bool)) (st : List Bool) → Completes given st → length given ≡ length st
completes_length [] [] c = refl
completes_length [] (b ∷ st) c = absurd c
completes_length (o ∷ given) [] c = absurd c
completes_length (o ∷ given) (b ∷ st) c = ap suc (completes_length given st c.1)

completes_each : (given : List (Option Bool)) (st : List Bool) → length given ≡ length st → ((k : ℕ) → k < length given → Keeps (open_place given k) (get_or st k false)) → Completes given st
completes_each [] [] long h = tt
completes_each [] (b ∷ st) long h = absurd (omega (arith, long))
completes_each (o ∷ given) [] long h = absurd (omega (arith, long))
completes_each (o ∷ given) (b ∷ st) long h = (h 0 (omega arith), completes_each given st (omega (arith, long)) (λ k k_in. h (suc k) (omega (arith, k_in))))

-- the first n latches have their values
pub record OpenBegun (latches : List Latch) (given state : List (Option Bool)) (n : ℕ) : Type 0 where
  pub long : length state ≡ n
  pub each : (k : ℕ) (d : Latch) → k < n → open_place state k ≡ open_first (get_or latches k d) (open_place given k)

pub open_begun_more : (latches : List Latch) (given state after : List (Option Bool)) (n : ℕ) (x : Option Bool) → after ≡ state ++ x ∷ [] → ((d : Latch) → x ≡ open_first (get_or latches n d) (open_place given n)) → OpenBegun latches given state n →
    OpenBegun latches given after (n + 1)
open_begun_more latches given state after n x is is_x h = record {
  long = omega (arith, ap (λ (xs : List (Option Bool)). length xs) is, length_push state x, h.long);
  each = λ k d. below_more (λ q. open_place after q ≡ open_first (get_or latches q d) (open_place given q)) n
      (λ q q_in. ap (λ (xs : List (Option Bool)). open_place xs q) is ∙ get_or_append_left state (x ∷ []) None q (omega (arith, h.long, q_in)) ∙ h.each q d q_in)
      (ap (λ (xs : List (Option Bool)). open_place xs n) is ∙ get_or_push state x None n h.long ∙ is_x d) k;
}

pub open_begun_stands : (latches : List Latch) (given state : List (Option Bool)) (n : ℕ) → n ≡ length latches → length given ≡ length latches → OpenBegun latches given state n → (st : List Bool) → Starts latches st → Completes given st → Completes state st
open_begun_stands latches given state n is_n long h st starts c =
    let wide = completes_length given st c in
    completes_each state st (omega (arith, h.long, is_n, long, wide)) (λ k k_in.
    let blank : Latch = record { lit = record { 0 = 0 }; next = record { 0 = 0 }; reset = record { 0 = 0 } } in
    let inside : k < length latches = omega (arith, h.long, is_n, k_in) in
    let one = keeps_first (get_or latches k blank) (open_place given k) (get_or st k false) (starts k inside blank) (completes_at given st k false c (omega (arith, long, inside))) in
    subst (λ (o : Option Bool). Keeps o (get_or st k false)) (sym (h.each k blank (omega (arith, is_n, inside)))) one)

-- ---- the whole replay

pub if_ok : {T E : Type 0} (P Q : T → Type 0) (r : Result T E) → ((x : T) → P x → Q x) → IfOk r P → IfOk r Q
if_ok P Q (Ok x) h p = h x p
if_ok P Q (Err e) h p = tt
