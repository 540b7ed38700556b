-- Clauses that were taken out are dropped for good.
use Rattle.std.proofs.Common.{◌≡◌, ℕ, zero, suc, ◌+◌, ◌-◌, ◌≤◌, ◌<◌, Bool, true, false, cond, List, [], ◌∷◌, ◌++◌, All, Contains, Option, None, Some, length, take, drop, get_or, set, ℤ, refl, sym, ◌∙◌, ap, subst, arith, get_or-set_other}
use Rattle.std.proofs.lemmas.List.{append_assoc, append-nil, get_or-drop, get_or_past, length-drop, length-set, take_all, take_more, take_more_set}
use Rattle.std.proofs.lemmas.List.Elements.{All-append, All-cons, All-drop, All-filter, All-head, All-tail, All-take, filter-append, filter_passes}
use Rattle.std.specs.Ordering.{nat_cmp, eq_by_cmp}
use Rattle.lrat.specs.Slots.{Slot, blank, ids_in, live_at, live_of, live_slots, live_slots_from, IsRising}
use Rattle.lrat.specs.Places.{kept_of, kept_at, live_places, live_places_from, AreInOrder, AreInside}
use Rattle.lrat.specs.declared.place.Place.{Place}
use Rattle.lrat.proofs.Maps.{same_key, same_maps}
use Rattle.lrat.proofs.Closing.{EndsBy, by_lt, ends_before, from_lower, order_from}
use Rattle.lrat.proofs.Rising.{found, found_none, get_live, rising_above, state}

-- ---- places

kept_one : (ls : List ℤ) (b : Bool) (p : Place) (ps : List Place) → kept_at ls (cond b (p ∷ ps) ps) ≡ cond b (kept_of ls p ∷ kept_at ls ps) (kept_at ls ps)
kept_one ls true p ps = refl
kept_one ls false p ps = refl

kept_live : (ls : List ℤ) (ps : List Place) → kept_at ls (live_places ps) ≡ live_slots (kept_at ls ps)
kept_live ls [] = refl
kept_live ls (p ∷ ps) =
    kept_one ls p.live p (live_places ps) ∙ ap (λ (ss : List Slot). cond p.live (kept_of ls p ∷ ss) ss) (kept_live ls ps)

order_one : (f : ℕ) (b : Bool) (p : Place) (ps : List Place) → f ≤ p.start → AreInOrder (p.start + p.len) ps → AreInOrder f (cond b (p ∷ ps) ps)
order_one f true p ps le o = (le, o)
order_one f false p ps le o = from_lower f (p.start + p.len) ps (omega arith) o

order_live : (f : ℕ) (ps : List Place) → AreInOrder f ps → AreInOrder f (live_places ps)
order_live f [] o = tt
order_live f (p ∷ ps) o = order_one f p.live p (live_places ps) o.0 (order_live (p.start + p.len) ps o.1)

-- ---- a front that stays, before what is kept of the rest

pub take_front : {X : Type 0} → (n : ℕ) (xs ys : List X) → n ≤ length xs → take n (take n xs ++ ys) ≡ take n xs
take_front zero xs ys le = refl
take_front (suc n) [] ys le = absurd (omega arith)
take_front (suc n) (x ∷ xs) ys le = ap (λ zs. x ∷ zs) (take_front n xs ys (omega arith))

pub drop_front : {X : Type 0} → (n : ℕ) (xs ys : List X) → n ≤ length xs → drop n (take n xs ++ ys) ≡ ys
drop_front zero xs ys le = refl
drop_front (suc n) [] ys le = absurd (omega arith)
drop_front (suc n) (x ∷ xs) ys le = drop_front n xs ys (omega arith)

pub kept_live_from : (ls : List ℤ) (n : ℕ) (ps : List Place) → kept_at ls (live_places_from n ps) ≡ live_slots_from n (kept_at ls ps)
kept_live_from ls zero ps = kept_live ls ps
kept_live_from ls (suc n) [] = refl
kept_live_from ls (suc n) (p ∷ ps) = ap (λ (ss : List Slot). kept_of ls p ∷ ss) (kept_live_from ls n ps)

order_live_from : (f n : ℕ) (ps : List Place) → AreInOrder f ps → AreInOrder f (live_places_from n ps)
order_live_from f zero ps o = order_live f ps o
order_live_from f (suc n) [] o = tt
order_live_from f (suc n) (p ∷ ps) o = (o.0, order_live_from (p.start + p.len) n ps o.1)

pub inside_live_from : (v : ℕ) (ls : List ℤ) (n : ℕ) (ps : List Place) → AreInside v ls ps → AreInside v ls (live_places_from n ps)
inside_live_from v ls n ps are =
    let within : Place → Type 0 = λ (p : Place). p.start + p.len ≤ length ls in
    record {
      inside = All-append within (take n ps) (live_places (drop n ps)) (All-take within n ps are.inside) (All-filter (λ (p : Place). p.live) within (drop n ps) (All-drop within n ps are.inside));
      in_order = order_live_from 0 n ps are.in_order;
      in_range = are.in_range;
    }

-- a place, and where the literals of those before it end, with what is kept behind it
pub before_kept : (n : ℕ) (ps : List Place) (p : Place) → n < length ps → p ≡ get_or ps n p → AreInOrder 0 ps → All (EndsBy p.start) (take n (live_places_from n ps))
before_kept n ps p lt at o =
    subst (All (EndsBy p.start)) (sym (take_front n ps (live_places (drop n ps)) (omega arith)))
    (subst (λ (q : Place). All (EndsBy q.start) (take n ps)) (sym at) (ends_before 0 n ps p lt o))

pub behind_kept : (n : ℕ) (ps : List Place) (p : Place) → n < length ps → p ≡ get_or ps n p → AreInOrder 0 ps → AreInOrder p.start (drop n (live_places_from n ps))
behind_kept n ps p lt at o =
    subst (AreInOrder p.start) (sym (drop_front n ps (live_places (drop n ps)) (omega arith)))
    (order_live p.start (drop n ps) (subst (λ (q : Place). AreInOrder q.start (drop n ps)) (sym at) (order_from 0 n ps p lt o)))

-- ---- the loop that keeps places

-- of the places up to i those that stay are the first k, and the others are as they were
pub record IsKeeping (ps qs : List Place) (first i k : ℕ) : Type 0 where
  pub low : first ≤ k
  pub high : k ≤ i
  pub same_places : length qs ≡ length ps
  pub rest : (j : ℕ) (d : Place) → i ≤ j → get_or qs j d ≡ get_or ps j d
  pub done : take k qs ≡ take first ps ++ live_places (take (i - first) (drop first ps))

pub keeping_none : (ps : List Place) (first : ℕ) → IsKeeping ps ps first first first
keeping_none ps first =
    let none : first - first ≡ 0 = omega arith in
    record {
      low = omega arith;
      high = omega arith;
      same_places = refl;
      rest = λ j d le. refl;
      done = sym (ap (λ (m : ℕ). take first ps ++ live_places (take m (drop first ps))) none ∙ append-nil (take first ps));
    }

one_more : (ps qs : List Place) (first i k : ℕ) (p : Place) → i < length ps → p ≡ get_or qs i p → IsKeeping ps qs first i k
    → live_places (take (i + 1 - first) (drop first ps)) ≡ live_places (take (i - first) (drop first ps)) ++ live_places (p ∷ [])
one_more ps qs first i k p lt at keeps =
    let low : first ≤ k = keeps.low in
    let high : k ≤ i = keeps.high in
    let n : i + 1 - first ≡ i - first + 1 = omega arith in
    let whole : first + (i - first) ≡ i = omega arith in
    let here : get_or (drop first ps) (i - first) p ≡ p = get_or-drop first ps (i - first) p ∙ ap (λ (j : ℕ). get_or ps j p) whole ∙ sym (at ∙ keeps.rest i p (omega arith)) in
    ap (λ (m : ℕ). live_places (take m (drop first ps))) n
    ∙ ap live_places (take_more (drop first ps) (i - first) p (omega (arith, length-drop first ps)) ∙ ap (λ (q : Place). take (i - first) (drop first ps) ++ q ∷ []) here)
    ∙ filter-append (λ (q : Place). q.live) (take (i - first) (drop first ps)) (p ∷ [])

pub keeping_live : (ps qs : List Place) (first i k : ℕ) (p : Place) → i < length ps → p ≡ get_or qs i p → p.live ≡ true → IsKeeping ps qs first i k → IsKeeping ps (set qs k p) first (i + 1) (k + 1)
keeping_live ps qs first i k p lt at on keeps =
    let low : first ≤ k = keeps.low in
    let high : k ≤ i = keeps.high in
    let same : length qs ≡ length ps = keeps.same_places in
    let own : live_places (p ∷ []) ≡ p ∷ [] = ap (λ b. cond b (p ∷ []) []) on in
    record {
      low = omega arith;
      high = omega arith;
      same_places = length-set qs k p ∙ same;
      rest = λ j d le. get_or-set_other qs k j p d (λ e. omega arith) ∙ keeps.rest j d (omega arith);
      done = take_more_set qs k p (omega arith) ∙ ap (λ (xs : List Place). xs ++ p ∷ []) keeps.done
          ∙ append_assoc (take first ps) (live_places (take (i - first) (drop first ps))) (p ∷ [])
          ∙ ap (λ (xs : List Place). take first ps ++ xs) (sym (one_more ps qs first i k p lt at keeps ∙ ap (λ (xs : List Place). live_places (take (i - first) (drop first ps)) ++ xs) own));
    }

pub keeping_dead : (ps qs : List Place) (first i k : ℕ) (p : Place) → i < length ps → p ≡ get_or qs i p → p.live ≡ false → IsKeeping ps qs first i k → IsKeeping ps qs first (i + 1) k
keeping_dead ps qs first i k p lt at off keeps =
    let high : k ≤ i = keeps.high in
    let own : live_places (p ∷ []) ≡ [] = ap (λ b. cond b (p ∷ []) []) off in
    let done : List Place = live_places (take (i - first) (drop first ps)) in
    record {
      low = keeps.low;
      high = omega arith;
      same_places = keeps.same_places;
      rest = λ j d le. keeps.rest j d (omega arith);
      done = keeps.done ∙ ap (λ (xs : List Place). take first ps ++ xs) (sym (one_more ps qs first i k p lt at keeps ∙ ap (λ (xs : List Place). done ++ xs) own ∙ append-nil done));
    }

pub keeping_all : (ps qs : List Place) (first i k : ℕ) → length ps ≤ i → IsKeeping ps qs first i k → take k qs ≡ live_places_from first ps
keeping_all ps qs first i k le keeps =
    keeps.done ∙ ap (λ (xs : List Place). take first ps ++ live_places xs) (take_all (i - first) (drop first ps) (omega (arith, length-drop first ps)))

-- ---- slots

rising_lower : (a b : ℕ) (xs : List ℕ) → a ≤ b → IsRising b xs → IsRising a xs
rising_lower a b [] le r = tt
rising_lower a b (x ∷ xs) le r = (let first = r.0 in omega arith, r.1)

rising_one : (a : ℕ) (b : Bool) (s : Slot) (ss : List Slot) → a < s.id → IsRising s.id (ids_in ss) → IsRising a (ids_in (cond b (s ∷ ss) ss))
rising_one a true s ss lt r = (lt, r)
rising_one a false s ss lt r = rising_lower a s.id (ids_in ss) (omega arith) r

pub rising_live : (a : ℕ) (ss : List Slot) → IsRising a (ids_in ss) → IsRising a (ids_in (live_slots ss))
rising_live a [] r = tt
rising_live a (s ∷ ss) r = rising_one a s.live s (live_slots ss) r.0 (rising_live s.id ss r.1)

all_one : (P : ℕ → Type 0) (b : Bool) (s : Slot) (ss : List Slot) → P s.id → All P (ids_in ss) → All P (ids_in (cond b (s ∷ ss) ss))
all_one P true s ss p all = All-cons P s.id (ids_in ss) p all
all_one P false s ss p all = all

pub all_live : (P : ℕ → Type 0) (ss : List Slot) → All P (ids_in ss) → All P (ids_in (live_slots ss))
all_live P [] all = all
all_live P (s ∷ ss) all = all_one P s.live s (live_slots ss) (All-head P s.id (ids_in ss) all) (all_live P ss (All-tail P s.id (ids_in ss) all))

-- each that is left is live
pub live_everywhere : (ss : List Slot) (i : ℕ) → live_at (live_slots ss) i ≡ true
live_everywhere ss i =
    by_lt i (length (live_slots ss))
    (λ lt. filter_passes (λ (s : Slot). s.live) ss i blank lt)
    (λ ge. ap (λ (s : Slot). s.live) (get_or_past (live_slots ss) i blank ge))

no_state : (e : Bool) (x y : Option (List ℤ)) → x ≡ None → (e ≡ true → y ≡ None) → y ≡ cond e x y
no_state true x y none lacks = lacks refl ∙ sym none
no_state false x y none lacks = refl

found_one : (b : Bool) (s : Slot) (ss : List Slot) (q : ℕ) → s.live ≡ b → (eq_by_cmp nat_cmp q s.id ≡ true → found ss q ≡ None) → found (cond b (s ∷ ss) ss) q ≡ cond (eq_by_cmp nat_cmp q s.id) (state s) (found ss q)
found_one true s ss q on lacks = refl
found_one false s ss q off lacks = no_state (eq_by_cmp nat_cmp q s.id) (state s) (found ss q) (ap (λ b. cond b (Some s.clause) None) off) lacks

lower_lacks : (a : ℕ) (ss : List Slot) (q : ℕ) → IsRising a (ids_in ss) → q ≡ a → Contains (ids_in ss) q → ⊥
lower_lacks a ss q r same has = let above = rising_above a (ids_in ss) has.0 q r has.1 in let here = has.2 in omega arith

found_live : (a : ℕ) (ss : List Slot) (q : ℕ) → IsRising a (ids_in ss) → found (live_slots ss) q ≡ found ss q
found_live a [] q r = refl
found_live a (s ∷ ss) q r =
    found_one s.live s (live_slots ss) q refl (λ e. found_none (live_slots ss) q (lower_lacks s.id (live_slots ss) q (rising_live s.id ss r.1) (same_key q s.id e)))
    ∙ ap (cond (eq_by_cmp nat_cmp q s.id) (state s)) (found_live s.id ss q r.1)

-- the same clauses are live
pub live_same : (ss : List Slot) → IsRising 0 (ids_in ss) → live_of (live_slots ss) ≡ live_of ss
live_same ss r = same_maps _ _ (λ q. get_live (live_slots ss) q ∙ found_live 0 ss q r ∙ sym (get_live ss q))

-- ---- the slots behind a front

pub rising_live_from : (a n : ℕ) (ss : List Slot) → IsRising a (ids_in ss) → IsRising a (ids_in (live_slots_from n ss))
rising_live_from a zero ss r = rising_live a ss r
rising_live_from a (suc n) [] r = tt
rising_live_from a (suc n) (s ∷ ss) r = (r.0, rising_live_from s.id n ss r.1)

pub all_live_from : (P : ℕ → Type 0) (n : ℕ) (ss : List Slot) → All P (ids_in ss) → All P (ids_in (live_slots_from n ss))
all_live_from P zero ss all = all_live P ss all
all_live_from P (suc n) [] all = all
all_live_from P (suc n) (s ∷ ss) all = All-cons P s.id (ids_in (live_slots_from n ss)) (All-head P s.id (ids_in ss) all) (all_live_from P n ss (All-tail P s.id (ids_in ss) all))

found_live_from : (a n : ℕ) (ss : List Slot) (q : ℕ) → IsRising a (ids_in ss) → found (live_slots_from n ss) q ≡ found ss q
found_live_from a zero ss q r = found_live a ss q r
found_live_from a (suc n) [] q r = refl
found_live_from a (suc n) (s ∷ ss) q r = ap (cond (eq_by_cmp nat_cmp q s.id) (state s)) (found_live_from s.id n ss q r.1)

pub live_same_from : (n : ℕ) (ss : List Slot) → IsRising 0 (ids_in ss) → live_of (live_slots_from n ss) ≡ live_of ss
live_same_from n ss r = same_maps _ _ (λ q. get_live (live_slots_from n ss) q ∙ found_live_from 0 n ss q r ∙ sym (get_live ss q))

-- ids that rise up to b are no more than b
pub rising_count : (a b : ℕ) (xs : List ℕ) → IsRising a xs → a ≤ b → All (λ q. q ≤ b) xs → a + length xs ≤ b
rising_count a b [] r le up = omega arith
rising_count a b (x ∷ xs) r le up =
    let rest = rising_count x b xs r.1 (All-head (λ q. q ≤ b) x xs up) (All-tail (λ q. q ≤ b) x xs up) in
    let first = r.0 in
    omega arith
