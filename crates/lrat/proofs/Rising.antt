-- Ids that rise, and the clauses that are live under them.
use Rattle.std.proofs.Common.{◌≡◌, ◌≢◌, ℕ, zero, suc, ◌+◌, ◌<◌, ◌≤◌, Bool, true, false, cond, List, [], ◌∷◌, ◌++◌, Option, None, Some, ℤ, refl, sym, ◌∙◌, ap, subst, arith, All, Contains, length, take, map, get_or, set}
use Rattle.std.proofs.lemmas.List.{get_or-map, length-map, take-map}
use Rattle.std.proofs.lemmas.List.Elements.{All-head, All-tail}
use Rattle.std.proofs.Math.Seq.{map-set_same}
use Rattle.std.specs.Ordering.{nat_cmp, eq_by_cmp}
use Rattle.std.specs.Cmp.{nat_cmp_total}
use Rattle.std.specs.FinMap as fin
use Rattle.lrat.specs.Store.{ById}
use Rattle.lrat.specs.Slots.{Slot, blank, ids_in, live_at, live_of, revived, IsRising}
use Rattle.lrat.specs.Places.{ids_of, kept_at}
use Rattle.lrat.specs.declared.place.Place.{Place}
use Rattle.lrat.proofs.Maps.{same_key, own_key, same_maps}
use Rattle.lrat.proofs.Numbered.{apart_keys}
use Rattle.lrat.proofs.Closing.{by_lt}

-- ---- rising lists

pub rising_above : (a : ℕ) (xs : List ℕ) (i d : ℕ) → IsRising a xs → i < length xs → a < get_or xs i d
rising_above a [] i d r lt = absurd (omega arith)
rising_above a (x ∷ xs) zero d r lt = r.0
rising_above a (x ∷ xs) (suc i) d r lt = let e = rising_above x xs i d r.1 (omega arith) in let f = r.0 in omega arith

pub rising_pair : (a : ℕ) (xs : List ℕ) (i j d : ℕ) → IsRising a xs → i < j → j < length xs → get_or xs i d < get_or xs j d
rising_pair a [] i j d r lt fits = absurd (omega arith)
rising_pair a (x ∷ xs) i zero d r lt fits = absurd (omega arith)
rising_pair a (x ∷ xs) zero (suc j) d r lt fits = rising_above x xs j d r.1 (omega arith)
rising_pair a (x ∷ xs) (suc i) (suc j) d r lt fits = rising_pair x xs i j d r.1 (omega arith) (omega arith)

pub rising_push : (a : ℕ) (xs : List ℕ) (x : ℕ) → IsRising a xs → a < x → All (λ y. y < x) xs → IsRising a (xs ++ x ∷ [])
rising_push a [] x r lt all = (lt, tt)
rising_push a (y ∷ ys) x r lt all = (r.0, rising_push y ys x r.1 (All-head (λ y. y < x) y ys all) (All-tail (λ y. y < x) y ys all))

pub rising_take : (a n : ℕ) (xs : List ℕ) → IsRising a xs → IsRising a (take n xs)
rising_take a zero xs r = tt
rising_take a (suc n) [] r = tt
rising_take a (suc n) (x ∷ xs) r = (r.0, rising_take x n xs r.1)

-- ---- a search by halving

pub id_here : (ps : List Place) (m : ℕ) (d : Place) → m < length ps → get_or (ids_of ps) m 0 ≡ (get_or ps m d).id
id_here ps m d lt = get_or-map (λ (p : Place). p.id) ps m d 0 lt

pub below_middle : (ps : List Place) (m id : ℕ) (d : Place) → IsRising 0 (ids_of ps) → m < length ps → (get_or ps m d).id < id → (k : ℕ) → k < m + 1 → get_or (ids_of ps) k 0 < id
below_middle ps m id d r fits here k lt =
    let e = id_here ps m d fits in
    by_lt k m
    (λ less. let f = rising_pair 0 (ids_of ps) k m 0 r less (omega (arith, length-map ps (λ (p : Place). p.id))) in omega arith)
    (λ ge. let same : k ≡ m = omega arith in subst (λ j. get_or (ids_of ps) j 0 < id) (sym same) (omega arith))

pub above_middle : (ps : List Place) (m id : ℕ) (d : Place) → IsRising 0 (ids_of ps) → m < length ps → id < (get_or ps m d).id → (k : ℕ) → m ≤ k → k < length ps → id < get_or (ids_of ps) k 0
above_middle ps m id d r fits here k le lt =
    let e = id_here ps m d fits in
    by_lt m k
    (λ less. let f = rising_pair 0 (ids_of ps) m k 0 r less (omega (arith, length-map ps (λ (p : Place). p.id))) in omega arith)
    (λ ge. let same : k ≡ m = omega arith in subst (λ j. id < get_or (ids_of ps) j 0) (sym same) (omega arith))

get_or_inside : (xs : List ℕ) (i d e : ℕ) → i < length xs → get_or xs i d ≡ get_or xs i e
get_or_inside [] i d e lt = absurd (omega arith)
get_or_inside (x ∷ xs) zero d e lt = refl
get_or_inside (x ∷ xs) (suc i) d e lt = get_or_inside xs i d e (omega arith)

pub nowhere : (ps : List Place) (low high id : ℕ) → high ≤ low → ((k : ℕ) → k < low → get_or (ids_of ps) k 0 < id) → ((k : ℕ) → high ≤ k → k < length ps → id < get_or (ids_of ps) k 0) → Contains (ids_of ps) id → ⊥
nowhere ps low high id le below above has =
    let fits : has.0 < length ps = omega (arith, has.1, length-map ps (λ (p : Place). p.id)) in
    let here : get_or (ids_of ps) has.0 0 ≡ id = get_or_inside (ids_of ps) has.0 0 id has.1 ∙ has.2 in
    by_lt has.0 low (λ less. let f = below has.0 less in omega arith) (λ ge. let f = above has.0 (omega arith) fits in omega arith)

pub ids_kept : (ls : List ℤ) (ps : List Place) → ids_in (kept_at ls ps) ≡ ids_of ps
ids_kept ls [] = refl
ids_kept ls (p ∷ ps) = ap (λ (xs : List ℕ). p.id ∷ xs) (ids_kept ls ps)

-- ---- which clause is live

abbrev pub state : Slot → Option (List ℤ)
state s = cond s.live (Some s.clause) None

abbrev pub found : List Slot → ℕ → Option (List ℤ)
found [] q = None
found (s ∷ ss) q = cond (eq_by_cmp nat_cmp q s.id) (state s) (found ss q)

put_live : (b : Bool) (m : ById) (id : ℕ) (c : List ℤ) (q : ℕ) → fin.get (cond b (fin.insert m id c) (fin.remove m id)) q ≡ cond (eq_by_cmp nat_cmp q id) (cond b (Some c) None) (fin.get m q)
put_live true m id c q = fin.get-insert nat_cmp_total m id c q
put_live false m id c q = fin.get-remove nat_cmp_total m id q

pub get_live : (ss : List Slot) (q : ℕ) → fin.get (live_of ss) q ≡ found ss q
get_live [] q = fin.get-empty nat_cmp q
get_live (s ∷ ss) q = put_live s.live (live_of ss) s.id s.clause q ∙ ap (cond (eq_by_cmp nat_cmp q s.id) (state s)) (get_live ss q)

above_slot : (a : ℕ) (ss : List Slot) (i : ℕ) → IsRising a (ids_in ss) → i < length ss → a < (get_or ss i blank).id
above_slot a [] i r lt = absurd (omega arith)
above_slot a (s ∷ ss) zero r lt = r.0
above_slot a (s ∷ ss) (suc i) r lt = let e = above_slot s.id ss i r.1 (omega arith) in let f = r.0 in omega arith

not_same : (a b : ℕ) → a < b → b ≢ a
not_same a b lt e = omega arith

found_slot : (a : ℕ) (ss : List Slot) (i : ℕ) → IsRising a (ids_in ss) → i < length ss → found ss (get_or ss i blank).id ≡ state (get_or ss i blank)
found_slot a [] i r lt = absurd (omega arith)
found_slot a (s ∷ ss) zero r lt = ap (λ b. cond b (state s) (found ss s.id)) (own_key s.id)
found_slot a (s ∷ ss) (suc i) r lt =
    ap (λ b. cond b (state s) (found ss (get_or ss i blank).id)) (apart_keys (get_or ss i blank).id s.id (not_same s.id (get_or ss i blank).id (above_slot s.id ss i r.1 (omega arith))))
    ∙ found_slot s.id ss i r.1 (omega arith)

pub found_none : (ss : List Slot) (q : ℕ) → (Contains (ids_in ss) q → ⊥) → found ss q ≡ None
found_none [] q lacks = refl
found_none (s ∷ ss) q lacks =
    ap (λ b. cond b (state s) (found ss q)) (apart_keys q s.id (λ e. lacks (0, omega arith, sym e)))
    ∙ found_none ss q (λ has. lacks (suc has.0, (let lt = has.1 in omega arith), has.2))

exchange : (p e : Bool) (x y z : Option (List ℤ)) → (p ≡ true → e ≡ true → ⊥) → cond p x (cond e y z) ≡ cond e y (cond p x z)
exchange true true x y z lacks = absurd (lacks refl refl)
exchange true false x y z lacks = refl
exchange false e x y z lacks = refl

twice : (e : Bool) (x y z : Option (List ℤ)) → cond e x z ≡ cond e x (cond e y z)
twice true x y z = refl
twice false x y z = refl

apart : (q a b : ℕ) → a ≢ b → eq_by_cmp nat_cmp q a ≡ true → eq_by_cmp nat_cmp q b ≡ true → ⊥
apart q a b ne e f = ne (sym (same_key q a e) ∙ same_key q b f)

found_push : (ss : List Slot) (s : Slot) (q : ℕ) → (Contains (ids_in ss) s.id → ⊥) → found (ss ++ s ∷ []) q ≡ cond (eq_by_cmp nat_cmp q s.id) (state s) (found ss q)
found_push [] s q lacks = refl
found_push (r ∷ ss) s q lacks =
    ap (cond (eq_by_cmp nat_cmp q r.id) (state r)) (found_push ss s q (λ has. lacks (suc has.0, (let lt = has.1 in omega arith), has.2)))
    ∙ exchange (eq_by_cmp nat_cmp q r.id) (eq_by_cmp nat_cmp q s.id) (state r) (state s) (found ss q) (apart q r.id s.id (λ e. lacks (0, omega arith, e)))

found_set : (a : ℕ) (ss : List Slot) (i : ℕ) (s : Slot) (q : ℕ) → IsRising a (ids_in ss) → i < length ss → s.id ≡ (get_or ss i blank).id → found (set ss i s) q ≡ cond (eq_by_cmp nat_cmp q s.id) (state s) (found ss q)
found_set a [] i s q r lt e = absurd (omega arith)
found_set a (t ∷ ss) zero s q r lt e =
    twice (eq_by_cmp nat_cmp q s.id) (state s) (state t) (found ss q)
    ∙ ap (λ (k : ℕ). cond (eq_by_cmp nat_cmp q s.id) (state s) (cond (eq_by_cmp nat_cmp q k) (state t) (found ss q))) e
found_set a (t ∷ ss) (suc i) s q r lt e =
    let above : t.id < (get_or ss i blank).id = above_slot t.id ss i r.1 (omega arith) in
    ap (cond (eq_by_cmp nat_cmp q t.id) (state t)) (found_set t.id ss i s q r.1 (omega arith) e)
    ∙ exchange (eq_by_cmp nat_cmp q t.id) (eq_by_cmp nat_cmp q s.id) (state t) (state s) (found ss q) (apart q t.id s.id (λ f. omega arith))

-- ---- what each change does

-- the clause at an index, where it is live
pub live_here : (ss : List Slot) (i id : ℕ) → IsRising 0 (ids_in ss) → i < length ss → get_or (ids_in ss) i 0 ≡ id → fin.get (live_of ss) id ≡ state (get_or ss i blank)
live_here ss i id r lt e =
    let f : (get_or ss i blank).id ≡ id = sym (get_or-map (λ (s : Slot). s.id) ss i blank 0 lt) ∙ e in
    get_live ss id ∙ ap (found ss) (sym f) ∙ found_slot 0 ss i r lt

-- an id that no slot has
pub live_nowhere : (ss : List Slot) (id : ℕ) → (Contains (ids_in ss) id → ⊥) → fin.get (live_of ss) id ≡ None
live_nowhere ss id lacks = get_live ss id ∙ found_none ss id lacks

pub live_push : (ss : List Slot) (id : ℕ) (c : List ℤ) → (Contains (ids_in ss) id → ⊥) → live_of (ss ++ record { id = id; live = true; clause = c } ∷ []) ≡ fin.insert (live_of ss) id c
live_push ss id c lacks = same_maps _ _ (λ q.
    get_live (ss ++ record { id = id; live = true; clause = c } ∷ []) q ∙ found_push ss (record { id = id; live = true; clause = c }) q lacks
    ∙ ap (cond (eq_by_cmp nat_cmp q id) (Some c)) (sym (get_live ss q)) ∙ sym (fin.get-insert nat_cmp_total (live_of ss) id c q))

pub live_gone : (ss : List Slot) (i id : ℕ) (s : Slot) → IsRising 0 (ids_in ss) → i < length ss → get_or (ids_in ss) i 0 ≡ id → s.id ≡ (get_or ss i blank).id → s.live ≡ false → live_of (set ss i s) ≡ fin.remove (live_of ss) id
live_gone ss i id s r lt e own off =
    let f : s.id ≡ id = own ∙ sym (get_or-map (λ (s : Slot). s.id) ss i blank 0 lt) ∙ e in
    same_maps _ _ (λ q.
    get_live (set ss i s) q ∙ found_set 0 ss i s q r lt own
    ∙ ap (λ (k : ℕ). cond (eq_by_cmp nat_cmp q k) (state s) (found ss q)) f
    ∙ ap (λ b. cond (eq_by_cmp nat_cmp q id) (cond b (Some s.clause) None) (found ss q)) off
    ∙ ap (cond (eq_by_cmp nat_cmp q id) None) (sym (get_live ss q)) ∙ sym (fin.get-remove nat_cmp_total (live_of ss) id q))

-- all are live
pub revived_all : (ss : List Slot) → ((i : ℕ) → live_at ss i ≡ true) → map revived ss ≡ ss
revived_all [] all = refl
revived_all (s ∷ ss) all =
    let e : s.live ≡ true = all 0 in
    let f : map revived ss ≡ ss = revived_all ss (λ i. all (suc i)) in
    λ i. record { id = s.id; live = sym e i; clause = s.clause } ∷ f i

-- a mark changes nothing else
pub revived_set : (ss : List Slot) (n i : ℕ) (b : Bool) → map revived (take n (set ss i (record { id = (get_or ss i blank).id; live = b; clause = (get_or ss i blank).clause }))) ≡ map revived (take n ss)
revived_set ss n i b =
    let s : Slot = record { id = (get_or ss i blank).id; live = b; clause = (get_or ss i blank).clause } in
    sym (take-map revived n (set ss i s)) ∙ ap (take n) (map-set_same revived ss i s blank refl) ∙ take-map revived n ss
