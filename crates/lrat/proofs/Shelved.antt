-- The clauses of a formula, and behind them those of lines.
use Rattle.std.proofs.Common.{◌≡◌, ℕ, zero, suc, ◌+◌, ◌-◌, ◌<◌, ◌≤◌, inl, inr, true, List, [], ◌∷◌, ◌++◌, ℤ, take, drop, length, get_or, set, refl, sym, ◌∙◌, ap, subst, arith, All, Contains}
use Rattle.std.proofs.Math.Seq.{take-append-add, drop-append-add}
use Rattle.std.proofs.lemmas.List.{append_assoc, map-append, length-append, length-map, take_all, take_more, get_or-map, get_or_append_left, get_or-append_right, set-append_right}
use Rattle.std.proofs.lemmas.List.Elements.{All-nil, All-cons, All-push, All-contains, Contains-append_cases, filter-append}
use Rattle.lrat.specs.Layers.{AreFresh}
use Rattle.lrat.specs.Shelves.{slots_from, AreLoose}
use Rattle.lrat.specs.Slots.{Row, Slot, blank, ids_in, live_slots, live_slots_from, IsRising, IsTidied}
use Rattle.lrat.proofs.Rising.{rising_above}
use Rattle.lrat.proofs.Layering.{fresh_none, fresh_next}

-- ---- the formula's slots

pub length_slots : (k : ℕ) (cs : List (List ℤ)) → length (slots_from k cs) ≡ length cs
length_slots k [] = refl
length_slots k (c ∷ cs) = ap suc (length_slots (k + 1) cs)

pub slot_at : (k : ℕ) (cs : List (List ℤ)) (i : ℕ) → i < length cs → get_or (slots_from k cs) i blank ≡ record { id = k + i; live = true; clause = get_or cs i [] }
slot_at k [] i lt = absurd (omega arith)
slot_at k (c ∷ cs) zero lt = ap (λ n. record { id = n; live = true; clause = c }) (let e : k ≡ k + 0 = omega arith in e)
slot_at k (c ∷ cs) (suc i) lt =
    slot_at (k + 1) cs i (omega arith) ∙ ap (λ n. record { id = n; live = true; clause = get_or cs i [] }) (let e : k + 1 + i ≡ k + suc i = omega arith in e)

below_same : (a b : ℕ) (xs : List ℕ) → a ≡ b → All (λ q. q < a) xs → All (λ q. q < b) xs
below_same a b xs is all = λ k d lt. let e = all k d lt in omega (arith, e, is)

ids_below : (k : ℕ) (cs : List (List ℤ)) → All (λ q. q < k + length cs) (ids_in (slots_from k cs))
ids_below k [] = All-nil (λ q. q < k + 0)
ids_below k (c ∷ cs) = All-cons (λ q. q < k + suc (length cs)) k (ids_in (slots_from (k + 1) cs)) (omega arith) (below_same (k + 1 + length cs) (k + suc (length cs)) _ (omega arith) (ids_below (k + 1) cs))

all_live : (k : ℕ) (cs : List (List ℤ)) → live_slots (slots_from k cs) ≡ slots_from k cs
all_live k [] = refl
all_live k (c ∷ cs) = ap (λ (ss : List Slot). record { id = k; live = true; clause = c } ∷ ss) (all_live (k + 1) cs)

pub slots_next : (cs : List (List ℤ)) (i : ℕ) → i < length cs → take (i + 1) (slots_from 1 cs) ≡ take i (slots_from 1 cs) ++ record { id = i + 1; live = true; clause = get_or cs i [] } ∷ []
slots_next cs i lt =
    take_more (slots_from 1 cs) i blank (omega (arith, length_slots 1 cs))
    ∙ ap (λ (s : Slot). take i (slots_from 1 cs) ++ s ∷ []) (slot_at 1 cs i lt ∙ ap (λ n. record { id = n; live = true; clause = get_or cs i [] }) (let e : 1 + i ≡ i + 1 = omega arith in e))

fresh_upto : (cs : List (List ℤ)) (i : ℕ) → i ≤ length cs → AreFresh (take i (slots_from 1 cs)) (take i cs)
fresh_upto cs zero le = fresh_none
fresh_upto cs (suc i) le =
    let before : AreFresh (take i (slots_from 1 cs)) (take i cs) = fresh_upto cs i (omega arith) in
    let next = fresh_next cs i (take i (slots_from 1 cs)) (omega arith) before in
    let e : i + 1 ≡ suc i = omega arith in
    subst (λ n. AreFresh (take n (slots_from 1 cs)) (take n cs)) e (subst (λ (ss : List Slot). AreFresh ss (take (i + 1) cs)) (sym (slots_next cs i (omega arith))) next)

pub fresh_slots : (cs : List (List ℤ)) → AreFresh (slots_from 1 cs) cs
fresh_slots cs =
    let n = length_slots 1 cs in
    subst (λ (ss : List Slot). AreFresh ss cs) (take_all (length cs) (slots_from 1 cs) (omega (arith, n)))
    (subst (λ (ds : List (List ℤ)). AreFresh (take (length cs) (slots_from 1 cs)) ds) (take_all (length cs) cs (omega arith)) (fresh_upto cs (length cs) (omega arith)))

-- ---- behind them others

pub length_shelf : (cs : List (List ℤ)) (ss : List Slot) → length (slots_from 1 cs ++ ss) ≡ length cs + length ss
length_shelf cs ss = length-append (slots_from 1 cs) ss ∙ ap (λ n. n + length ss) (length_slots 1 cs)

pub given_slot : (cs : List (List ℤ)) (ss : List Slot) (i : ℕ) → i < length cs → get_or (slots_from 1 cs ++ ss) i blank ≡ record { id = 1 + i; live = true; clause = get_or cs i [] }
given_slot cs ss i lt = get_or_append_left (slots_from 1 cs) ss blank i (omega (arith, length_slots 1 cs)) ∙ slot_at 1 cs i lt

pub own_slot : (cs : List (List ℤ)) (ss : List Slot) (n i : ℕ) → n ≡ length cs → n ≤ i → get_or (slots_from 1 cs ++ ss) i blank ≡ get_or ss (i - n) blank
own_slot cs ss n i is le = get_or-append_right (slots_from 1 cs) ss n i blank (length_slots 1 cs ∙ sym is) le

own_set : (cs : List (List ℤ)) (ss : List Slot) (n i : ℕ) (s : Slot) → n ≡ length cs → n ≤ i → set (slots_from 1 cs ++ ss) i s ≡ slots_from 1 cs ++ set ss (i - n) s
own_set cs ss n i s is le = set-append_right (slots_from 1 cs) ss n i s (length_slots 1 cs ∙ sym is) le

-- what is made of a slot is put in its place
pub own_change : (f : Slot → Slot) (cs : List (List ℤ)) (ss : List Slot) (n i : ℕ) → n ≡ length cs → n ≤ i
    → slots_from 1 cs ++ set ss (i - n) (f (get_or ss (i - n) blank)) ≡ set (slots_from 1 cs ++ ss) i (f (get_or (slots_from 1 cs ++ ss) i blank))
own_change f cs ss n i is le =
    sym (own_set cs ss n i (f (get_or ss (i - n) blank)) is le) ∙ ap (λ (s : Slot). set (slots_from 1 cs ++ ss) i (f s)) (sym (own_slot cs ss n i is le))

far : (cs : List (List ℤ)) (n i : ℕ) → n ≡ length cs → n ≤ i → i ≡ length (slots_from 1 cs) + (i - n)
far cs n i is le = let m = length_slots 1 cs in omega (arith, m, is, le)

pub own_take : (cs : List (List ℤ)) (ss : List Slot) (n i : ℕ) → n ≡ length cs → n ≤ i → take i (slots_from 1 cs ++ ss) ≡ slots_from 1 cs ++ take (i - n) ss
own_take cs ss n i is le = ap (λ k. take k (slots_from 1 cs ++ ss)) (far cs n i is le) ∙ take-append-add (slots_from 1 cs) ss (i - n)

own_drop : (cs : List (List ℤ)) (ss : List Slot) (n i : ℕ) → n ≡ length cs → n ≤ i → drop i (slots_from 1 cs ++ ss) ≡ drop (i - n) ss
own_drop cs ss n i is le = ap (λ k. drop k (slots_from 1 cs ++ ss)) (far cs n i is le) ∙ drop-append-add (slots_from 1 cs) ss (i - n)

pub shelf_live : (cs : List (List ℤ)) (ss : List Slot) → live_slots (slots_from 1 cs ++ ss) ≡ slots_from 1 cs ++ live_slots ss
shelf_live cs ss = filter-append (λ (s : Slot). s.live) (slots_from 1 cs) ss ∙ ap (λ (ts : List Slot). ts ++ live_slots ss) (all_live 1 cs)

shelf_live_from : (cs : List (List ℤ)) (ss : List Slot) (n i : ℕ) → n ≡ length cs → n ≤ i → live_slots_from i (slots_from 1 cs ++ ss) ≡ slots_from 1 cs ++ live_slots_from (i - n) ss
shelf_live_from cs ss n i is le =
    ap (λ (ts : List Slot). ts ++ live_slots (drop i (slots_from 1 cs ++ ss))) (own_take cs ss n i is le)
    ∙ ap (λ (ts : List Slot). slots_from 1 cs ++ take (i - n) ss ++ live_slots ts) (own_drop cs ss n i is le)
    ∙ append_assoc (slots_from 1 cs) (take (i - n) ss) (live_slots (drop (i - n) ss))

pub shelf_tidied : (cs : List (List ℤ)) (r s : Row) (n i : ℕ) → n ≡ length cs → n ≤ i → IsTidied (i - n) r s
    → IsTidied i (record { vars = r.vars; slots = slots_from 1 cs ++ r.slots }) (record { vars = s.vars; slots = slots_from 1 cs ++ s.slots })
shelf_tidied cs r s n i is le (inl e) = inl (ap (λ (t : Row). record { vars = t.vars; slots = slots_from 1 cs ++ t.slots }) e)
shelf_tidied cs r s n i is le (inr e) =
    inr (ap (λ (t : Row). record { vars = t.vars; slots = slots_from 1 cs ++ t.slots }) e ∙ ap (λ (ts : List Slot). record { vars = r.vars; slots = ts }) (sym (shelf_live_from cs r.slots n i is le)))

-- ---- where an id is

rising_lower : (a b : ℕ) (xs : List ℕ) → a ≤ b → IsRising b xs → IsRising a xs
rising_lower a b [] le r = tt
rising_lower a b (x ∷ xs) le r = (let lt = r.0 in omega arith, r.1)

rising_behind : (a : ℕ) (xs ys : List ℕ) → IsRising a (xs ++ ys) → IsRising a ys
rising_behind a [] ys r = r
rising_behind a (x ∷ xs) ys r = let lt = r.0 in rising_lower a x ys (omega arith) (rising_behind x xs ys r.1)

ids_shelf : (cs : List (List ℤ)) (ss : List Slot) → ids_in (slots_from 1 cs ++ ss) ≡ ids_in (slots_from 1 cs) ++ ids_in ss
ids_shelf cs ss = map-append (λ (s : Slot). s.id) (slots_from 1 cs) ss

length_ids : (cs : List (List ℤ)) → length (ids_in (slots_from 1 cs)) ≡ length cs
length_ids cs = length-map (slots_from 1 cs) (λ (s : Slot). s.id) ∙ length_slots 1 cs

pub own_rising : (cs : List (List ℤ)) (ss : List Slot) → IsRising 0 (ids_in (slots_from 1 cs ++ ss)) → IsRising 0 (ids_in ss)
own_rising cs ss r = rising_behind 0 (ids_in (slots_from 1 cs)) (ids_in ss) (subst (IsRising 0) (ids_shelf cs ss) r)

pub given_id : (cs : List (List ℤ)) (ss : List Slot) (i : ℕ) → i < length cs → get_or (ids_in (slots_from 1 cs ++ ss)) i 0 ≡ 1 + i
given_id cs ss i lt =
    get_or-map (λ (s : Slot). s.id) (slots_from 1 cs ++ ss) i blank 0 (omega (arith, length_shelf cs ss)) ∙ ap (λ (s : Slot). s.id) (given_slot cs ss i lt)

pub own_id : (cs : List (List ℤ)) (ss : List Slot) (n i : ℕ) → n ≡ length cs → get_or (ids_in (slots_from 1 cs ++ ss)) (n + i) 0 ≡ get_or (ids_in ss) i 0
own_id cs ss n i is =
    ap (λ (xs : List ℕ). get_or xs (n + i) 0) (ids_shelf cs ss)
    ∙ get_or-append_right (ids_in (slots_from 1 cs)) (ids_in ss) n (n + i) 0 (length_ids cs ∙ sym is) (omega arith)
    ∙ ap (λ k. get_or (ids_in ss) k 0) (let e : n + i - n ≡ i = omega arith in e)

pub nowhere_else : (cs : List (List ℤ)) (ss : List Slot) (id : ℕ) → length cs < id → (Contains (ids_in ss) id → ⊥) → Contains (ids_in (slots_from 1 cs ++ ss)) id → ⊥
nowhere_else cs ss id above lacks has = elim (Contains-append_cases (ids_in (slots_from 1 cs)) (ids_in ss) id (subst (λ (xs : List ℕ). Contains xs id) (ids_shelf cs ss) has)) [
  | inl front ↦ let lt : id < 1 + length cs = All-contains (λ q. q < 1 + length cs) (ids_in (slots_from 1 cs)) id (ids_below 1 cs) front in omega (arith, lt, above)
  | inr behind ↦ lacks behind
]

zero_lacks : (a : ℕ) (xs : List ℕ) → IsRising a xs → Contains xs 0 → ⊥
zero_lacks a xs r has = let lt = rising_above a xs has.0 0 r has.1 in omega (arith, lt, has.2)

pub no_zero : (ss : List Slot) → IsRising 0 (ids_in ss) → Contains (ids_in ss) 0 → ⊥
no_zero ss r has = zero_lacks 0 (ids_in ss) r has

-- ---- fewer stay as they are

pub loosened : (g h mark : ℕ) (hidden : List ℕ) → h ≤ g → AreLoose g mark hidden → AreLoose h mark hidden
loosened g h mark hidden le old = record {
  shared = let e = old.shared in omega arith;
  loose = λ k d lt. let e = old.loose k d lt in omega arith;
}

pub loosened_more : (h mark : ℕ) (hidden : List ℕ) (i : ℕ) → h ≤ i → AreLoose h mark hidden → AreLoose h mark (hidden ++ i ∷ [])
loosened_more h mark hidden i le old = record { shared = old.shared; loose = All-push (λ k. h ≤ k) hidden i old.loose le }
