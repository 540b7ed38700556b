-- What each change of the clauses in a `Stack` does to the shared ones and to those that are present.
use Rattle.std.proofs.Common.{◌≡◌, ◌≢◌, ℕ, zero, suc, ◌+◌, ◌<◌, ◌≤◌, Bool, true, false, List, [], ◌∷◌, ◌++◌, ℤ, refl, sym, ◌∙◌, ap, subst, arith, inl, inr, ◌⊎◌, All, Contains, length, take, drop, map, get_or, set, get_or-set_other}
use Rattle.std.proofs.lemmas.List.{take_all, take-map, take-append-le, take-set-le, map-append, length-append, length-map, length_push, length-set, length-take-le, get_or-take, get_or_past, get_or-set_same}
use Rattle.std.proofs.lemmas.List.Elements.{All-contains, All-nil, All-push, All-take, Contains-push, Contains-push_cases, Contains-append_left}
use Rattle.std.proofs.Math.Seq.{map-set_same}
use Rattle.std.specs.FinMap as fin
use Rattle.lrat.specs.Store.{ById}
use Rattle.lrat.specs.Slots.{Slot, Row, blank, ids_in, live_at, live_of, live_slots, live_slots_from, revived, IsRising, IsTidied}
use Rattle.lrat.specs.Layers.{layers_of, bare, AreLayered, AreFresh}
use Rattle.lrat.specs.Proofs.{numbered_from}
use Rattle.lrat.proofs.Numbered.{take_next, numbered_next}
use Rattle.lrat.proofs.Closing.{by_lt}
use Rattle.lrat.proofs.Kept.{all_live, all_live_from, live_everywhere, live_same, live_same_from, rising_count, rising_live, rising_live_from, take_front}
use Rattle.lrat.proofs.Rising.{rising_push, rising_take, live_push, revived_all}

-- ---- slots one by one

above_all : (xs : List ℕ) (top id : ℕ) → All (λ q. q ≤ top) xs → top < id → Contains xs id → ⊥
above_all xs top id up lt has = let le : id ≤ top = All-contains (λ q. q ≤ top) xs id up has in omega arith

higher : (xs : List ℕ) (a b : ℕ) → a ≤ b → All (λ q. q ≤ a) xs → All (λ q. q ≤ b) xs
higher xs a b le up = λ k d lt. let u = up k d lt in omega arith

ids_push : (ss : List Slot) (s : Slot) → ids_in (ss ++ s ∷ []) ≡ ids_in ss ++ s.id ∷ []
ids_push ss s = map-append (λ (t : Slot). t.id) ss (s ∷ [])

ids_set : (ss : List Slot) (i : ℕ) (s : Slot) → s.id ≡ (get_or ss i blank).id → ids_in (set ss i s) ≡ ids_in ss
ids_set ss i s e = map-set_same (λ (t : Slot). t.id) ss i s blank e

ids_revived : (ss : List Slot) → ids_in (map revived ss) ≡ ids_in ss
ids_revived [] = refl
ids_revived (s ∷ ss) = ap (λ (xs : List ℕ). s.id ∷ xs) (ids_revived ss)

live_push_at : (ss : List Slot) (s : Slot) (i : ℕ) → s.live ≡ true → live_at ss i ≡ true → live_at (ss ++ s ∷ []) i ≡ true
live_push_at [] s zero on e = on
live_push_at [] s (suc i) on e = refl
live_push_at (t ∷ ss) s zero on e = e
live_push_at (t ∷ ss) s (suc i) on e = live_push_at ss s i on e

live_push_below : (ss : List Slot) (s : Slot) (i : ℕ) → i < length ss → live_at (ss ++ s ∷ []) i ≡ live_at ss i
live_push_below [] s i lt = absurd (omega arith)
live_push_below (t ∷ ss) s zero lt = refl
live_push_below (t ∷ ss) s (suc i) lt = live_push_below ss s i (omega arith)

-- ---- a formula's clauses as they come

pub fresh_none : AreFresh [] []
fresh_none = record { present = refl; number = refl; rising = tt; up = All-nil (λ q. q ≤ 0); live = λ i. refl }

pub fresh_next : (cs : List (List ℤ)) (i : ℕ) (ss : List Slot) → i < length cs → AreFresh ss (take i cs) → AreFresh (ss ++ record { id = i + 1; live = true; clause = get_or cs i [] } ∷ []) (take (i + 1) cs)
fresh_next cs i ss lt f =
    let s : Slot = record { id = i + 1; live = true; clause = get_or cs i [] } in
    let n : length (take i cs) ≡ i = length-take-le i cs (omega arith) in
    let more : length (take (i + 1) cs) ≡ i + 1 = length-take-le (i + 1) cs (omega arith) in
    let up : All (λ q. q ≤ i) (ids_in ss) = higher (ids_in ss) (length (take i cs)) i (omega arith) f.up in
    record {
      present = live_push ss (i + 1) (get_or cs i []) (above_all (ids_in ss) i (i + 1) up (omega arith)) ∙ numbered_next cs i (live_of ss) lt f.present;
      number = length_push ss s ∙ (let e = f.number in omega arith);
      rising = subst (IsRising 0) (sym (ids_push ss s)) (rising_push 0 (ids_in ss) (i + 1) f.rising (omega arith) (λ k d lk. let u = up k d lk in omega arith));
      up = subst (All (λ q. q ≤ length (take (i + 1) cs))) (sym (ids_push ss s)) (All-push (λ q. q ≤ length (take (i + 1) cs)) (ids_in ss) (i + 1) (higher (ids_in ss) i (length (take (i + 1) cs)) (omega arith) up) (omega arith));
      live = λ k. live_push_at ss s k refl (f.live k);
    }

pub fresh_layered : (ss : List Slot) (cs : List (List ℤ)) (hidden : List ℕ) → AreFresh ss cs → hidden ≡ [] → AreLayered ss (length cs) (length cs) hidden (length cs)
fresh_layered ss cs hidden f none = record {
  low = omega arith;
  shared = let e = f.number in omega arith;
  rising = f.rising;
  up = f.up;
  shared_up = All-take (λ q. q ≤ length cs) (length cs) (ids_in ss) f.up;
  within = subst (All (λ i. i < length cs)) (sym none) (All-nil (λ i. i < length cs));
  listed = λ i lt off. absurd (let e : true ≡ false = sym (f.live i) ∙ off in cc);
}

pub fresh_layers : (r : Row) (cs : List (List ℤ)) → AreFresh r.slots cs → layers_of r (length cs) (length cs) (length cs) ≡ bare (record { vars = r.vars; present = numbered_from 1 cs fin.empty; top = length cs })
fresh_layers r cs f =
    let whole : take (length cs) r.slots ≡ r.slots = take_all (length cs) r.slots (let e = f.number in omega arith) in
    let same : live_of (map revived (take (length cs) r.slots)) ≡ numbered_from 1 cs fin.empty = ap (λ (ss : List Slot). live_of (map revived ss)) whole ∙ ap live_of (revived_all r.slots f.live) ∙ f.present in
    λ i. record { base = record { vars = r.vars; present = same i; top = length cs }; present = f.present i; top = length cs }

-- ---- a stack after a change of its slots

pub changed_layers : (r s : Row) (mark last top new : ℕ) (m : ById) → s.vars ≡ r.vars → map revived (take mark s.slots) ≡ map revived (take mark r.slots) → live_of s.slots ≡ m → layers_of s mark last new ≡ record { base = (layers_of r mark last top).base; present = m; top = new }
changed_layers r s mark last top new m v sh pr = λ i. record { base = record { vars = v i; present = live_of (sh i); top = last }; present = pr i; top = new }

-- a clause of the refutation's own is added
pub added_layered : (ss : List Slot) (mark last : ℕ) (hidden : List ℕ) (top id : ℕ) (c : List ℤ) → AreLayered ss mark last hidden top → top < id → AreLayered (ss ++ record { id = id; live = true; clause = c } ∷ []) mark last hidden id
added_layered ss mark last hidden top id c old lt =
    let s : Slot = record { id = id; live = true; clause = c } in
    let low = old.low in
    let shared : mark ≤ length ss = old.shared in
    let e : ids_in (ss ++ s ∷ []) ≡ ids_in ss ++ id ∷ [] = ids_push ss s in
    let n : length (ids_in ss) ≡ length ss = length-map ss (λ (t : Slot). t.id) in
    record {
      low = omega (arith, low, lt);
      shared = omega (arith, length_push ss s);
      rising = subst (IsRising 0) (sym e) (rising_push 0 (ids_in ss) id old.rising (omega arith) (λ k d lk. let u = old.up k d lk in omega arith));
      up = subst (All (λ q. q ≤ id)) (sym e) (All-push (λ q. q ≤ id) (ids_in ss) id (higher (ids_in ss) top id (omega arith) old.up) (omega arith));
      shared_up = subst (All (λ q. q ≤ last)) (sym (ap (take mark) e ∙ take-append-le mark (ids_in ss) (id ∷ []) (omega arith))) old.shared_up;
      within = old.within;
      listed = λ i li off. old.listed i li (sym (live_push_below ss s i (omega arith)) ∙ off);
    }

pub added_shared : (ss : List Slot) (mark last : ℕ) (hidden : List ℕ) (top : ℕ) (s : Slot) → AreLayered ss mark last hidden top → map revived (take mark (ss ++ s ∷ [])) ≡ map revived (take mark ss)
added_shared ss mark last hidden top s old = ap (map revived) (take-append-le mark ss (s ∷ []) old.shared)

pub added_present : (ss : List Slot) (mark last : ℕ) (hidden : List ℕ) (top id : ℕ) (c : List ℤ) → AreLayered ss mark last hidden top → top < id → live_of (ss ++ record { id = id; live = true; clause = c } ∷ []) ≡ fin.insert (live_of ss) id c
added_present ss mark last hidden top id c old lt = live_push ss id c (above_all (ids_in ss) top id old.up lt)

-- a shared clause is taken out for now
pub hidden_layered : (ss : List Slot) (mark last : ℕ) (hidden : List ℕ) (top i : ℕ) (s : Slot) → AreLayered ss mark last hidden top → i < mark → s.id ≡ (get_or ss i blank).id → AreLayered (set ss i s) mark last (hidden ++ i ∷ []) top
hidden_layered ss mark last hidden top i s old lt same =
    let e : ids_in (set ss i s) ≡ ids_in ss = ids_set ss i s same in
    let shared : mark ≤ length ss = old.shared in
    record {
      low = old.low;
      shared = omega (arith, length-set ss i s);
      rising = subst (IsRising 0) (sym e) old.rising;
      up = subst (All (λ q. q ≤ top)) (sym e) old.up;
      shared_up = subst (λ xs. All (λ q. q ≤ last) (take mark xs)) (sym e) old.shared_up;
      within = All-push (λ k. k < mark) hidden i old.within lt;
      listed = λ k lk off.
          by_lt k i (λ less. others k lk off (λ f. omega arith))
          (λ ge. by_lt i k (λ more. others k lk off (λ f. omega arith)) (λ le. let at : k ≡ i = omega arith in subst (Contains (hidden ++ i ∷ [])) (sym at) (Contains-push hidden i)));
    }
  where
    others : (k : ℕ) → k < mark → live_at (set ss i s) k ≡ false → k ≢ i → Contains (hidden ++ i ∷ []) k
    others k lk off ne = Contains-append_left hidden (i ∷ []) k (old.listed k lk (ap (λ (t : Slot). t.live) (sym (get_or-set_other ss i k s blank ne)) ∙ off))

-- a clause of the refutation's own is taken out
pub dropped_layered : (ss : List Slot) (mark last : ℕ) (hidden : List ℕ) (top i : ℕ) (s : Slot) → AreLayered ss mark last hidden top → mark ≤ i → s.id ≡ (get_or ss i blank).id → AreLayered (set ss i s) mark last hidden top
dropped_layered ss mark last hidden top i s old le same =
    let e : ids_in (set ss i s) ≡ ids_in ss = ids_set ss i s same in
    let shared : mark ≤ length ss = old.shared in
    record {
      low = old.low;
      shared = omega (arith, length-set ss i s);
      rising = subst (IsRising 0) (sym e) old.rising;
      up = subst (All (λ q. q ≤ top)) (sym e) old.up;
      shared_up = subst (λ xs. All (λ q. q ≤ last) (take mark xs)) (sym e) old.shared_up;
      within = old.within;
      listed = λ k lk off. old.listed k lk (ap (λ (t : Slot). t.live) (sym (get_or-set_other ss i k s blank (λ f. omega arith))) ∙ off);
    }

pub dropped_shared : (ss : List Slot) (mark i : ℕ) (s : Slot) → mark ≤ i → map revived (take mark (set ss i s)) ≡ map revived (take mark ss)
dropped_shared ss mark i s le = ap (map revived) (take-set-le mark ss i s le)

-- ---- dead slots behind the shared ones are closed up

tidied_vars : (n : ℕ) (r s : Row) → IsTidied n r s → s.vars ≡ r.vars
tidied_vars n r s (inl e) = ap (λ (t : Row). t.vars) e
tidied_vars n r s (inr e) = ap (λ (t : Row). t.vars) e

tidied_front : (n : ℕ) (r s : Row) → n ≤ length r.slots → IsTidied n r s → take n s.slots ≡ take n r.slots
tidied_front n r s le (inl e) = ap (λ (t : Row). take n t.slots) e
tidied_front n r s le (inr e) = ap (λ (t : Row). take n t.slots) e ∙ take_front n r.slots (live_slots (drop n r.slots)) le

tidied_live : (n : ℕ) (r s : Row) → IsRising 0 (ids_in r.slots) → IsTidied n r s → live_of s.slots ≡ live_of r.slots
tidied_live n r s rising (inl e) = ap (λ (t : Row). live_of t.slots) e
tidied_live n r s rising (inr e) = ap (λ (t : Row). live_of t.slots) e ∙ live_same_from n r.slots rising

closed_layered : (ss : List Slot) (mark last : ℕ) (hidden : List ℕ) (top : ℕ) → AreLayered ss mark last hidden top → AreLayered (live_slots_from mark ss) mark last hidden top
closed_layered ss mark last hidden top old =
    let ts : List Slot = live_slots_from mark ss in
    let front : take mark ts ≡ take mark ss = take_front mark ss (live_slots (drop mark ss)) old.shared in
    let n : length (take mark ss) ≡ mark = length-take-le mark ss old.shared in
    let ids : take mark (ids_in ts) ≡ take mark (ids_in ss) = take-map (λ (t : Slot). t.id) mark ts ∙ ap ids_in front ∙ sym (take-map (λ (t : Slot). t.id) mark ss) in
    record {
      low = old.low;
      shared = omega (arith, length-append (take mark ss) (live_slots (drop mark ss)));
      rising = rising_live_from 0 mark ss old.rising;
      up = all_live_from (λ q. q ≤ top) mark ss old.up;
      shared_up = subst (All (λ q. q ≤ last)) (sym ids) old.shared_up;
      within = old.within;
      listed = λ i lt off. old.listed i lt
          (ap (λ (t : Slot). t.live) (sym (get_or-take mark ss i blank lt) ∙ ap (λ (us : List Slot). get_or us i blank) (sym front) ∙ get_or-take mark ts i blank lt) ∙ off);
    }

pub tidied_layered : (r s : Row) (mark last : ℕ) (hidden : List ℕ) (top : ℕ) → IsTidied mark r s → AreLayered r.slots mark last hidden top → AreLayered s.slots mark last hidden top
tidied_layered r s mark last hidden top (inl e) old = subst (λ (t : Row). AreLayered t.slots mark last hidden top) (sym e) old
tidied_layered r s mark last hidden top (inr e) old = subst (λ (t : Row). AreLayered t.slots mark last hidden top) (sym e) (closed_layered r.slots mark last hidden top old)

pub tidied_layers : (r s : Row) (mark last : ℕ) (hidden : List ℕ) (top : ℕ) → IsTidied mark r s → AreLayered r.slots mark last hidden top → layers_of s mark last top ≡ layers_of r mark last top
tidied_layers r s mark last hidden top tidied old =
    changed_layers r s mark last top top (live_of r.slots) (tidied_vars mark r s tidied)
    (ap (map revived) (tidied_front mark r s old.shared tidied)) (tidied_live mark r s old.rising tidied)

-- ---- back to the shared clauses

rewound_live : (ss now : List Slot) (mark last : ℕ) (hidden : List ℕ) (top : ℕ) → AreLayered ss mark last hidden top
    → ((i : ℕ) → live_at (take mark ss) i ≡ true ⊎ Contains hidden i → live_at now i ≡ true) → (i : ℕ) → live_at now i ≡ true
rewound_live ss now mark last hidden top old live i =
    by_lt i mark
    (λ lt. elim (live_at ss i) as (λ b. live_at ss i ≡ b → live_at now i ≡ true) [
      | true ↦ λ e. live i (inl (ap (λ (t : Slot). t.live) (get_or-take mark ss i blank lt) ∙ e))
      | false ↦ λ e. live i (inr (old.listed i lt e))
    ] refl)
    (λ ge. live i (inl (ap (λ (t : Slot). t.live) (get_or_past (take mark ss) i blank (let n : length (take mark ss) ≡ mark = length-take-le mark ss old.shared in omega arith)))))

pub rewound_slots : (ss now : List Slot) (mark last : ℕ) (hidden : List ℕ) (top : ℕ) → AreLayered ss mark last hidden top → map revived now ≡ map revived (take mark ss)
    → ((i : ℕ) → live_at (take mark ss) i ≡ true ⊎ Contains hidden i → live_at now i ≡ true) → now ≡ map revived (take mark ss)
rewound_slots ss now mark last hidden top old same live = sym (revived_all now (rewound_live ss now mark last hidden top old live)) ∙ same

pub rewound_layered : (ss now : List Slot) (mark last : ℕ) (hidden left : List ℕ) (top : ℕ) → AreLayered ss mark last hidden top → map revived now ≡ map revived (take mark ss)
    → ((i : ℕ) → live_at (take mark ss) i ≡ true ⊎ Contains hidden i → live_at now i ≡ true) → left ≡ [] → AreLayered now mark last left last
rewound_layered ss now mark last hidden left top old same live none =
    let is : now ≡ map revived (take mark ss) = rewound_slots ss now mark last hidden top old same live in
    let ids : ids_in now ≡ take mark (ids_in ss) = ap ids_in is ∙ ids_revived (take mark ss) ∙ sym (take-map (λ (t : Slot). t.id) mark ss) in
    let n : length now ≡ mark = ap length is ∙ length-map (take mark ss) revived ∙ length-take-le mark ss old.shared in
    let up : All (λ q. q ≤ last) (ids_in now) = subst (All (λ q. q ≤ last)) (sym ids) old.shared_up in
    record {
      low = omega arith;
      shared = omega arith;
      rising = subst (IsRising 0) (sym ids) (rising_take 0 mark (ids_in ss) old.rising);
      up = up;
      shared_up = All-take (λ q. q ≤ last) mark (ids_in now) up;
      within = subst (All (λ i. i < mark)) (sym none) (All-nil (λ i. i < mark));
      listed = λ i lt off. absurd (let e : true ≡ false = sym (rewound_live ss now mark last hidden top old live i) ∙ off in cc);
    }

twice_revived : (ss : List Slot) → map revived (map revived ss) ≡ map revived ss
twice_revived [] = refl
twice_revived (s ∷ ss) = ap (λ (ts : List Slot). revived s ∷ ts) (twice_revived ss)

pub rewound_layers : (r s : Row) (mark last : ℕ) (hidden : List ℕ) (top : ℕ) → AreLayered r.slots mark last hidden top → s.vars ≡ r.vars → map revived s.slots ≡ map revived (take mark r.slots)
    → ((i : ℕ) → live_at (take mark r.slots) i ≡ true ⊎ Contains hidden i → live_at s.slots i ≡ true) → layers_of s mark last last ≡ bare (layers_of r mark last top).base
rewound_layers r s mark last hidden top old v same live =
    let is : s.slots ≡ map revived (take mark r.slots) = rewound_slots r.slots s.slots mark last hidden top old same live in
    let n : length s.slots ≡ mark = ap length is ∙ length-map (take mark r.slots) revived ∙ length-take-le mark r.slots old.shared in
    changed_layers r s mark last top last (live_of (map revived (take mark r.slots))) v (ap (map revived) (take_all mark s.slots (omega arith)) ∙ same) (ap live_of is)

-- ---- what is present is shared from now on

-- the live slots are no more than the greatest id
pub few_live : (ss : List Slot) (mark last : ℕ) (hidden : List ℕ) (top : ℕ) → AreLayered ss mark last hidden top → length (live_slots ss) ≤ top
few_live ss mark last hidden top old =
    let count = rising_count 0 top (ids_in (live_slots ss)) (rising_live 0 ss old.rising) (omega arith) (all_live (λ q. q ≤ top) ss old.up) in
    omega (arith, count, length-map (live_slots ss) (λ (s : Slot). s.id))

pub shared_layered : (ss : List Slot) (mark last : ℕ) (hidden left : List ℕ) (top : ℕ) → AreLayered ss mark last hidden top → left ≡ [] → AreLayered (live_slots ss) (length (live_slots ss)) top left top
shared_layered ss mark last hidden left top old none =
    let up : All (λ q. q ≤ top) (ids_in (live_slots ss)) = all_live (λ q. q ≤ top) ss old.up in
    record {
      low = omega arith;
      shared = omega arith;
      rising = rising_live 0 ss old.rising;
      up = up;
      shared_up = All-take (λ q. q ≤ top) (length (live_slots ss)) (ids_in (live_slots ss)) up;
      within = subst (All (λ i. i < length (live_slots ss))) (sym none) (All-nil (λ i. i < length (live_slots ss)));
      listed = λ i lt off. absurd (let e : true ≡ false = sym (live_everywhere ss i) ∙ off in cc);
    }

pub shared_layers : (r : Row) (mark last : ℕ) (hidden : List ℕ) (top : ℕ) → AreLayered r.slots mark last hidden top
    → layers_of (record { vars = r.vars; slots = live_slots r.slots }) (length (live_slots r.slots)) top top ≡ bare (record { vars = r.vars; present = live_of r.slots; top = top })
shared_layers r mark last hidden top old =
    let ss : List Slot = live_slots r.slots in
    let present : live_of ss ≡ live_of r.slots = live_same r.slots old.rising in
    let shared : live_of (map revived (take (length ss) ss)) ≡ live_of r.slots =
    ap (λ (ts : List Slot). live_of (map revived ts)) (take_all (length ss) ss (omega arith)) ∙ ap live_of (revived_all ss (live_everywhere r.slots)) ∙ present in
    λ i. record { base = record { vars = r.vars; present = shared i; top = top }; present = present i; top = top }

-- ---- hidden clauses come back, one by one

pub same_length : (a b : List Slot) → map revived a ≡ map revived b → length a ≡ length b
same_length a b e = sym (length-map a revived) ∙ ap length e ∙ length-map b revived

pub revived_mark : (ss : List Slot) (j : ℕ) (b : Bool) → map revived (set ss j (record { id = (get_or ss j blank).id; live = b; clause = (get_or ss j blank).clause })) ≡ map revived ss
revived_mark ss j b = map-set_same revived ss j (record { id = (get_or ss j blank).id; live = b; clause = (get_or ss j blank).clause }) blank refl

apart_live : (ss : List Slot) (i j : ℕ) (s : Slot) → i ≢ j → live_at ss i ≡ true → live_at (set ss j s) i ≡ true
apart_live ss i j s ne e = ap (λ (t : Slot). t.live) (get_or-set_other ss j i s blank ne) ∙ e

pub revive_more : (old ss : List Slot) (js : List ℕ) (n : ℕ) (s : Slot) → n < length js → get_or js n 0 < length ss → s.live ≡ true
    → ((i : ℕ) → live_at old i ≡ true ⊎ Contains (take n js) i → live_at ss i ≡ true)
    → (i : ℕ) → live_at old i ≡ true ⊎ Contains (take (n + 1) js) i → live_at (set ss (get_or js n 0) s) i ≡ true
revive_more old ss js n s lt fits on before i (inl e) =
    let j : ℕ = get_or js n 0 in
    by_lt i j (λ less. apart_live ss i j s (λ f. omega arith) (before i (inl e)))
    (λ ge. by_lt j i (λ more. apart_live ss i j s (λ f. omega arith) (before i (inl e)))
    (λ le. let at : j ≡ i = omega arith in subst (λ k. live_at (set ss j s) k ≡ true) at (ap (λ (t : Slot). t.live) (get_or-set_same ss j s blank fits) ∙ on)))
revive_more old ss js n s lt fits on before i (inr has) =
    let j : ℕ = get_or js n 0 in
    let parts = subst (λ xs. Contains xs i) (take_next js n 0 lt) has in
    elim (Contains-push_cases (take n js) j i parts) [
      | inl earlier ↦
          by_lt i j (λ less. apart_live ss i j s (λ f. omega arith) (before i (inr earlier)))
          (λ ge. by_lt j i (λ more. apart_live ss i j s (λ f. omega arith) (before i (inr earlier)))
          (λ le. let at : j ≡ i = omega arith in subst (λ k. live_at (set ss j s) k ≡ true) at (ap (λ (t : Slot). t.live) (get_or-set_same ss j s blank fits) ∙ on)))
      | inr same ↦ subst (λ k. live_at (set ss j s) k ≡ true) same (ap (λ (t : Slot). t.live) (get_or-set_same ss j s blank fits) ∙ on)
    ]
