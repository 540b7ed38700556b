-- Clauses in one flat list.
use Rattle.std.proofs.Common.{◌≡◌, ℕ, ◌+◌, ◌≤◌, ◌<◌, Bool, false, List, [], ◌∷◌, ◌++◌, take, drop, length, get_or, set, All, Contains, ℤ, refl, sym, ◌∙◌, ap, subst, arith}
use Rattle.std.proofs.lemmas.List.{map-append, map-set, take-append-le, drop-append-le, take_all, length-drop, get_or-map, length-append, length-take-le, take-map}
use Rattle.std.proofs.lemmas.List.Elements.{All-head, All-tail, All-push, All-append, All-take, All-drop, All-set, All-contains}
use Rattle.lrat.specs.Literals.{IsLiteral}
use Rattle.lrat.specs.Slots.{Slot, blank}
use Rattle.lrat.specs.Places.{kept_of, kept_at, AreInOrder, AreInside}
use Rattle.lrat.specs.declared.place.Place.{Place}
use Rattle.lrat.proofs.Closing.{EndsBy, in_order_push, in_order_set, in_order_take, ends_before, shorter}

part_same : (ls xs : List ℤ) (start len : ℕ) → start + len ≤ length ls → take len (drop start (ls ++ xs)) ≡ take len (drop start ls)
part_same ls xs start len le =
    ap (take len) (drop-append-le start ls xs (omega arith)) ∙ take-append-le len (drop start ls) xs (omega (arith, length-drop start ls))

kept_same : (ls xs : List ℤ) (ps : List Place) → All (λ (p : Place). p.start + p.len ≤ length ls) ps → kept_at (ls ++ xs) ps ≡ kept_at ls ps
kept_same ls xs [] all = refl
kept_same ls xs (p ∷ ps) all =
    let e = part_same ls xs p.start p.len (All-head (λ (p : Place). p.start + p.len ≤ length ls) p ps all) in
    let f = kept_same ls xs ps (All-tail (λ (p : Place). p.start + p.len ≤ length ls) p ps all) in
    cc

drop_all : (ls xs : List ℤ) → drop (length ls) (ls ++ xs) ≡ xs
drop_all [] xs = refl
drop_all (l ∷ ls) xs = drop_all ls xs

pub kept_unchanged : (n : ℕ) (ls xs : List ℤ) (ps : List Place) → AreInside n ls ps → kept_at (ls ++ xs) ps ≡ kept_at ls ps
kept_unchanged n ls xs ps are = kept_same ls xs ps are.inside

pub kept_pushed : (ls xs : List ℤ) (ps : List Place) (id : ℕ) (live : Bool) → All (λ (p : Place). p.start + p.len ≤ length ls) ps → kept_at (ls ++ xs) (ps ++ record { start = length ls; len = length xs; id = id; live = live } ∷ []) ≡ kept_at ls ps ++ record { id = id; live = live; clause = xs } ∷ []
kept_pushed ls xs ps id live inside =
    let e = kept_same ls xs ps inside in
    let f : take (length xs) (drop (length ls) (ls ++ xs)) ≡ xs = ap (take (length xs)) (drop_all ls xs) ∙ take_all (length xs) xs (omega arith) in
    let p : Place = record { start = length ls; len = length xs; id = id; live = live } in
    map-append (kept_of (ls ++ xs)) ps (p ∷ [])
    ∙ ap (λ ks. ks ++ kept_of (ls ++ xs) p ∷ []) e
    ∙ ap (λ c. kept_at ls ps ++ record { id = id; live = live; clause = c } ∷ []) f

pub kept_push : (n : ℕ) (ls xs : List ℤ) (ps : List Place) (id : ℕ) (live : Bool) → AreInside n ls ps → kept_at (ls ++ xs) (ps ++ record { start = length ls; len = length xs; id = id; live = live } ∷ []) ≡ kept_at ls ps ++ record { id = id; live = live; clause = xs } ∷ []
kept_push n ls xs ps id live are = kept_pushed ls xs ps id live are.inside

-- the clause of a place
pub kept_here : (ls : List ℤ) (ps : List Place) (i : ℕ) (p : Place) → i < length ps → p ≡ get_or ps i p → get_or (kept_at ls ps) i blank ≡ kept_of ls p
kept_here ls ps i p lt at = get_or-map (kept_of ls) ps i p blank lt ∙ ap (kept_of ls) (sym at)

pub literals_of : (n : ℕ) (ls : List ℤ) (ps : List Place) (start len : ℕ) → AreInside n ls ps → All (IsLiteral n) (take len (drop start ls))
literals_of n ls ps start len are = All-take (IsLiteral n) len (drop start ls) (All-drop (IsLiteral n) start ls are.in_range)

pub marked_place : (ls : List ℤ) (ps : List Place) (i : ℕ) (p : Place) (b : Bool) → i < length ps → p ≡ get_or ps i p
    → kept_at ls (set ps i (record { start = p.start; len = p.len; id = p.id; live = b })) ≡ set (kept_at ls ps) i (record { id = (get_or (kept_at ls ps) i blank).id; live = b; clause = (get_or (kept_at ls ps) i blank).clause })
marked_place ls ps i p b lt at =
    map-set (kept_of ls) ps i (record { start = p.start; len = p.len; id = p.id; live = b })
    ∙ ap (λ (s : Slot). set (kept_at ls ps) i (record { id = s.id; live = b; clause = s.clause })) (sym (kept_here ls ps i p lt at))

pub dropped_place : (ls : List ℤ) (ps : List Place) (i : ℕ) (p : Place) → i < length ps → p ≡ get_or ps i p
    → kept_at ls (set ps i (record { start = p.start; len = 0; id = p.id; live = false })) ≡ set (kept_at ls ps) i (record { id = (get_or (kept_at ls ps) i blank).id; live = false; clause = [] })
dropped_place ls ps i p lt at =
    map-set (kept_of ls) ps i (record { start = p.start; len = 0; id = p.id; live = false })
    ∙ ap (λ (s : Slot). set (kept_at ls ps) i (record { id = s.id; live = false; clause = [] })) (sym (kept_here ls ps i p lt at))

-- the literals up to where a place begins are enough for those before it
pub kept_short : (n : ℕ) (ls : List ℤ) (ps : List Place) (i : ℕ) (p : Place) → i < length ps → p ≡ get_or ps i p → AreInside n ls ps → kept_at (take p.start ls) (take i ps) ≡ take i (kept_at ls ps)
kept_short n ls ps i p lt at are =
    let within : p.start + p.len ≤ length ls = subst (λ (q : Place). q.start + q.len ≤ length ls) (sym at) (are.inside i p lt) in
    let ends : All (EndsBy p.start) (take i ps) = subst (λ (q : Place). All (EndsBy q.start) (take i ps)) (sym at) (ends_before 0 i ps p lt are.in_order) in
    shorter ls p.start (take i ps) (omega arith) ends ∙ sym (take-map (kept_of ls) i ps)

-- ---- what stays of the layout

pub inside_push : (n : ℕ) (ls xs : List ℤ) (ps : List Place) (id : ℕ) (live : Bool) → All (IsLiteral n) xs → AreInside n ls ps → AreInside n (ls ++ xs) (ps ++ record { start = length ls; len = length xs; id = id; live = live } ∷ [])
inside_push n ls xs ps id live lits are =
    let p : Place = record { start = length ls; len = length xs; id = id; live = live } in
    record {
      inside = All-push (λ (q : Place). q.start + q.len ≤ length (ls ++ xs)) ps p (λ k d lt. let le = are.inside k d lt in omega (arith, length-append ls xs)) (omega (arith, length-append ls xs));
      in_order = in_order_push 0 (length ls) ps p are.in_order are.inside (omega arith) (omega arith);
      in_range = All-append (IsLiteral n) ls xs are.in_range lits;
    }

-- a place that ends no later
pub inside_set : (n : ℕ) (ls : List ℤ) (ps : List Place) (i len id : ℕ) (b : Bool) (p : Place) → i < length ps → p ≡ get_or ps i p → len ≤ p.len → AreInside n ls ps → AreInside n ls (set ps i (record { start = p.start; len = len; id = id; live = b }))
inside_set n ls ps i len id b p lt at le are =
    let q : Place = record { start = p.start; len = len; id = id; live = b } in
    let here : p.start + p.len ≤ length ls = subst (λ (u : Place). u.start + u.len ≤ length ls) (sym at) (are.inside i p lt) in
    record {
      inside = All-set (λ (u : Place). u.start + u.len ≤ length ls) ps i q (omega arith) are.inside;
      in_order = in_order_set 0 ps i q p at lt refl le are.in_order;
      in_range = are.in_range;
    }

pub inside_short : (n : ℕ) (ls : List ℤ) (ps : List Place) (i : ℕ) (p : Place) → i < length ps → p ≡ get_or ps i p → AreInside n ls ps → AreInside n (take p.start ls) (take i ps)
inside_short n ls ps i p lt at are =
    let within : p.start + p.len ≤ length ls = subst (λ (q : Place). q.start + q.len ≤ length ls) (sym at) (are.inside i p lt) in
    let ends : All (EndsBy p.start) (take i ps) = subst (λ (q : Place). All (EndsBy q.start) (take i ps)) (sym at) (ends_before 0 i ps p lt are.in_order) in
    record {
      inside = λ k d lk. let le = ends k d lk in omega (arith, length-take-le p.start ls (omega arith));
      in_order = in_order_take 0 i ps are.in_order;
      in_range = All-take (IsLiteral n) p.start ls are.in_range;
    }

pub inside_closed : (n : ℕ) (ls now : List ℤ) (ps qs : List Place) (e : ℕ) → e ≤ length now → All (λ (p : Place). p.start + p.len ≤ e) qs → AreInOrder 0 qs → All (Contains ls) now → AreInside n ls ps → AreInside n (take e now) qs
inside_closed n ls now ps qs e fits ends order among are = record {
  inside = λ k d lt. let le = ends k d lt in omega (arith, length-take-le e now fits);
  in_order = order;
  in_range = All-take (IsLiteral n) e now (λ k d lt. All-contains (IsLiteral n) ls (get_or now k d) are.in_range (among k d lt));
}

-- a list that was handed out whole and came back
pub take_whole : {X : Type 0} → (n : ℕ) (xs ys : List X) → length xs ≡ n → take n (xs ++ ys) ≡ xs
take_whole n xs ys e = take-append-le n xs ys (omega arith) ∙ take_all n xs (omega arith)
