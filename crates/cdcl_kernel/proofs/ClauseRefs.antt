-- Clauses in one flat list.
use Rattle.std.proofs.Common.{◌≡◌, ℕ, zero, suc, ◌+◌, ◌-◌, ◌≤◌, ◌<◌, List, [], ◌∷◌, ◌++◌, take, drop, length, get_or, set, slice_index_or, slice_set, All, Contains, ℤ, None, Some, refl, sym, ◌∙◌, ap, subst, arith}
use Rattle.std.proofs.lemmas.List.{get_or_default, set_past, map-append, map-set, take-append-le, drop-append-le, take_all, length-drop, get_or-map, get_or_past, length-map, length-append, length_push, length-set, length-take-le}
use Rattle.cdcl_kernel.proofs.Closing.{in_order_push, in_order_set}
use Rattle.std.proofs.lemmas.List.Elements.{All-head, All-tail, All-push, All-append, All-take, All-drop, All-set, All-contains}
use Rattle.lrat.specs.Literals.{IsLiteral}
use Rattle.cdcl_kernel.specs.Kept.{Kept, find_in, live, live_if, gone, origin_in, without}
use Rattle.cdcl_kernel.specs.ClauseRefs.{part_of, parts_at, with_origins, kept_at, IsEmptied, AreInOrder, AreInside}
use Rattle.cdcl_kernel.specs.declared.clause_ref.ClauseRef.{ClauseRef}
use Rattle.cdcl_kernel.specs.declared.origin.Origin.{Origin}
use Rattle.cdcl_kernel.specs.declared.origin.Origin.TheVariants.{Added, Learned, Removed}

part_same : (ls xs : List ℤ) (start len : ℕ) → start + len ≤ length ls → take len (drop start (ls ++ xs)) ≡ take len (drop start ls)
part_same ls xs start len le =
    ap (take len) (drop-append-le start ls xs (omega arith)) ∙ take-append-le len (drop start ls) xs (omega (arith, length-drop start ls))

parts_same : (ls xs : List ℤ) (ps : List ClauseRef) → All (λ (p : ClauseRef). p.start + p.len ≤ length ls) ps → parts_at (ls ++ xs) ps ≡ parts_at ls ps
parts_same ls xs [] all = refl
parts_same ls xs (p ∷ ps) all =
    let e = part_same ls xs p.start p.len (All-head (λ (p : ClauseRef). p.start + p.len ≤ length ls) p ps all) in
    let f = parts_same ls xs ps (All-tail (λ (p : ClauseRef). p.start + p.len ≤ length ls) p ps all) in
    cc

-- ---- clauses with where they come from

length_with : (cs : List (List ℤ)) (os : List Origin) → length os ≡ length cs → length (with_origins cs os) ≡ length cs
length_with [] os e = refl
length_with (c ∷ cs) [] e = absurd (omega arith)
length_with (c ∷ cs) (o ∷ os) e = let r = length_with cs os (omega arith) in omega arith

with_push : (cs : List (List ℤ)) (os : List Origin) (c : List ℤ) (o : Origin) → length os ≡ length cs → with_origins (cs ++ c ∷ []) (os ++ o ∷ []) ≡ with_origins cs os ++ record { origin = o; clause = c } ∷ []
with_push [] [] c o e = refl
with_push [] (p ∷ os) c o e = absurd (omega arith)
with_push (d ∷ cs) [] c o e = absurd (omega arith)
with_push (d ∷ cs) (p ∷ os) c o e = ap (λ (ks : List Kept). record { origin = p; clause = d } ∷ ks) (with_push cs os c o (omega arith))

with_set : (cs : List (List ℤ)) (os : List Origin) (i : ℕ) (c : List ℤ) (o : Origin) → with_origins (set cs i c) (set os i o) ≡ set (with_origins cs os) i (record { origin = o; clause = c })
with_set [] os zero c o = refl
with_set [] os (suc i) c o = refl
with_set (d ∷ cs) [] zero c o = refl
with_set (d ∷ cs) [] (suc i) c o = refl
with_set (d ∷ cs) (p ∷ os) zero c o = refl
with_set (d ∷ cs) (p ∷ os) (suc i) c o = ap (λ (ks : List Kept). record { origin = p; clause = d } ∷ ks) (with_set cs os i c o)

with_at : (cs : List (List ℤ)) (os : List Origin) (i : ℕ) (c : List ℤ) (o : Origin) → length os ≡ length cs → i < length cs → c ≡ get_or cs i c → o ≡ get_or os i o → get_or (with_origins cs os) i gone ≡ record { origin = o; clause = c }
with_at [] os i c o e lt atc ato = absurd (omega arith)
with_at (d ∷ cs) [] i c o e lt atc ato = absurd (omega arith)
with_at (d ∷ cs) (p ∷ os) zero c o e lt atc ato = cc
with_at (d ∷ cs) (p ∷ os) (suc i) c o e lt atc ato = with_at cs os i c o (omega arith) (omega arith) atc ato

pub length_kept : (ls : List ℤ) (ps : List ClauseRef) (os : List Origin) → length os ≡ length ps → length (kept_at ls ps os) ≡ length ps
length_kept ls ps os e =
    let m : length (parts_at ls ps) ≡ length ps = length-map ps (part_of ls) in
    length_with (parts_at ls ps) os (e ∙ sym m) ∙ m

drop_all : (ls xs : List ℤ) → drop (length ls) (ls ++ xs) ≡ xs
drop_all [] xs = refl
drop_all (l ∷ ls) xs = drop_all ls xs

pub kept_unchanged : (n : ℕ) (ls xs : List ℤ) (ps : List ClauseRef) (os : List Origin) → AreInside n ls ps os → kept_at (ls ++ xs) ps os ≡ kept_at ls ps os
kept_unchanged n ls xs ps os are = ap (λ (cs : List (List ℤ)). with_origins cs os) (parts_same ls xs ps are.inside)

pub kept_push : (n : ℕ) (ls xs : List ℤ) (ps : List ClauseRef) (os : List Origin) (o : Origin) → AreInside n ls ps os → kept_at (ls ++ xs) (ps ++ record { start = length ls; len = length xs } ∷ []) (os ++ o ∷ []) ≡ kept_at ls ps os ++ record { origin = o; clause = xs } ∷ []
kept_push n ls xs ps os o are =
    let p : ClauseRef = record { start = length ls; len = length xs } in
    let e : parts_at (ls ++ xs) ps ≡ parts_at ls ps = parts_same ls xs ps are.inside in
    let f : part_of (ls ++ xs) p ≡ xs = ap (take (length xs)) (drop_all ls xs) ∙ take_all (length xs) xs (omega arith) in
    let m : length (parts_at ls ps) ≡ length ps = length-map ps (part_of ls) in
    let g : parts_at (ls ++ xs) (ps ++ p ∷ []) ≡ parts_at ls ps ++ xs ∷ [] = map-append (part_of (ls ++ xs)) ps (p ∷ [])
    ∙ ap (λ (cs : List (List ℤ)). cs ++ part_of (ls ++ xs) p ∷ []) e
    ∙ ap (λ (c : List ℤ). parts_at ls ps ++ c ∷ []) f in
    ap (λ (cs : List (List ℤ)). with_origins cs (os ++ o ∷ [])) g ∙ with_push (parts_at ls ps) os xs o (are.same ∙ sym m)

find_below : (ks : List Kept) (id : ℕ) → 0 < id → find_in ks id ≡ live (slice_index_or ks (id - 1) gone)
find_below ks zero lt = absurd (omega arith)
find_below ks (suc i) lt = ap (λ j. live (slice_index_or ks j gone)) (let e : i ≡ suc i - 1 = omega arith in e)

-- what is kept at a clause reference
kept_here : (ls : List ℤ) (ps : List ClauseRef) (os : List Origin) (i : ℕ) (p : ClauseRef) (o : Origin) → length os ≡ length ps → i < length ps → p ≡ get_or ps i p → o ≡ get_or os i o → get_or (kept_at ls ps os) i gone ≡ record { origin = o; clause = part_of ls p }
kept_here ls ps os i p o same lt at ato =
    let m : length (parts_at ls ps) ≡ length ps = length-map ps (part_of ls) in
    let c : part_of ls p ≡ get_or (parts_at ls ps) i (part_of ls p) = ap (part_of ls) at ∙ sym (get_or-map (part_of ls) ps i p (part_of ls p) lt) in
    with_at (parts_at ls ps) os i (part_of ls p) o (same ∙ sym m) (omega arith) c ato

pub find_ref : (ls : List ℤ) (ps : List ClauseRef) (os : List Origin) (id : ℕ) (p : ClauseRef) (o : Origin) → 0 < id → id ≤ length ps → length os ≡ length ps → p ≡ get_or ps (id - 1) p → o ≡ get_or os (id - 1) o → find_in (kept_at ls ps os) id ≡ live_if o (part_of ls p)
find_ref ls ps os id p o lt le same read from =
    find_below (kept_at ls ps os) id lt ∙ ap live (kept_here ls ps os (id - 1) p o same (omega arith) read from)

many : (ls : List ℤ) (ps : List ClauseRef) (os : List Origin) (i : ℕ) → length os ≡ length ps → length ps < suc i → length (kept_at ls ps os) ≤ i
many ls ps os i same lt = rw (length_kept ls ps os same) (omega arith)

pub live_kept : (o : Origin) (c : List ℤ) → (o ≡ Removed → ⊥) → live_if o c ≡ Some c
live_kept Added c ne = refl
live_kept Learned c ne = refl
live_kept Removed c ne = absurd (ne refl)

pub empty_part : (ls : List ℤ) (p : ClauseRef) → p.len ≡ 0 → part_of ls p ≡ []
empty_part ls p e = ap (λ (n : ℕ). take n (drop p.start ls)) e

-- a clause that is not empty was not taken out
pub is_live : (n : ℕ) (ls : List ℤ) (ps : List ClauseRef) (os : List Origin) (id : ℕ) (p : ClauseRef) → AreInside n ls ps os → 0 < id → id ≤ length ps → p ≡ get_or ps (id - 1) p → (p.len ≡ 0 → ⊥) → find_in (kept_at ls ps os) id ≡ Some (part_of ls p)
is_live n ls ps os id p are lt le read some =
    let o : Origin = get_or os (id - 1) Added in
    let from : o ≡ get_or os (id - 1) o = get_or_default os (id - 1) Added o (omega (arith, are.same)) in
    let here : get_or (kept_at ls ps os) (id - 1) gone ≡ record { origin = o; clause = part_of ls p } = kept_here ls ps os (id - 1) p o are.same (omega arith) read from in
    let within : p.start + p.len ≤ length ls = subst (λ (u : ClauseRef). u.start + u.len ≤ length ls) (sym read) (are.inside (id - 1) p (omega arith)) in
    let long : length (part_of ls p) ≡ p.len = length-take-le p.len (drop p.start ls) (omega (arith, length-drop p.start ls)) in
    let empty : IsEmptied (record { origin = o; clause = part_of ls p }) = subst IsEmptied here (are.emptied (id - 1) gone (let m = length_kept ls ps os are.same in omega arith)) in
    find_ref ls ps os id p o lt le are.same read from ∙ live_kept o (part_of ls p) (λ e. some (sym long ∙ ap length (empty e)))

find_none : (ls : List ℤ) (ps : List ClauseRef) (os : List Origin) (id : ℕ) → length os ≡ length ps → length ps < id → find_in (kept_at ls ps os) id ≡ None
find_none ls ps os zero same lt = absurd (omega arith)
find_none ls ps os (suc i) same lt = ap live (get_or_past (kept_at ls ps os) i gone (many ls ps os i same lt))

-- what has no id
pub find_out : (ls : List ℤ) (ps : List ClauseRef) (os : List Origin) (id : ℕ) → length os ≡ length ps → (0 < id → length ps < id) → None ≡ find_in (kept_at ls ps os) id
find_out ls ps os zero same out = refl
find_out ls ps os (suc i) same out = sym (find_none ls ps os (suc i) same (out (omega arith)))

origin_below : (ks : List Kept) (id : ℕ) → 0 < id → origin_in ks id ≡ (slice_index_or ks (id - 1) gone).origin
origin_below ks zero lt = absurd (omega arith)
origin_below ks (suc i) lt = ap (λ j. (slice_index_or ks j gone).origin) (let e : i ≡ suc i - 1 = omega arith in e)

pub origin_ref : (ls : List ℤ) (ps : List ClauseRef) (os : List Origin) (id : ℕ) (o : Origin) → 0 < id → id ≤ length os → length os ≡ length ps → o ≡ get_or os (id - 1) o → o ≡ origin_in (kept_at ls ps os) id
origin_ref ls ps os id o lt le same from =
    let none : ClauseRef = record { start = 0; len = 0 } in
    let p : ClauseRef = get_or ps (id - 1) none in
    let read : p ≡ get_or ps (id - 1) p = get_or_default ps (id - 1) none p (omega arith) in
    sym (origin_below (kept_at ls ps os) id lt ∙ ap (λ (k : Kept). k.origin) (kept_here ls ps os (id - 1) p o same (omega arith) read from))

origin_none : (ls : List ℤ) (ps : List ClauseRef) (os : List Origin) (id : ℕ) → length os ≡ length ps → length os < id → Removed ≡ origin_in (kept_at ls ps os) id
origin_none ls ps os zero same lt = absurd (omega arith)
origin_none ls ps os (suc i) same lt = sym (ap (λ (k : Kept). k.origin) (get_or_past (kept_at ls ps os) i gone (many ls ps os i same (omega arith))))

pub origin_out : (ls : List ℤ) (ps : List ClauseRef) (os : List Origin) (id : ℕ) → length os ≡ length ps → (0 < id → length os < id) → Removed ≡ origin_in (kept_at ls ps os) id
origin_out ls ps os zero same out = refl
origin_out ls ps os (suc i) same out = origin_none ls ps os (suc i) same (out (omega arith))

pub literals_of : (n : ℕ) (ls : List ℤ) (ps : List ClauseRef) (os : List Origin) (start len : ℕ) → AreInside n ls ps os → All (IsLiteral n) (take len (drop start ls))
literals_of n ls ps os start len are = All-take (IsLiteral n) len (drop start ls) (All-drop (IsLiteral n) start ls are.in_range)

without_below : (ks : List Kept) (id : ℕ) → 0 < id → without ks id ≡ slice_set ks (id - 1) gone
without_below ks zero lt = absurd (omega arith)
without_below ks (suc i) lt = ap (λ j. slice_set ks j gone) (let e : i ≡ suc i - 1 = omega arith in e)

pub remove_ref : (ls : List ℤ) (ps : List ClauseRef) (os : List Origin) (id start : ℕ) → 0 < id → kept_at ls (slice_set ps (id - 1) record { start = start; len = 0 }) (slice_set os (id - 1) Removed) ≡ without (kept_at ls ps os) id
remove_ref ls ps os id start lt =
    ap (λ (cs : List (List ℤ)). with_origins cs (slice_set os (id - 1) Removed)) (map-set (part_of ls) ps (id - 1) (record { start = start; len = 0 }))
    ∙ with_set (parts_at ls ps) os (id - 1) [] Removed
    ∙ sym (without_below (kept_at ls ps os) id lt)

pub without_out : (ls : List ℤ) (ps : List ClauseRef) (os : List Origin) (id : ℕ) → length os ≡ length ps → (0 < id → length ps < id) → kept_at ls ps os ≡ without (kept_at ls ps os) id
without_out ls ps os zero same out = refl
without_out ls ps os (suc i) same out = sym (set_past (kept_at ls ps os) i gone (many ls ps os i same (out (omega arith))))

-- ---- what stays of the layout

pub inside_more : (n : ℕ) (ls xs : List ℤ) (ps : List ClauseRef) (os : List Origin) → All (IsLiteral n) xs → AreInside n ls ps os → AreInside n (ls ++ xs) ps os
inside_more n ls xs ps os lits are = record {
  inside = λ k d lt. let le = are.inside k d lt in omega (arith, length-append ls xs);
  in_order = are.in_order;
  in_range = All-append (IsLiteral n) ls xs are.in_range lits;
  few = are.few;
  same = are.same;
  emptied = subst (All IsEmptied) (sym (kept_unchanged n ls xs ps os are)) are.emptied;
}

pub inside_push : (n : ℕ) (ls xs : List ℤ) (ps : List ClauseRef) (os : List Origin) (o : Origin) → length ps < 4294967295 → (o ≡ Removed → ⊥) → All (IsLiteral n) xs → AreInside n ls ps os → AreInside n (ls ++ xs) (ps ++ record { start = length ls; len = length xs } ∷ []) (os ++ o ∷ [])
inside_push n ls xs ps os o few live lits are =
    let p : ClauseRef = record { start = length ls; len = length xs } in
    record {
      inside = All-push (λ (q : ClauseRef). q.start + q.len ≤ length (ls ++ xs)) ps p (λ k d lt. let le = are.inside k d lt in omega (arith, length-append ls xs)) (omega (arith, length-append ls xs));
      in_order = in_order_push 0 (length ls) ps p are.in_order are.inside (omega arith) (omega arith);
      in_range = All-append (IsLiteral n) ls xs are.in_range lits;
      few = omega (arith, length_push ps p);
      same = omega (arith, length_push ps p, length_push os o, are.same);
      emptied = subst (All IsEmptied) (sym (kept_push n ls xs ps os o are)) (All-push IsEmptied (kept_at ls ps os) (record { origin = o; clause = xs }) are.emptied (λ e. absurd (live e)));
    }

pub inside_removed : (n : ℕ) (ls : List ℤ) (ps : List ClauseRef) (os : List Origin) (i : ℕ) (p : ClauseRef) → i < length ps → p ≡ get_or ps i p → AreInside n ls ps os → AreInside n ls (set ps i (record { start = p.start; len = 0 })) (set os i Removed)
inside_removed n ls ps os i p lt at are =
    let q : ClauseRef = record { start = p.start; len = 0 } in
    let here : p.start + p.len ≤ length ls = subst (λ (u : ClauseRef). u.start + u.len ≤ length ls) (sym at) (are.inside i p lt) in
    let kept : kept_at ls (set ps i q) (set os i Removed) ≡ set (kept_at ls ps os) i gone = ap (λ (cs : List (List ℤ)). with_origins cs (set os i Removed)) (map-set (part_of ls) ps i q) ∙ with_set (parts_at ls ps) os i [] Removed in
    record {
      inside = All-set (λ (u : ClauseRef). u.start + u.len ≤ length ls) ps i q (omega arith) are.inside;
      in_order = in_order_set 0 ps i q p at lt refl (omega arith) are.in_order;
      in_range = are.in_range;
      few = omega (arith, length-set ps i q, are.few);
      same = omega (arith, length-set ps i q, length-set os i Removed, are.same);
      emptied = subst (All IsEmptied) (sym kept) (All-set IsEmptied (kept_at ls ps os) i gone (λ e. refl) are.emptied);
    }

pub inside_closed : (n : ℕ) (ls now : List ℤ) (ps qs : List ClauseRef) (os : List Origin) (e : ℕ) → length qs ≡ length ps → e ≤ length now → All (λ (p : ClauseRef). p.start + p.len ≤ e) qs → AreInOrder 0 qs → All (Contains ls) now → parts_at (take e now) qs ≡ parts_at ls ps → AreInside n ls ps os → AreInside n (take e now) qs os
inside_closed n ls now ps qs os e len fits ends order among parts are = record {
  inside = λ k d lt. let le = ends k d lt in omega (arith, length-take-le e now fits);
  in_order = order;
  in_range = All-take (IsLiteral n) e now (λ k d lt. All-contains (IsLiteral n) ls (get_or now k d) are.in_range (among k d lt));
  few = omega (arith, are.few);
  same = are.same ∙ sym len;
  emptied = subst (λ (cs : List (List ℤ)). All IsEmptied (with_origins cs os)) (sym parts) are.emptied;
}

-- a list that was handed out whole and came back
pub take_whole : {X : Type 0} → (n : ℕ) (xs ys : List X) → length xs ≡ n → take n (xs ++ ys) ≡ xs
take_whole n xs ys e = take-append-le n xs ys (omega arith) ∙ take_all n xs (omega arith)
