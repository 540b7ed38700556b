-- The lines of a log lead from the formula to the clauses as they are.
use Rattle.std.proofs.Common.{◌≡◌, ◌≢◌, ◌==◌, ◌∙◌, inl, inr, ℕ, zero, suc, ◌+◌, ◌<◌, ◌≤◌, nat_lt, if◌then◌else◌, Bool, true, false, cond, List, [], ◌∷◌, ◌++◌, length, slice_index_or, map, All, Option, None, Some, IfSome, Result, Ok, Err, IfOk, OnErr, ℤ, pos, neg_ℤ, unsigned_abs, refl, sym, ap, subst, arith, length-append}
use Rattle.std.specs.FinMap as fin
use Rattle.std.specs.Ordering.{nat_cmp, eq_by_cmp}
use Rattle.std.specs.Cmp.{nat_cmp_total, eq_by_cmp_equiv}
use Rattle.std.proofs.lemmas.Bool.{cases_lt}
use Rattle.std.proofs.lemmas.Bool.Decides.{nat_tests}
use Rattle.std.proofs.lemmas.List.Elements.{All-nil, All-cons, All-push, All-map}
use Rattle.lrat.specs.Store.{ById}
use Rattle.lrat.specs.Literals.{Finder, IsLiteral}
use Rattle.lrat.specs.Lines.{Leads, IsAcceptedLine}
use Rattle.lrat.specs.Limits.{IsHint, IsLine}
use Rattle.lrat.specs.Stages.{Stage, IsPositive, is_nil, Goes, GoAlong}
use Rattle.lrat.specs.Proofs.{numbered_from}
use Rattle.lrat.specs.declared.formula.Formula.{Formula}
use Rattle.lrat.specs.declared.line.Line.{Line}
use Rattle.lrat.specs.declared.line.Line.TheVariants.{Add, Delete}
use Rattle.lrat.proofs.Numbered.{get_new}
use Rattle.cdcl_kernel.specs.Kept.{Kept, find_in, kept_in, live, gone, added}
use Rattle.cdcl_kernel.specs.Forgotten.{Forgets}
use Rattle.cdcl_kernel.specs.Known.{Known, with_clause, IsLearned, Learns}
use Rattle.cdcl_kernel.specs.declared.origin.Origin.TheVariants.{Learned}
use Rattle.cdcl_kernel.proofs.Follow.{added_learned}
use Rattle.cdcl_kernel.proofs.Forgetting.{by_eq}
use Rattle.cdcl_log.specs.Logged.{shifted, first_id, start, AreNumbered, AreLines, LeadTo, Reaches, IsNext, clause_of, formula_of, IsLog, as_added, is_wanted}
use Rattle.cdcl_log.specs.declared.logging.Logging.{Logging}
use Rattle.cdcl_log.specs.declared.logging.Logging.TheVariants.{Unwanted, Open, Closed}
use Rattle.cdcl_log.specs.declared.numbering.Numbering.{Numbering}

-- ---- ids

is_above : (a b : ℕ) → a < b → nat_lt a b ≡ true
is_above a b lt = grind (arith, nat_tests)

is_not_above : (a b : ℕ) → b ≤ a → nat_lt a b ≡ false
is_not_above a b le = grind (arith, nat_tests)

pub shifted_behind : (n : Numbering) (id : ℕ) → n.base < id → shifted n id ≡ id + n.room
shifted_behind n id lt = ap (λ b. if b then id + n.room else id) (is_above n.base id lt)

pub shifted_before : (n : Numbering) (id : ℕ) → id ≤ n.base → shifted n id ≡ id
shifted_before n id le = ap (λ b. if b then id + n.room else id) (is_not_above n.base id le)

shifted_most : (n : Numbering) (id : ℕ) → shifted n id ≤ id + n.room
shifted_most n id =
    elim (cases_lt n.base id) [
      | inl lt ↦ let e = shifted_behind n id lt in omega (arith, e)
      | inr le ↦ let e = shifted_before n id le in omega (arith, e)
    ]

shifted_least : (n : Numbering) (id : ℕ) → id ≤ shifted n id
shifted_least n id =
    elim (cases_lt n.base id) [
      | inl lt ↦ let e = shifted_behind n id lt in omega (arith, e)
      | inr le ↦ let e = shifted_before n id le in omega (arith, e)
    ]

same_keys : (q : ℕ) → eq_by_cmp nat_cmp q q ≡ true
same_keys q = (eq_by_cmp_equiv nat_cmp_total).refl q

pub get_same : (m : ById) (q : ℕ) (c : List ℤ) → fin.get (fin.insert m q c) q ≡ Some c
get_same m q c = fin.get-insert nat_cmp_total m q c q ∙ ap (λ b. cond b (Some c) (fin.get m q)) (same_keys q)

-- ---- at the beginning

pub below : (cs : List (List ℤ)) (k q : ℕ) (m : ById) → q < k → fin.get (numbered_from k cs m) q ≡ fin.get m q
below [] k q m lt = refl
below (c ∷ cs) k q m lt = below cs (k + 1) q (fin.insert m k c) (omega arith) ∙ get_new m k q c (omega arith)

numbered_at : (cs : List (List ℤ)) (k i : ℕ) (m : ById) → ((q : ℕ) → k ≤ q → fin.get m q ≡ None) → fin.get (numbered_from k (added (map as_added cs)) m) (k + i) ≡ live (slice_index_or (map as_added cs) i gone)
numbered_at [] k i m free = free (k + i) (omega arith)
numbered_at (c ∷ cs) k zero m free =
    let e : k + 0 ≡ k = omega arith in
    rw e (below (added (map as_added cs)) (k + 1) k (fin.insert m k c) (omega arith) ∙ get_same m k c)
numbered_at (c ∷ cs) k (suc i) m free =
    let e : k + suc i ≡ k + 1 + i = omega arith in
    rw e (numbered_at cs (k + 1) i (fin.insert m k c) (λ q le. get_new m k q c (omega arith) ∙ free q (omega arith)))

numbered : (cs : List (List ℤ)) (id : ℕ) → fin.get (numbered_from 1 (added (map as_added cs)) fin.empty) id ≡ find_in (map as_added cs) id
numbered cs zero = below (added (map as_added cs)) 1 0 fin.empty (omega arith) ∙ fin.get-empty nat_cmp 0
numbered cs (suc i) =
    let e : 1 + i ≡ suc i = omega arith in
    rw e at (numbered_at cs 1 i fin.empty (λ q le. fin.get-empty nat_cmp q))

pub added_all : (cs : List (List ℤ)) → added (map as_added cs) ≡ cs
added_all [] = refl
added_all (c ∷ cs) = ap (λ u. c ∷ u) (added_all cs)

length_added : (cs : List (List ℤ)) → length (added (map as_added cs)) ≡ length (map as_added cs)
length_added [] = refl
length_added (c ∷ cs) = ap suc (length_added cs)

length_as_added : (cs : List (List ℤ)) → length (map as_added cs) ≡ length cs
length_as_added [] = refl
length_as_added (c ∷ cs) = ap suc (length_as_added cs)

none_some : (c : List ℤ) → live gone ≡ Some c → ⊥
none_some c e = cc

in_list : (ks : List Kept) (i : ℕ) (c : List ℤ) → live (slice_index_or ks i gone) ≡ Some c → i < length ks
in_list [] i c e = absurd (none_some c e)
in_list (k ∷ ks) zero c e = omega arith
in_list (k ∷ ks) (suc i) c e = let lt = in_list ks i c e in omega arith

-- an id of a clause
abbrev IsUsed : ℕ → ℕ → Type 0
IsUsed n id = (0 < id) × (id ≤ n)

used : (ks : List Kept) (id : ℕ) (c : List ℤ) → find_in ks id ≡ Some c → IsUsed (length ks) id
used ks zero c e = absurd (none_some c e)
used ks (suc i) c e = let lt = in_list ks i c e in (omega arith, omega arith)

begun_all : (v : ℕ) (n : Numbering) (cs : List (List ℤ)) → n.base ≡ length cs → n.shared ≡ 0 → n.room ≤ 2147483647 → IsLog Open n v (map as_added cs) [] None
begun_all v n cs base none small =
    let all : length (added (map as_added cs)) ≡ length cs = length_added cs ∙ length_as_added cs in (
      record { base = base ∙ sym all; shared = omega (arith, none); in_limits = All-nil IsLine; small = small; numbered = tt },
      record {
        reached = start (formula_of v (map as_added cs)) n.room;
        along = refl;
        present = λ id c e.
            let u = used (map as_added cs) id c e in
            ap (fin.get (numbered_from 1 (added (map as_added cs)) fin.empty)) (shifted_before n id (omega (arith, u.1, length_as_added cs, base))) ∙ numbered cs id ∙ e;
        top = ap (λ u. u + n.room) (length_added cs);
        count = omega (arith, length_as_added cs, base);
        is_open = refl;
      },
      tt,
    )

pub begun : (v : ℕ) (n : Numbering) (cs : List (List ℤ)) (ks : List Kept) → n.base ≡ length cs → n.shared ≡ 0 → n.room ≤ 2147483647 → ks ≡ map as_added cs → IsLog Open n v ks [] None
begun v n cs ks base none small e = subst (λ us. IsLog Open n v us [] None) (sym e) (begun_all v n cs base none small)

-- ---- one line more

pub along_more : (v : ℕ) (ls : List Line) (s t u : Stage) (l : Line) → GoAlong v s ls t → Goes v t l u → GoAlong v s (ls ++ l ∷ []) u
along_more v [] s t u l same goes = (u, subst (λ w. Goes v w l u) same goes, refl)
along_more v (k ∷ ls) s t u l along goes = (along.0, along.1, along_more v ls along.0 t u l along.2 goes)

leads_used : (ks : List Kept) (s : List ℤ) (ids : List ℕ) (t : List ℤ) → Leads (find_in ks) s ids t → All (IsUsed (length ks)) ids
leads_used ks s [] t leads = All-nil (IsUsed (length ks))
leads_used ks s (id ∷ ids) t leads = All-cons (IsUsed (length ks)) id ids (used ks id leads.1.clause leads.1.found) (leads_used ks (s ++ leads.0 ∷ []) ids t leads.2)

hints_used : (ks : List Kept) (v : ℕ) (c : List ℤ) (hints : List ℕ) → IsAcceptedLine v (find_in ks) c hints → All (IsUsed (length ks)) hints
hints_used ks v c hints line =
    let s = line.shown in
    subst (All (IsUsed (length ks))) (sym s.are)
    (All-push (IsUsed (length ks)) s.first s.last (leads_used ks (map neg_ℤ c) s.first s.reached s.leads) (used ks s.last s.conflict.clause s.conflict.found))

-- the ids of lines for ids of the kernel
abbrev in_log : Numbering → List ℕ → List ℤ
in_log n hints = map (λ h. pos (shifted n h)) hints

positive : (n : Numbering) (most : ℕ) (hints : List ℕ) → All (IsUsed most) hints → All IsPositive (in_log n hints)
positive n most hints all = All-map IsPositive (λ h. pos (shifted n h)) hints (λ k d lt. let u = all k d lt in let le = shifted_least n (slice_index_or hints k d) in omega (arith, u.0, le))

pos_nonzero : (h : ℕ) → 0 < h → pos h ≢ pos 0
pos_nonzero h lt e = let f : h ≡ 0 = ap unsigned_abs e in omega arith

are_hints : (n : Numbering) (most : ℕ) (hints : List ℕ) → most + n.room ≤ 4294967295 → All (IsUsed most) hints → All IsHint (in_log n hints)
are_hints n most hints le all =
    All-map IsHint (λ h. pos (shifted n h)) hints (λ k d lt.
    let u = all k d lt in
    let least = shifted_least n (slice_index_or hints k d) in
    let greatest = shifted_most n (slice_index_or hints k d) in
    (pos_nonzero _ (omega (arith, u.0, least)), omega (arith, u.1, greatest, le)))

are_below : (n : Numbering) (most bound : ℕ) (hints : List ℕ) → most + n.room < bound → All (IsUsed most) hints → All (λ h. unsigned_abs h < bound) (in_log n hints)
are_below n most bound hints lt all =
    All-map (λ h. unsigned_abs h < bound) (λ h. pos (shifted n h)) hints (λ k d k_in.
    let u = all k d k_in in
    let greatest = shifted_most n (slice_index_or hints k d) in
    omega (arith, u.1, greatest, lt))

back : (n : Numbering) (hints : List ℕ) → map unsigned_abs (in_log n hints) ≡ map (shifted n) hints
back n [] = refl
back n (h ∷ hints) = ap (λ u. shifted n h ∷ u) (back n hints)

-- the same clauses under other ids
abbrev Renames : Finder → Finder → (ℕ → ℕ) → Type 0
Renames m k f = (id : ℕ) (c : List ℤ) → m id ≡ Some c → k (f id) ≡ Some c

leads_renamed : (m k : Finder) (f : ℕ → ℕ) (ids : List ℕ) (s t : List ℤ) → Renames m k f → Leads m s ids t → Leads k s (map f ids) t
leads_renamed m k f [] s t names same = same
leads_renamed m k f (id ∷ ids) s t names (l, one, rest) = (
  l,
  record { clause = one.clause; found = names id one.clause one.found; leaves = one.leaves; new_in = one.new_in },
  leads_renamed m k f ids (s ++ l ∷ []) t names rest,
)

map_push : (f : ℕ → ℕ) (xs : List ℕ) (x : ℕ) → map f (xs ++ x ∷ []) ≡ map f xs ++ f x ∷ []
map_push f [] x = refl
map_push f (y ∷ xs) x = ap (λ u. f y ∷ u) (map_push f xs x)

accepted_renamed : (m k : Finder) (f : ℕ → ℕ) (v : ℕ) (c : List ℤ) (hints : List ℕ) → Renames m k f → IsAcceptedLine v m c hints → IsAcceptedLine v k c (map f hints)
accepted_renamed m k f v c hints names line =
    let s = line.shown in
    record {
      proper = line.proper;
      shown = record {
        first = map f s.first;
        last = f s.last;
        are = ap (map f) s.are ∙ map_push f s.first s.last;
        reached = s.reached;
        leads = leads_renamed m k f s.first (map neg_ℤ c) s.reached names s.leads;
        conflict = record { clause = s.conflict.clause; found = names s.last s.conflict.clause s.conflict.found; denied = s.conflict.denied };
      };
    }

-- the stage behind an added line
abbrev pub after : Stage → ℕ → List ℤ → Stage
after s id c = record { present = fin.insert s.present id c; top = id; closed = is_nil c }

-- what the kernel takes is an accepted line
goes_add : (v : ℕ) (f : Formula) (n : Numbering) (ks : List Kept) (ls : List Line) (c : List ℤ) (hints : List ℕ) (id : ℕ) → id ≡ length ks + n.room + 1 → (l : LeadTo f n ks ls) → IsAcceptedLine v (find_in ks) c hints
    → Goes v l.reached (Add id c (in_log n hints)) (after l.reached id c)
goes_add v f n ks ls c hints id is l line = (
  l.is_open,
  omega (arith, l.top, is),
  positive n (length ks) hints (hints_used ks v c hints line),
  subst (IsAcceptedLine v (fin.get l.reached.present) c) (sym (back n hints)) (accepted_renamed (find_in ks) (fin.get l.reached.present) (shifted n) v c hints l.present line),
  refl,
)

in_range : (n : ℕ) (c : List ℤ) → n ≤ 2147483647 → All (IsLiteral n) c → All (IsLiteral 2147483647) c
in_range n c le all k d lt = let l = all k d lt in (l.0, omega (arith, l.1))

is_line : (v : ℕ) (n : Numbering) (ks : List Kept) (c : List ℤ) (hints : List ℕ) (id : ℕ) → v ≤ 2147483647 → length ks + n.room < 4294967295 → id ≡ length ks + n.room + 1 → All (IsLiteral v) c → IsAcceptedLine v (find_in ks) c hints
    → IsLine (Add id c (in_log n hints))
is_line v n ks c hints id small few is lits line = (
  (omega (arith, is), omega (arith, is)),
  in_range v c small lits,
  are_hints n (length ks) hints (omega arith) (hints_used ks v c hints line),
)

-- the line that the kernel's log goes on with
pub next_line : (v : ℕ) (n : Numbering) (ks : List Kept) (ls : List Line) (c : List ℤ) (hints : List ℕ) (id : ℕ) → v ≤ 2147483647 → length ks + n.room < 4294967295 → id ≡ length ks + n.room + 1
    → LeadTo (formula_of v ks) n ks ls → All (IsLiteral v) c → IsAcceptedLine v (find_in ks) c hints → IsNext (formula_of v ks) n ls c (Add id c (in_log n hints))
next_line v n ks ls c hints id small few is l lits line = record {
  id = id;
  hints = in_log n hints;
  is = refl;
  in_limits = is_line v n ks c hints id small few is lits line;
  below = are_below n (length ks) (first_id n + length ls) hints (omega (arith, l.count)) (hints_used ks v c hints line);
  reached = after l.reached id c;
  along = along_more v ls (start (formula_of v ks) n.room) l.reached (after l.reached id c) (Add id c (in_log n hints)) l.along (goes_add v (formula_of v ks) n ks ls c hints id is l line);
}

numbered_more : (k : ℕ) (ls : List Line) (id : ℕ) (c : List ℤ) (hints : List ℤ) → AreNumbered k ls → id ≡ k + length ls → is_nil c ≡ false → All (λ h. unsigned_abs h < k + length ls) hints → AreNumbered k (ls ++ Add id c hints ∷ [])
numbered_more k [] id c hints are is some below =
    let e : k + 0 ≡ k = omega arith in
    (is ∙ e, some, subst (λ b. All (λ h. unsigned_abs h < b) hints) e below, tt)
numbered_more k (Add q d others ∷ ls) id c hints are is some below =
    let e : k + suc (length ls) ≡ k + 1 + length ls = omega arith in
    (are.0, are.1, are.2, numbered_more (k + 1) ls id c hints are.3 (is ∙ e) some (subst (λ b. All (λ h. unsigned_abs h < b) hints) e below))
numbered_more k (Delete q ids ∷ ls) id c hints are is some below = absurd are

last_index : (ks : List Kept) (k : Kept) → slice_index_or (ks ++ k ∷ []) (length ks) gone ≡ k
last_index [] k = refl
last_index (j ∷ ks) k = last_index ks k

find_last : (ks : List Kept) (k : Kept) → kept_in (ks ++ k ∷ []) (length ks + 1) ≡ k
find_last ks k = let e : length ks + 1 ≡ suc (length ks) = omega arith in rw e (last_index ks k)

index_other : (ks : List Kept) (k : Kept) (i : ℕ) → i ≢ length ks → slice_index_or (ks ++ k ∷ []) i gone ≡ slice_index_or ks i gone
index_other [] k zero ne = absurd (ne refl)
index_other [] k (suc i) ne = refl
index_other (j ∷ ks) k zero ne = refl
index_other (j ∷ ks) k (suc i) ne = index_other ks k i (λ e. ne (ap suc e))

find_other : (ks : List Kept) (k : Kept) (q : ℕ) → q ≢ length ks + 1 → find_in (ks ++ k ∷ []) q ≡ find_in ks q
find_other ks k zero ne = refl
find_other ks k (suc i) ne = ap live (index_other ks k i (λ e. ne (omega (arith, e))))

abbrev learned_clause : List ℤ → Kept
learned_clause c = record { origin = Learned; clause = c }

present_more : (n : Numbering) (ks : List Kept) (m : ById) (c : List ℤ) (id : ℕ) → n.base ≤ length ks → id ≡ length ks + n.room + 1 → ((q : ℕ) (d : List ℤ) → find_in ks q ≡ Some d → fin.get m (shifted n q) ≡ Some d)
    → (q : ℕ) (d : List ℤ) → find_in (ks ++ learned_clause c ∷ []) q ≡ Some d → fin.get (fin.insert m id c) (shifted n q) ≡ Some d
present_more n ks m c id base is present q d e =
    by_eq q (length ks + 1)
    (λ same.
    let new : shifted n q ≡ id = shifted_behind n q (omega (arith, same, base)) ∙ (let f : q + n.room ≡ length ks + n.room + 1 = omega (arith, same) in f ∙ sym is) in
    let found : Some c ≡ Some d = sym (ap live (find_last ks (learned_clause c))) ∙ subst (λ p. find_in (ks ++ learned_clause c ∷ []) p ≡ Some d) same e in
    ap (fin.get (fin.insert m id c)) new ∙ get_same m id c ∙ found)
    (λ ne.
    let old : find_in ks q ≡ Some d = sym (find_other ks (learned_clause c) q ne) ∙ e in
    let u = used ks q d old in
    let most = shifted_most n q in
    get_new m id (shifted n q) c (λ same. omega (arith, same, most, u.1, is)) ∙ present q d old)

length_learned : (ks : List Kept) (c : List ℤ) → length (ks ++ learned_clause c ∷ []) ≡ length ks + 1
length_learned ks c = length-append ks (learned_clause c ∷ [])

-- a clause that is learned keeps the log open, but for the empty clause
logged_open : (v : ℕ) (n : Numbering) (ks : List Kept) (ls : List Line) (end : Option Line) (c : List ℤ) (hints : List ℕ) (id : ℕ) → v ≤ 2147483647 → length ks + n.room < 4294967295 → id ≡ length ks + n.room + 1
    → IsLog Open n v ks ls end → All (IsLiteral v) c → IsAcceptedLine v (find_in ks) c hints → is_nil c ≡ false
    → IsLog Open n v (ks ++ learned_clause c ∷ []) (ls ++ Add id c (in_log n hints) ∷ []) None
unfolding next_line
logged_open v n ks ls end c hints id small few is log lits line open_ =
    let are = log.0 in
    let l = log.1 in
    let next = next_line v n ks ls c hints id small few is l lits line in
    let same : formula_of v (ks ++ learned_clause c ∷ []) ≡ formula_of v ks = ap (λ cs. record { vars = v; clauses = cs }) (added_learned ks c) in
    subst (λ (f : Formula). AreLines f n (ls ++ Add id c (in_log n hints) ∷ []) × LeadTo f n (ks ++ learned_clause c ∷ []) (ls ++ Add id c (in_log n hints) ∷ []) × Unit {0}) (sym same) (
      record {
        base = are.base;
        shared = let le = are.shared in omega (arith, le, length-append ls (Add id c (in_log n hints) ∷ []));
        in_limits = All-push IsLine ls _ are.in_limits next.in_limits;
        small = are.small;
        numbered = numbered_more (first_id n) ls id c (in_log n hints) are.numbered (omega (arith, is, l.count)) open_ next.below;
      },
      record {
        reached = after l.reached id c;
        along = next.along;
        present = present_more n ks l.reached.present c id (omega (arith, l.count)) is l.present;
        top = omega (arith, is, length_learned ks c);
        count = omega (arith, l.count, length_learned ks c, length-append ls (Add id c (in_log n hints) ∷ []));
        is_open = open_;
      },
      tt,
    )

-- ---- where a log that is closed has led to

reaches_more : (f : Formula) (n : Numbering) (ks now : List Kept) (ls : List Line) → length ks ≤ length now → Reaches f n ks ls → Reaches f n now ls
reaches_more f n ks now ls le r = record { reached = r.reached; along = r.along; top = let top = r.top in omega (arith, top, le) }

reaches_by : (f : Formula) (n : Numbering) (ks : List Kept) (ls : List Line) → LeadTo f n ks ls → Reaches f n ks ls
reaches_by f n ks ls l = record { reached = l.reached; along = l.along; top = omega (arith, l.top) }

-- ---- clauses that are forgotten

find_kept : (ks now : List Kept) (ids : List ℕ) (id : ℕ) (c : List ℤ) → Forgets ks now ids → find_in now id ≡ Some c → find_in ks id ≡ Some c
find_kept ks now ids id c out e =
    elim (out.each id) [
      | inl went ↦ absurd (none_some c (sym (ap live went.1) ∙ e))
      | inr stays ↦ sym (ap live stays.1) ∙ e
    ]

-- the log stands where clauses were forgotten
pub logged_forgets : (log : Logging) (n : Numbering) (v m : ℕ) (ks now : List Kept) (ls : List Line) (end : Option Line) (ids : List ℕ) → m ≡ v → added now ≡ added ks → Forgets ks now ids
    → IsLog log n v ks ls end → IsLog log n m now ls end
logged_forgets Unwanted n v m ks now ls end ids vars same out l = tt
logged_forgets Open n v m ks now ls end ids vars same out l =
    let f : formula_of m now ≡ formula_of v ks = ap (λ u. record { vars = u; clauses = added now }) vars ∙ ap (λ cs. record { vars = v; clauses = cs }) same in
    subst (λ (f : Formula). AreLines f n ls × LeadTo f n now ls × IfSome end (λ l. IsNext f n ls (clause_of l) l)) (sym f) (
      l.0,
      record {
        reached = l.1.reached;
        along = l.1.along;
        present = λ id c e. l.1.present id c (find_kept ks now ids id c out e);
        top = l.1.top ∙ ap (λ k. k + n.room) (sym out.same_ids);
        count = out.same_ids ∙ l.1.count;
        is_open = l.1.is_open;
      },
      l.2,
    )
logged_forgets Closed n v m ks now ls end ids vars same out l =
    let f : formula_of m now ≡ formula_of v ks = ap (λ u. record { vars = u; clauses = added now }) vars ∙ ap (λ cs. record { vars = v; clauses = cs }) same in
    subst (λ (f : Formula). AreLines f n ls × ((l : Line) × (end ≡ Some l) × IsNext f n ls [] l) × Reaches f n now ls) (sym f)
    (l.0, l.1, reaches_more (formula_of v ks) n ks now ls (omega (arith, out.same_ids)) l.2)

-- ---- where no line is written

-- a log that is not open stays as it is
pub logged_not : (log : Logging) (n : Numbering) (v m : ℕ) (ks now : List Kept) (ls : List Line) (end : Option Line) → (log ≡ Open → ⊥) → m ≡ v → added now ≡ added ks → length ks ≤ length now → IsLog log n v ks ls end → IsLog log n m now ls end
logged_not Unwanted n v m ks now ls end ne vars same le l = tt
logged_not Open n v m ks now ls end ne vars same le l = absurd (ne refl)
logged_not Closed n v m ks now ls end ne vars same le l =
    let f : formula_of m now ≡ formula_of v ks = ap (λ u. record { vars = u; clauses = added now }) vars ∙ ap (λ cs. record { vars = v; clauses = cs }) same in
    subst (λ (f : Formula). AreLines f n ls × ((l : Line) × (end ≡ Some l) × IsNext f n ls [] l) × Reaches f n now ls) (sym f)
    (l.0, l.1, reaches_more (formula_of v ks) n ks now ls le l.2)

-- one that is not wanted says nothing
pub logged_unwanted : (log : Logging) (n : Numbering) (v : ℕ) (ks : List Kept) (ls : List Line) (end : Option Line) → is_wanted log ≡ false → IsLog log n v ks ls end
logged_unwanted Unwanted n v ks ls end e = tt
logged_unwanted Open n v ks ls end e = absurd (let f : true ≡ false = e in cc)
logged_unwanted Closed n v ks ls end e = absurd (let f : true ≡ false = e in cc)

pub is_unwanted : (log : Logging) → is_wanted log ≡ false → log ≡ Unwanted
is_unwanted Unwanted e = refl
is_unwanted Open e = absurd (let f : true ≡ false = e in cc)
is_unwanted Closed e = absurd (let f : true ≡ false = e in cc)

pub closed_of : (log : Logging) → (log ≡ Open → ⊥) → is_wanted log ≡ true → log ≡ Closed
closed_of Unwanted ne e = absurd (let f : false ≡ true = e in cc)
closed_of Open ne e = absurd (ne refl)
closed_of Closed ne e = refl

-- ---- what the calls of the kernel leave of a log

pub learns_grows : (old new : Known) (c : List ℤ) (hints : List ℕ) (b : Bool) → Learns old new c hints b → length old.kept ≤ length new.kept
learns_grows old new c hints true l = omega (arith, ap (λ (k : Known). length k.kept) l.1, length_learned old.kept c)
learns_grows old new c hints false l = omega (arith, ap (λ (k : Known). length k.kept) l.1)

-- no id goes, whatever a call answers that adds one or is refused
pub grows : {A E : Type 0} (old new : Known) (r : Result A E) (P : A → Type 0) → IfOk r P → ((a : A) → P a → length old.kept ≤ length new.kept) → OnErr r (new ≡ old) → length old.kept ≤ length new.kept
grows old new (Ok a) P p more same = more a p
grows old new (Err e) P p more same = omega (arith, ap (λ (k : Known). length k.kept) same)

pub learned_of : (old new : Known) (c : List ℤ) (hints : List ℕ) (b : Bool) → b ≡ true → Learns old new c hints b → IsLearned old c hints × (new ≡ with_clause old Learned c)
learned_of old new c hints true e l = l
learned_of old new c hints false e l = absurd (let f : false ≡ true = e in cc)

pub learned_open : (old new : Known) (n : Numbering) (ls : List Line) (end : Option Line) (c : List ℤ) (hints : List ℕ) (id : ℕ) → old.vars ≤ 2147483647 → length old.kept + n.room < 4294967295 → id ≡ length old.kept + n.room + 1
    → IsLog Open n old.vars old.kept ls end → IsLearned old c hints × (new ≡ with_clause old Learned c) → is_nil c ≡ false
    → IsLog Open n new.vars new.kept (ls ++ Add id c (map (λ h. pos (shifted n h)) hints) ∷ []) None
learned_open old new n ls end c hints id small few is log l open_ =
    subst (λ (k : Known). IsLog Open n k.vars k.kept (ls ++ Add id c (in_log n hints) ∷ []) None) (sym l.1)
    (logged_open old.vars n old.kept ls end c hints id small few is log l.0.literals l.0.accepted open_)

pub learned_closed : (old new : Known) (n : Numbering) (ls : List Line) (end : Option Line) (c : List ℤ) (hints : List ℕ) (id : ℕ) → old.vars ≤ 2147483647 → length old.kept + n.room < 4294967295 → id ≡ length old.kept + n.room + 1
    → IsLog Open n old.vars old.kept ls end → IsLearned old c hints × (new ≡ with_clause old Learned c) → c ≡ []
    → IsLog Closed n new.vars new.kept ls (Some (Add id c (map (λ h. pos (shifted n h)) hints)))
learned_closed old new n ls end c hints id small few is log l nil =
    let same : formula_of old.vars (with_clause old Learned c).kept ≡ formula_of old.vars old.kept = ap (λ cs. record { vars = old.vars; clauses = cs }) (added_learned old.kept c) in
    let line : Line = Add id c (in_log n hints) in
    let next : IsNext (formula_of old.vars old.kept) n ls c line = next_line old.vars n old.kept ls c hints id small few is log.1 l.0.literals l.0.accepted in
    subst (λ (k : Known). IsLog Closed n k.vars k.kept ls (Some line)) (sym l.1)
    (subst (λ (f : Formula). AreLines f n ls × ((l : Line) × (Some line ≡ Some l) × IsNext f n ls [] l) × Reaches f n (with_clause old Learned c).kept ls) (sym same) (
      log.0,
      (line, refl, subst (λ d. IsNext (formula_of old.vars old.kept) n ls d line) nil next),
      reaches_more (formula_of old.vars old.kept) n old.kept (with_clause old Learned c).kept ls (omega (arith, length_learned old.kept c)) (reaches_by (formula_of old.vars old.kept) n old.kept ls log.1),
    ))

-- a core's clause is a line that may follow
pub core_open : (old new : Known) (n : Numbering) (ls : List Line) (end : Option Line) (c : List ℤ) (hints : List ℕ) (id : ℕ) → new.vars ≤ 2147483647 → length new.kept + n.room < 4294967295 → id ≡ length new.kept + n.room + 1
    → new ≡ old → IsLog Open n old.vars old.kept ls end → IsLearned old c hints
    → IsLog Open n new.vars new.kept ls (Some (Add id c (map (λ h. pos (shifted n h)) hints)))
core_open old new n ls end c hints id small few is same log learned =
    let log' : IsLog Open n new.vars new.kept ls end = subst (λ (k : Known). IsLog Open n k.vars k.kept ls end) (sym same) log in
    let learned' : IsLearned new c hints = subst (λ (k : Known). IsLearned k c hints) (sym same) learned in
    (log'.0, log'.1, next_line new.vars n new.kept ls c hints id small few is log'.1 learned'.literals learned'.accepted)

pub if_true : (A : Type 0) (b : Bool) (x y : A) → b ≡ true → (if b then x else y) ≡ x
if_true A true x y e = refl
if_true A false x y e = absurd (let f : false ≡ true = e in cc)

pub if_false : (A : Type 0) (b : Bool) (x y : A) → b ≡ false → (if b then x else y) ≡ y
if_false A false x y e = refl
if_false A true x y e = absurd (let f : true ≡ false = e in cc)

pub empty_is : (c : List ℤ) (b : Bool) → b ≡ true → b ≡ (length c == 0) → c ≡ []
empty_is [] b e f = refl
empty_is (l ∷ c) b e f = absurd (let g : (length (l ∷ c) == 0) ≡ true = sym f ∙ e in let h : length (l ∷ c) ≡ suc (length c) = refl in grind (arith, nat_tests))

pub nonempty_is : (c : List ℤ) (b : Bool) → b ≡ false → b ≡ (length c == 0) → is_nil c ≡ false
nonempty_is [] b e f = absurd (let g : true ≡ false = sym f ∙ e in cc)
nonempty_is (l ∷ c) b e f = refl
