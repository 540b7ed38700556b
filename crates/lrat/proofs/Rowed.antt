-- Clauses as lists, and gates among them.
use Rattle.std.proofs.Common.{◌≡◌, ℕ, zero, suc, ◌+◌, ◌-◌, ◌*◌, ◌<◌, ◌≤◌, List, [], ◌∷◌, ◌++◌, ℤ, take, drop, length, map, get_or, flat_map, refl, sym, ◌∙◌, ap, subst, arith, All}
use Rattle.std.proofs.lemmas.List.{append_assoc, append-nil, length-append, length-drop, length-take-le, take-append-le, drop-append-le, take_all, drop_all, drop_more, get_or-take, get_or-drop, get_or_append_left, get_or-append_right, length-map}
use Rattle.std.proofs.lemmas.List.Elements.{All-head, All-push, All-tail, All-weaker}
use Rattle.lrat.specs.Rows.{and_clauses, moved_gate, FitsMoved, run_clauses, with_inside, rows, gate_count, IsRunIn, AreRowed}
use Rattle.lrat.specs.declared.gate_literals.GateLiterals.{GateLiterals}
use Rattle.lrat.specs.declared.run.Run.{Run}

-- ---- a list inside of another

inside_more : {A : Type 0} (n : ℕ) (ys xs zs : List A) → n ≤ length xs → with_inside n ys (xs ++ zs) ≡ with_inside n ys xs ++ zs
inside_more {A = A} n ys xs zs le =
    ap (λ (us : List A). us ++ ys ++ drop n (xs ++ zs)) (take-append-le n xs zs le)
    ∙ ap (λ (us : List A). take n xs ++ ys ++ us) (drop-append-le n xs zs le)
    ∙ sym (append_assoc (take n xs ++ ys) (drop n xs) zs)

inside_length : {A : Type 0} (n : ℕ) (ys xs : List A) → n ≤ length xs → length (with_inside n ys xs) ≡ length ys + length xs
inside_length n ys xs le =
    let whole = length-append (take n xs ++ ys) (drop n xs) in
    let front = length-append (take n xs) ys in
    let taken = length-take-le n xs le in
    let left = length-drop n xs in
    omega (arith, whole, front, taken, left)

inside_before : {A : Type 0} (n : ℕ) (ys xs : List A) (i : ℕ) (d : A) → n ≤ length xs → i < n → get_or (with_inside n ys xs) i d ≡ get_or xs i d
inside_before n ys xs i d le lt =
    let front = length-append (take n xs) ys in
    let taken = length-take-le n xs le in
    get_or_append_left (take n xs ++ ys) (drop n xs) d i (omega (arith, front, taken))
    ∙ get_or_append_left (take n xs) ys d i (omega (arith, taken))
    ∙ get_or-take n xs i d lt

inside_within : {A : Type 0} (n : ℕ) (ys xs : List A) (i : ℕ) (d : A) → n ≤ length xs → n ≤ i → i < n + length ys → get_or (with_inside n ys xs) i d ≡ get_or ys (i - n) d
inside_within n ys xs i d le from lt =
    let front = length-append (take n xs) ys in
    let taken : length (take n xs) ≡ n = length-take-le n xs le in
    get_or_append_left (take n xs ++ ys) (drop n xs) d i (omega (arith, front, taken))
    ∙ get_or-append_right (take n xs) ys n i d taken from

inside_behind : {A : Type 0} (n : ℕ) (ys xs : List A) (i : ℕ) (d : A) → n ≤ length xs → n + length ys ≤ i → get_or (with_inside n ys xs) i d ≡ get_or xs (i - length ys) d
inside_behind n ys xs i d le from =
    let front = length-append (take n xs) ys in
    let taken = length-take-le n xs le in
    get_or-append_right (take n xs ++ ys) (drop n xs) (n + length ys) i d (omega (arith, front, taken)) from
    ∙ get_or-drop n xs (i - (n + length ys)) d
    ∙ ap (λ k. get_or xs k d) (let e : n + (i - (n + length ys)) ≡ i - length ys = omega (arith, from) in e)

-- ---- how many clauses there are

length_gates : (gs : List GateLiterals) → length (flat_map and_clauses gs) ≡ 3 * length gs
length_gates [] = refl
length_gates (g ∷ gs) = let e = length_gates gs in omega (arith, length-append (and_clauses g) (flat_map and_clauses gs))

pub length_run : (r : Run) → length (run_clauses r) ≡ 3 * length r.gates.now
length_run r = length_gates (map (moved_gate r.shift) r.gates.now) ∙ ap (λ n. 3 * n) (length-map r.gates.now (moved_gate r.shift))

pub length_rows : (ls : List (List ℤ)) (rs : List Run) → AreRowed ls rs → length (rows ls rs) ≡ length ls + 3 * gate_count rs
length_rows ls [] are = omega arith
length_rows ls (r ∷ rs) are =
    let more = length_rows ls rs (All-tail (IsRunIn (length ls)) r rs are) in
    let within = (All-head (IsRunIn (length ls)) r rs are).within in
    let size = length_run r in
    inside_length r.lists (run_clauses r) (rows ls rs) (omega (arith, more, within)) ∙ omega (arith, more, size)

run_within : (ls : List (List ℤ)) (r : Run) (rs : List Run) → AreRowed ls (r ∷ rs) → r.lists ≤ length (rows ls rs)
run_within ls r rs are =
    let more = length_rows ls rs (All-tail (IsRunIn (length ls)) r rs are) in
    let within = (All-head (IsRunIn (length ls)) r rs are).within in
    omega (arith, more, within)

-- ---- a list more, or a run

rowed_wider : (n m : ℕ) (rs : List Run) → n ≤ m → All (IsRunIn n) rs → All (IsRunIn m) rs
rowed_wider n m rs le are = All-weaker (IsRunIn n) (IsRunIn m) (λ r is. let within = is.within in record { within = omega (arith, within, le); fits = is.fits }) rs are

pub listed_more : (ls : List (List ℤ)) (rs : List Run) (c : List ℤ) → AreRowed ls rs → AreRowed (ls ++ c ∷ []) rs
listed_more ls rs c are = rowed_wider (length ls) (length (ls ++ c ∷ [])) rs (omega (arith, length-append ls (c ∷ []))) are

pub rows_list : (ls : List (List ℤ)) (rs : List Run) (c : List ℤ) → AreRowed ls rs → rows (ls ++ c ∷ []) rs ≡ rows ls rs ++ c ∷ []
rows_list ls [] c are = refl
rows_list ls (r ∷ rs) c are =
    ap (with_inside r.lists (run_clauses r)) (rows_list ls rs c (All-tail (IsRunIn (length ls)) r rs are)) ∙ inside_more r.lists (run_clauses r) (rows ls rs) (c ∷ []) (run_within ls r rs are)

pub gated_more : (ls : List (List ℤ)) (rs : List Run) (r : Run) → r.lists ≡ length ls → All (FitsMoved r.shift) r.gates.now → AreRowed ls rs → AreRowed ls (rs ++ r ∷ [])
gated_more ls rs r at fits are = All-push (IsRunIn (length ls)) rs r are record { within = omega (arith, at); fits = fits }

pub rows_gates : (ls : List (List ℤ)) (rs : List Run) (r : Run) → r.lists ≡ length ls → AreRowed ls rs → rows ls (rs ++ r ∷ []) ≡ rows ls rs ++ run_clauses r
rows_gates ls [] r at are =
    ap (λ (us : List (List ℤ)). us ++ run_clauses r ++ drop r.lists ls) (take_all r.lists ls (omega (arith, at)))
    ∙ ap (λ (us : List (List ℤ)). ls ++ run_clauses r ++ us) (drop_all r.lists ls (omega (arith, at))) ∙ append-nil (ls ++ run_clauses r)
rows_gates ls (x ∷ rs) r at are =
    ap (with_inside x.lists (run_clauses x)) (rows_gates ls rs r at (All-tail (IsRunIn (length ls)) x rs are)) ∙ inside_more x.lists (run_clauses x) (rows ls rs) (run_clauses r) (run_within ls x rs are)

-- ---- the clause at an index

gate_at : (gs : List GateLiterals) (q r j : ℕ) (d : GateLiterals) → q < length gs → r < 3 → j ≡ 3 * q + r → get_or (flat_map and_clauses gs) j [] ≡ get_or (and_clauses (get_or gs q d)) r []
gate_at [] q r j d lt small e = absurd (omega arith)
gate_at (g ∷ gs) zero r j d lt small e =
    let s : j ≡ r = omega (arith, e) in
    ap (λ k. get_or (flat_map and_clauses (g ∷ gs)) k []) s ∙ get_or_append_left (and_clauses g) (flat_map and_clauses gs) [] r small
gate_at (g ∷ gs) (suc q) r j d lt small e =
    get_or-append_right (and_clauses g) (flat_map and_clauses gs) 3 j [] refl (omega (arith, e)) ∙ gate_at gs q r (j - 3) d (omega arith) small (omega (arith, e))

moved_at : (s : ℕ) (gs : List GateLiterals) (q : ℕ) (d : GateLiterals) → q < length gs → get_or (map (moved_gate s) gs) q (moved_gate s d) ≡ moved_gate s (get_or gs q d)
moved_at s [] q d lt = refl
moved_at s (g ∷ gs) zero d lt = refl
moved_at s (g ∷ gs) (suc q) d lt = moved_at s gs q d (omega arith)

-- the index that is looked for is left at run k
pub record IsLeft (ls : List (List ℤ)) (rs : List Run) (index k left : ℕ) : Type 0 where
  pub are : AreRowed ls (drop k rs)
  pub within : left < length (rows ls (drop k rs))
  pub same : get_or (rows ls rs) index [] ≡ get_or (rows ls (drop k rs)) left []

pub left_none : (ls : List (List ℤ)) (rs : List Run) (index : ℕ) → AreRowed ls rs → index < length (rows ls rs) → IsLeft ls rs index 0 index
left_none ls rs index are lt = record { are = are; within = lt; same = refl }

-- what is left at a run, and behind it
record IsAtRun (ls : List (List ℤ)) (rs : List Run) (index left : ℕ) (r : Run) (more : List Run) : Type 0 where
  is : IsRunIn (length ls) r
  are : AreRowed ls more
  low : r.lists ≤ length (rows ls more)
  within : left < 3 * length r.gates.now + length (rows ls more)
  same : get_or (rows ls rs) index [] ≡ get_or (with_inside r.lists (run_clauses r) (rows ls more)) left []

at_run : (ls : List (List ℤ)) (rs : List Run) (index k left : ℕ) (r : Run) → k < length rs → r ≡ get_or rs k r → IsLeft ls rs index k left → IsAtRun ls rs index left r (drop (k + 1) rs)
at_run ls rs index k left r lt at is =
    let more : List Run = drop (k + 1) rs in
    let next : drop k rs ≡ r ∷ more = drop_more rs k r lt ∙ ap (λ (s : Run). s ∷ more) (sym at) in
    let are : AreRowed ls (r ∷ more) = subst (λ (ss : List Run). AreRowed ls ss) next is.are in
    let within : left < length (with_inside r.lists (run_clauses r) (rows ls more)) = subst (λ (ss : List Run). left < length (rows ls ss)) next is.within in
    let low = run_within ls r more are in
    let size = length_run r in
    let whole = inside_length r.lists (run_clauses r) (rows ls more) low in
    record {
      is = All-head (IsRunIn (length ls)) r more are;
      are = All-tail (IsRunIn (length ls)) r more are;
      low = low;
      within = omega (arith, within, whole, size);
      same = is.same ∙ ap (λ (ss : List Run). get_or (rows ls ss) left []) next;
    }

-- the run's gates fit
pub left_fits : (ls : List (List ℤ)) (rs : List Run) (index k left : ℕ) (r : Run) → k < length rs → r ≡ get_or rs k r → IsLeft ls rs index k left → All (FitsMoved r.shift) r.gates.now
left_fits ls rs index k left r lt at is = (at_run ls rs index k left r lt at is).is.fits

-- before the run
pub left_before : (ls : List (List ℤ)) (rs : List Run) (index k left : ℕ) (r : Run) → k < length rs → r ≡ get_or rs k r → IsLeft ls rs index k left → left < r.lists → IsLeft ls rs index (k + 1) left
left_before ls rs index k left r lt at is before =
    let here = at_run ls rs index k left r lt at is in
    let low = here.low in
    record {
      are = here.are;
      within = omega (arith, low, before);
      same = here.same ∙ inside_before r.lists (run_clauses r) (rows ls (drop (k + 1) rs)) left [] here.low before;
    }

-- at a gate of the run
pub left_gate : (ls : List (List ℤ)) (rs : List Run) (index k left q j : ℕ) (r : Run) (d : GateLiterals) → k < length rs → r ≡ get_or rs k r → IsLeft ls rs index k left → r.lists ≤ left → q < length r.gates.now → j < 3 → left - r.lists ≡ 3 * q + j
    → get_or (rows ls rs) index [] ≡ get_or (and_clauses (moved_gate r.shift (get_or r.gates.now q d))) j []
left_gate ls rs index k left q j r d lt at is from in_gates small e =
    let here = at_run ls rs index k left r lt at is in
    let size = length_run r in
    let many : length (map (moved_gate r.shift) r.gates.now) ≡ length r.gates.now = length-map r.gates.now (moved_gate r.shift) in
    here.same ∙ inside_within r.lists (run_clauses r) (rows ls (drop (k + 1) rs)) left [] here.low from (omega (arith, size, e, in_gates, small, from))
    ∙ gate_at (map (moved_gate r.shift) r.gates.now) q j (left - r.lists) (moved_gate r.shift d) (omega (arith, many, in_gates)) small e
    ∙ ap (λ (g : GateLiterals). get_or (and_clauses g) j []) (moved_at r.shift r.gates.now q d in_gates)

-- behind the run
pub left_behind : (ls : List (List ℤ)) (rs : List Run) (index k left later : ℕ) (r : Run) → k < length rs → r ≡ get_or rs k r → IsLeft ls rs index k left → r.lists + 3 * length r.gates.now ≤ left → later ≡ left - 3 * length r.gates.now
    → IsLeft ls rs index (k + 1) later
left_behind ls rs index k left later r lt at is from e =
    let here = at_run ls rs index k left r lt at is in
    let size = length_run r in
    let within = here.within in
    record {
      are = here.are;
      within = omega (arith, within, from, e);
      same = here.same ∙ inside_behind r.lists (run_clauses r) (rows ls (drop (k + 1) rs)) left [] here.low (omega (arith, size, from))
          ∙ ap (λ n. get_or (rows ls (drop (k + 1) rs)) n []) (let s : left - length (run_clauses r) ≡ later = omega (arith, size, e) in s);
    }

-- behind all runs
pub left_list : (ls : List (List ℤ)) (rs : List Run) (index k left : ℕ) → length rs ≤ k → IsLeft ls rs index k left → (left < length ls) × (get_or (rows ls rs) index [] ≡ get_or ls left [])
left_list ls rs index k left past is =
    let none : drop k rs ≡ [] = drop_all k rs past in
    (subst (λ (ss : List Run). left < length (rows ls ss)) none is.within, is.same ∙ ap (λ (ss : List Run). get_or (rows ls ss) left []) none)

-- ---- how many are counted so far

gates_next : (rs : List Run) (k : ℕ) (r : Run) → k < length rs → r ≡ get_or rs k r → gate_count (take (suc k) rs) ≡ gate_count (take k rs) + length r.gates.now
gates_next [] k r lt at = absurd (omega arith)
gates_next (x ∷ rs) zero r lt at = ap (λ (y : Run). length y.gates.now + 0) (sym at) ∙ omega arith
gates_next (x ∷ rs) (suc k) r lt at = let e = gates_next rs k r (omega arith) at in omega (arith, e)

pub gates_more : (rs : List Run) (k : ℕ) (r : Run) → k < length rs → r ≡ get_or rs k r → gate_count (take (k + 1) rs) ≡ gate_count (take k rs) + length r.gates.now
gates_more rs k r lt at = ap (λ i. gate_count (take i rs)) (let e : k + 1 ≡ suc k = omega arith in e) ∙ gates_next rs k r lt at

pub gates_within : (rs : List Run) (k : ℕ) → gate_count (take k rs) ≤ gate_count rs
gates_within [] zero = omega arith
gates_within [] (suc k) = omega arith
gates_within (x ∷ rs) zero = omega arith
gates_within (x ∷ rs) (suc k) = let e = gates_within rs k in omega (arith, e)
