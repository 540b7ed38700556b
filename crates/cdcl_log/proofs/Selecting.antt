-- A walk over the lines that are wanted, from the last one to the first.
use Rattle.std.proofs.Common.{◌≡◌, ◌≢◌, ◌∙◌, inl, inr, ℕ, zero, suc, ℤ, ◌+◌, ◌<◌, ◌≤◌, ◌==◌, ◌||◌, ◌-◌, ◌⊎◌, Bool, true, false, cond, List, [], ◌∷◌, ◌++◌, All, pos, length, take, reverse, get_or, unsigned_abs, refl, sym, ap, subst, arith, add-one, take-suc, take_all, length-append}
use Rattle.std.specs.List.{list_any}
use Rattle.std.specs.Ordering.{nat_cmp, eq_by_cmp, is_lt}
use Rattle.std.specs.Cmp.{nat_cmp_is, unsigned_tied}
use Rattle.std.specs.declared.cmp.Ordering.TheVariants.{Less}
use Rattle.std.proofs.lemmas.List.Folds.{list_any_more}
use Rattle.std.proofs.lemmas.Bool.{cases_lt}
use Rattle.std.proofs.lemmas.Bool.Decides.{nat_tests}
use Rattle.std.proofs.lemmas.List.{reverse-append}
use Rattle.std.proofs.lemmas.List.Elements.{All-cons, All-head, All-tail, All-nil}
use Rattle.lrat.specs.Limits.{IsLine}
use Rattle.lrat.specs.Hinted.{hinted}
use Rattle.lrat.specs.Stages.{is_nil}
use Rattle.lrat.specs.Trimming.{hints_id, is_needed, kept_before, trimmed}
use Rattle.lrat.specs.declared.line.Line.{Line}
use Rattle.lrat.specs.declared.line.Line.TheVariants.{Add, Delete}
use Rattle.lrat.proofs.Walked.{onto, onto_last, onto_none}
use Rattle.cdcl_log.specs.Logged.{AreNumbered}
use Rattle.cdcl_log.specs.Selected.{IsClosing}

-- ---- the line of an id

pub record IsNumbered (id : ℕ) (line : Line) : Type 0 where
  pub clause : List ℤ
  pub hints : List ℤ
  pub is : line ≡ Add id clause hints
  pub some : is_nil clause ≡ false
  pub below : All (λ h. unsigned_abs h < id) hints

pub numbered_line : (first : ℕ) (lines : List Line) (i : ℕ) (d : Line) → AreNumbered first lines → i < length lines → IsNumbered (first + i) (get_or lines i d)
numbered_line first [] i d are lt = absurd (omega arith)
numbered_line first (Add id c hints ∷ lines) zero d are lt =
    let e : first + 0 ≡ first = omega arith in
    rw e (record { clause = c; hints = hints; is = ap (λ q. Add q c hints) are.0; some = are.1; below = are.2 })
numbered_line first (Add id c hints ∷ lines) (suc i) d are lt =
    let e : first + suc i ≡ first + 1 + i = omega arith in
    rw e (numbered_line (first + 1) lines i d are.3 (omega arith))
numbered_line first (Delete id ids ∷ lines) i d are lt = absurd are

is_same : (a b : ℕ) → (a == b) ≡ true → a ≡ b
is_same a b e = grind (arith, nat_tests)

hinted_below : (hints : List ℤ) (n q : ℕ) → All (λ h. unsigned_abs h < n) hints → list_any (λ h. unsigned_abs h == q) hints ≡ true → q < n
hinted_below [] n q all e = cc
hinted_below (h ∷ hints) n q all e =
    elim (unsigned_abs h == q) as (λ b. (unsigned_abs h == q) ≡ b → (b || list_any (λ k. unsigned_abs k == q) hints) ≡ true → q < n) [
      | true ↦ λ same _. let lt : unsigned_abs h < n = All-head (λ k. unsigned_abs k < n) h hints all in let f : unsigned_abs h ≡ q = is_same _ _ same in omega (arith, lt, f)
      | false ↦ λ _ more. hinted_below hints n q (All-tail (λ k. unsigned_abs k < n) h hints all) more
    ] refl e

-- ---- lines that are skipped, and one that is kept

take_next : (lines : List Line) (i : ℕ) (d : Line) → i < length lines → take (i + 1) lines ≡ take i lines ++ get_or lines i d ∷ []
take_next lines i d lt = rw add-one (take-suc lines i d lt)

not_needed : (id : ℕ) (line : Line) (kept : List Line) → IsNumbered id line → hinted kept id ≡ false → is_needed line kept ≡ false
not_needed id line kept n none = ap (λ l. is_needed l kept) n.is ∙ ap (λ b. b || hinted kept id) n.some ∙ none

needed : (id : ℕ) (line : Line) (kept : List Line) → IsNumbered id line → hinted kept id ≡ true → is_needed line kept ≡ true
needed id line kept n some = ap (λ l. is_needed l kept) n.is ∙ ap (λ b. b || hinted kept id) n.some ∙ some

skip : (first : ℕ) (lines kept : List Line) (low n : ℕ) (d : Line) → AreNumbered first lines → low + n ≤ length lines → ((i : ℕ) → low ≤ i → i < low + n → hinted kept (first + i) ≡ false)
    → onto (take (low + n) lines) kept ≡ onto (take low lines) kept
skip first lines kept low zero d are le none = ap (λ k. onto (take k lines) kept) (let e : low + 0 ≡ low = omega arith in e)
skip first lines kept low (suc n) d are le none =
    let at : low + suc n ≡ low + n + 1 = omega arith in
    let lt : low + n < length lines = omega arith in
    let line : Line = get_or lines (low + n) d in
    let out : kept_before line kept ≡ kept =
    ap (λ b. cond b (line ∷ kept) kept) (not_needed (first + (low + n)) line kept (numbered_line first lines (low + n) d are lt) (none (low + n) (omega arith) (omega arith))) in
    ap (λ k. onto (take k lines) kept) at ∙ ap (λ ls. onto ls kept) (take_next lines (low + n) d lt) ∙ onto_last (take (low + n) lines) line kept
    ∙ ap (onto (take (low + n) lines)) out ∙ skip first lines kept low n d are (omega arith) (λ i low_i lt_i. none i low_i (omega arith))

keep : (first : ℕ) (lines kept : List Line) (i : ℕ) (d : Line) → AreNumbered first lines → i < length lines → hinted kept (first + i) ≡ true → onto (take (i + 1) lines) kept ≡ onto (take i lines) (get_or lines i d ∷ kept)
keep first lines kept i d are lt some =
    let line : Line = get_or lines i d in
    let in_ : kept_before line kept ≡ line ∷ kept = ap (λ b. cond b (line ∷ kept) kept) (needed (first + i) line kept (numbered_line first lines i d are lt) some) in
    ap (λ ls. onto ls kept) (take_next lines i d lt) ∙ onto_last (take i lines) line kept ∙ ap (onto (take i lines)) in_

-- ---- what is wanted of hints

-- of the first k hints those that are no lower are wanted, and what was
pub record Told (first : ℕ) (hints : List ℤ) (old now : ℕ → Bool) (k : ℕ) : Type 0 where
  pub added : (q : ℕ) → first ≤ q → now q ≡ (list_any (λ h. unsigned_abs h == q) (take k hints) || old q)
  pub others : (q : ℕ) → q < first → now q ≡ old q

pub told_begun : (first : ℕ) (hints : List ℤ) (old : ℕ → Bool) → Told first hints old old 0
told_begun first hints old = record { added = λ q low. refl; others = λ q low. refl }

or_put : (a b c : Bool) → cond b true (a || c) ≡ ((a || b) || c)
or_put true true c = refl
or_put true false c = refl
or_put false true c = refl
or_put false false c = refl

or_out : (a b c : Bool) → b ≡ false → ((a || b) || c) ≡ (a || c)
or_out true b c e = refl
or_out false true c e = let f : true ≡ false = e in cc
or_out false false c e = refl

pub is_other : (a b : ℕ) → a ≢ b → (a == b) ≡ false
is_other a b ne = grind (arith, nat_tests)

pub told_put : (first : ℕ) (hints : List ℤ) (old now next : ℕ → Bool) (k id : ℕ) → k < length hints → id ≡ unsigned_abs (get_or hints k (pos 0)) → first ≤ id
    → ((q : ℕ) → next q ≡ cond (eq_by_cmp nat_cmp id q) true (now q)) → Told first hints old now k → Told first hints old next (k + 1)
told_put first hints old now next k id lt is le put told =
    let p : ℕ → ℤ → Bool = λ q h. unsigned_abs h == q in
    record {
      added = λ q low.
          put q ∙ ap (λ b. cond b true (now q)) (unsigned_tied id q ∙ ap (λ i. i == q) is) ∙ ap (λ b. cond (p q (get_or hints k (pos 0))) true b) (told.added q low)
          ∙ or_put (list_any (p q) (take k hints)) (p q (get_or hints k (pos 0))) (old q) ∙ sym (ap (λ b. b || old q) (list_any_more (p q) hints k (pos 0) lt));
      others = λ q low. put q ∙ ap (λ b. cond b true (now q)) (unsigned_tied id q ∙ is_other id q (λ same. omega (arith, same, low, le))) ∙ told.others q low;
    }

pub told_skip : (first : ℕ) (hints : List ℤ) (old now : ℕ → Bool) (k id : ℕ) → k < length hints → id ≡ unsigned_abs (get_or hints k (pos 0)) → id < first → Told first hints old now k → Told first hints old now (k + 1)
told_skip first hints old now k id lt is below told =
    let p : ℕ → ℤ → Bool = λ q h. unsigned_abs h == q in
    record {
      added = λ q low.
          told.added q low ∙ sym (ap (λ b. b || old q) (list_any_more (p q) hints k (pos 0) lt)
          ∙ or_out (list_any (p q) (take k hints)) (p q (get_or hints k (pos 0))) (old q) (is_other (unsigned_abs (get_or hints k (pos 0))) q (λ same. omega (arith, same, low, below, is))));
      others = told.others;
    }

pub told_all : (first : ℕ) (hints : List ℤ) (old now : ℕ → Bool) (k : ℕ) → length hints ≤ k → Told first hints old now k → (q : ℕ) → first ≤ q → now q ≡ (list_any (λ h. unsigned_abs h == q) hints || old q)
told_all first hints old now k le told q low = told.added q low ∙ ap (λ hs. list_any (λ h. unsigned_abs h == q) hs || old q) (take_all k hints le)

-- ---- the walk

-- the walk has come to an index, and wants what the kept lines, the last first, hint before it
pub record Walk (first : ℕ) (lines all : List Line) (w : ℕ → Bool) (kept : List Line) : Type 0 where
  pub index : ℕ
  pub inside : index ≤ length lines
  pub whole : onto (take index lines) (reverse kept) ≡ trimmed all
  pub within : (q : ℕ) → w q ≡ true → (first ≤ q) × (q < first + index)
  pub wants : (q : ℕ) → first ≤ q → q < first + index → w q ≡ hinted (reverse kept) q
  pub count : length kept + index ≤ length lines + 1
  pub limits : All IsLine (reverse kept)

absent : (a b : Bool) → a ≡ b → b ≡ false → a ≡ true → ⊥
absent a b e f g = let h : true ≡ false = sym g ∙ e ∙ f in cc

closing_kept : (n : ℕ) (last : Line) → IsClosing n last → kept_before last [] ≡ last ∷ []
closing_kept n last c = subst (λ l. kept_before l [] ≡ l ∷ []) (sym c.2) refl

closing_hints : (n : ℕ) (last : Line) (q : ℕ) → IsClosing n last → hints_id q last ≡ true → q < n
closing_hints n last q c e = hinted_below c.1 n q c.4 (sym (ap (hints_id q) c.2) ∙ e)

or_false : (a b : Bool) → b ≡ false → (a || b) ≡ (a || false)
or_false a b e = ap (λ u. a || u) e

or_true : (a b : Bool) → (a || b) ≡ true → b ≡ false → a ≡ true
or_true true b e f = refl
or_true false b e f = let g : true ≡ false = sym e ∙ f in cc

pub walk_begun : (first : ℕ) (lines : List Line) (last : Line) (old new : ℕ → Bool) (kept : List Line) → IsClosing (first + length lines) last → ((q : ℕ) → old q ≡ false)
    → ((q : ℕ) → first ≤ q → new q ≡ (hints_id q last || old q)) → ((q : ℕ) → q < first → new q ≡ old q) → kept ≡ last ∷ [] → Walk first lines (lines ++ last ∷ []) new kept
walk_begun first lines last old new kept closing none more others is =
    let back : reverse kept ≡ last ∷ [] = ap reverse is in
    record {
      index = length lines;
      inside = omega arith;
      whole = ap (λ ks. onto (take (length lines) lines) ks) back ∙ ap (λ ls. onto ls (last ∷ [])) (take_all (length lines) lines (omega arith)) ∙ ap (onto lines) (sym (closing_kept (first + length lines) last closing))
          ∙ sym (onto_last lines last []) ∙ onto_none (lines ++ last ∷ []);
      within = λ q e. elim (cases_lt q first) [
        | inl lt ↦ absurd (absent (new q) (old q) (others q lt) (none q) e)
        | inr le ↦ (le, closing_hints (first + length lines) last q closing (or_true (hints_id q last) (old q) (sym (more q le) ∙ e) (none q)))
      ];
      wants = λ q le lt. more q le ∙ or_false (hints_id q last) (old q) (none q) ∙ sym (ap (λ ks. hinted ks q) back);
      count = let e : length kept ≡ 1 = ap length is in omega arith;
      limits = subst (All IsLine) (sym back) (All-cons IsLine last [] closing.3 (All-nil IsLine));
    }

cond_false : (b c : Bool) → cond b false c ≡ true → c ≡ true
cond_false true c e = cc
cond_false false c e = e

cond_other : (b c : Bool) → b ≡ false → cond b false c ≡ c
cond_other b c e = ap (λ u. cond u false c) e

cond_here : (b c : Bool) → b ≡ true → cond b false c ≡ true → ⊥
cond_here b c e f = let g : false ≡ true = sym (ap (λ u. cond u false c) e) ∙ f in cc

or_either : (a b : Bool) → (a || b) ≡ true → (a ≡ true) ⊎ (b ≡ true)
or_either true b e = inl refl
or_either false b e = inr e

-- an id between the greatest that is wanted and the index is not hinted
not_wanted : (first : ℕ) (w : ℕ → Bool) (kept : List Line) (index m j i : ℕ) → m ≡ first + j → j < i → i < index → ((q : ℕ) → w q ≡ true → q ≤ m) → ((q : ℕ) → first ≤ q → q < first + index → w q ≡ hinted kept q) → hinted kept (first + i) ≡ false
not_wanted first w kept index m j i at_j above below greatest wants =
    let same : w (first + i) ≡ hinted kept (first + i) = wants (first + i) (omega arith) (omega arith) in
    elim (hinted kept (first + i)) as (λ b. hinted kept (first + i) ≡ b → b ≡ false) [
      | true ↦ λ e. absurd (let le = greatest (first + i) (same ∙ e) in omega (arith, le, at_j, above))
      | false ↦ λ e. refl
    ] refl

below_m : (first : ℕ) (w out at_m : ℕ → Bool) (m j q : ℕ) → m ≡ first + j → at_m m ≡ true → ((q : ℕ) → out q ≡ cond (at_m q) false (w q)) → ((q : ℕ) → w q ≡ true → q ≤ m) → out q ≡ true → q < first + j
below_m first w out at_m m j q at_j here out_is greatest e =
    let f : cond (at_m q) false (w q) ≡ true = sym (out_is q) ∙ e in
    let le : q ≤ m = greatest q (cond_false (at_m q) (w q) f) in
    elim (cases_lt q m) [
      | inl lt ↦ omega (arith, lt, at_j)
      | inr ge ↦ absurd (let same : q ≡ m = omega (arith, le, ge) in cond_here (at_m q) (w q) (ap at_m same ∙ here) f)
    ]

-- the line of the greatest id that is wanted is kept
pub walk_keeps : (first : ℕ) (lines all : List Line) (w out new : ℕ → Bool) (at_m : ℕ → Bool) (kept more : List Line) (m j : ℕ) (line : Line) → AreNumbered first lines → All IsLine lines
    → w m ≡ true → ((q : ℕ) → w q ≡ true → q ≤ m) → ((q : ℕ) → out q ≡ cond (at_m q) false (w q)) → ((q : ℕ) → q ≢ m → at_m q ≡ false) → at_m m ≡ true
    → m ≡ first + j → line ≡ get_or lines j line
    → ((q : ℕ) → first ≤ q → new q ≡ (hints_id q line || out q)) → ((q : ℕ) → q < first → new q ≡ out q) → more ≡ kept ++ line ∷ []
    → Walk first lines all w kept → Walk first lines all new more
walk_keeps first lines all w out new at_m kept more m j line are limits has greatest out_is apart here at_j line_is hints others is walk =
    let bounds = walk.within m has in
    let j_index : j < walk.index = omega (arith, bounds.1, at_j) in
    let j_in : j < length lines = omega (arith, j_index, walk.inside) in
    let n : IsNumbered m line = subst (IsNumbered m) (sym line_is) (subst (λ k. IsNumbered k (get_or lines j line)) (sym at_j) (numbered_line first lines j line are j_in)) in
    let back : reverse more ≡ line ∷ reverse kept = ap reverse is ∙ reverse-append kept (line ∷ []) in
    let some : hinted (reverse kept) m ≡ true = sym (walk.wants m bounds.0 bounds.1) ∙ has in
    let size : j + 1 + (walk.index - (j + 1)) ≡ walk.index = omega (arith, j_index) in
    let skipped : onto (take walk.index lines) (reverse kept) ≡ onto (take (j + 1) lines) (reverse kept) =
    ap (λ k. onto (take k lines) (reverse kept)) (sym size)
    ∙ skip first lines (reverse kept) (j + 1) (walk.index - (j + 1)) line are (omega (arith, size, walk.inside))
    (λ i low lt. not_wanted first w (reverse kept) walk.index m j i at_j (omega (arith, low)) (omega (arith, lt, size)) greatest walk.wants) in
    record {
      index = j;
      inside = omega (arith, j_in);
      whole = ap (λ ks. onto (take j lines) ks) back ∙ ap (λ l. onto (take j lines) (l ∷ reverse kept)) line_is
          ∙ sym (keep first lines (reverse kept) j line are j_in (subst (λ k. hinted (reverse kept) k ≡ true) at_j some)) ∙ sym skipped ∙ walk.whole;
      within = λ q e. elim (cases_lt q first) [
        | inl lt ↦ absurd (let b = walk.within q (cond_false (at_m q) (w q) (sym (out_is q) ∙ sym (others q lt) ∙ e)) in let c = b.0 in omega (arith, lt, c))
        | inr le ↦ elim (or_either (hints_id q line) (out q) (sym (hints q le) ∙ e)) [
          | inl hint ↦ (le, let lt = hinted_below n.hints m q n.below (sym (ap (hints_id q) n.is) ∙ hint) in omega (arith, lt, at_j))
          | inr old ↦ (le, below_m first w out at_m m j q at_j here out_is greatest old)
        ]
      ];
      wants = λ q le lt.
          let ne : q ≢ m = λ same. omega (arith, same, lt, at_j) in
          hints q le ∙ ap (λ b. hints_id q line || b) (out_is q ∙ cond_other (at_m q) (w q) (apart q ne) ∙ walk.wants q le (omega (arith, lt, j_index))) ∙ sym (ap (λ ks. hinted ks q) back);
      count = let c = walk.count in let e : length more ≡ length kept + 1 = ap length is ∙ length-append kept (line ∷ []) in omega (arith, c, e, j_index);
      limits = subst (All IsLine) (sym back) (All-cons IsLine line (reverse kept) (subst IsLine (sym line_is) (limits j line j_in)) walk.limits);
    }

-- nothing is wanted any more
pub walk_done : (first : ℕ) (lines all : List Line) (w : ℕ → Bool) (kept : List Line) (d : Line) → AreNumbered first lines → ((q : ℕ) → w q ≡ false) → Walk first lines all w kept → reverse kept ≡ trimmed all
walk_done first lines all w kept d are none walk =
    let whole : 0 + walk.index ≡ walk.index = omega arith in
    let inside : 0 + walk.index ≤ length lines = let le = walk.inside in omega (arith, le) in
    let skipped = skip first lines (reverse kept) 0 walk.index d are inside (λ i low lt. sym (walk.wants (first + i) (omega arith) (omega arith)) ∙ none (first + i)) in
    sym skipped ∙ ap (λ k. onto (take k lines) (reverse kept)) whole ∙ walk.whole

-- the greatest that is wanted
pub greatest_is : (m q : ℕ) → is_lt (nat_cmp m q) ≡ false → q ≤ m
greatest_is m q e =
    elim (cases_lt m q) [
      | inl lt ↦ absurd (let f : Less ≡ nat_cmp m q = nat_cmp_is m q Less lt in let g : true ≡ false = ap is_lt f ∙ e in cc)
      | inr le ↦ le
    ]

-- nothing is wanted of no keys
pub no_keys : (keys : List ℕ) → (0 < length keys → ⊥) → (q : ℕ) → list_any (eq_by_cmp nat_cmp q) keys ≡ false
no_keys [] none q = refl
no_keys (k ∷ keys) none q = absurd (none (omega arith))
