-- What was shown over a log, over every longer one and over the lines that it rests on.
use Rattle.std.proofs.Common.{◌≡◌, ◌≢◌, ◌∙◌, ℕ, zero, suc, ◌+◌, ◌<◌, ◌≤◌, ◌-◌, ◌||◌, List, [], ◌∷◌, ◌++◌, length, get_or, map, take, drop, All, Contains, Option, None, Some, ℤ, pos, negsuc, neg_ℤ, unsigned_abs, Bool, true, false, cond, IfSome, take_all, refl, sym, ap, subst, arith, length-append, add-one, take-suc}
use Rattle.std.specs.FinMap as fin
use Rattle.std.specs.List.{flat_map, slice_get}
use Rattle.std.proofs.Math.Seq.{take-append_seam}
use Rattle.std.proofs.lemmas.List.{append_cancel_right, get_or-map, length-map, map-append, take-append-drop}
use Rattle.std.proofs.lemmas.List.Concat.{flat_map-cons}
use Rattle.std.proofs.lemmas.List.Elements.{All-nil, All-cons, All-head, All-tail, All-append, All-map, Contains-append_left, Contains-append_right}
use Rattle.cdcl_kernel.specs.Kept.{Kept}
use Rattle.solver.specs.declared.full.Taken.{Taken}
use Rattle.cdcl_kernel.proofs.Forgetting.{by_eq}
use Rattle.lrat.specs.Literals.{IsLiteral}
use Rattle.lrat.specs.Limits.{IsHint, IsLine}
use Rattle.lrat.specs.Lines.{IsAcceptedLine}
use Rattle.lrat.specs.Lemmas.{AddsEmpty, base_at}
use Rattle.lrat.specs.Proofs.{first_stage}
use Rattle.lrat.specs.Shared.{IsAcceptedOver, over, unit_clauses}
use Rattle.lrat.specs.Stages.{Stage, IsPositive, is_nil, Goes, GoAlong}
use Rattle.lrat.specs.Trimming.{is_needed, kept_before, trimmed}
use Rattle.lrat.specs.Hinted.{hinted}
use Rattle.lrat.specs.declared.formula.Formula.{Formula}
use Rattle.lrat.specs.declared.line.Line.{Line}
use Rattle.lrat.specs.declared.line.Line.TheVariants.{Add, Delete}
use Rattle.lrat.proofs.Exact.{along_unique}
use Rattle.lrat.proofs.Numbered.{get_new}
use Rattle.lrat.proofs.Trimmed.{Trails, all_among, hint_found, rests, shows_too, was_there}
use Rattle.cdcl_log.specs.Closings.{AreLemmas, IsClosingOf, NamesToo, NamesUnits, StaysShown, hints_behind, hints_of, section_of}
use Rattle.cdcl_log.specs.Logged.{AreLines, AreNumbered, IsLog, IsNext, LeadTo, Reaches, clause_of, first_id, formula_of, is_wanted, start}
use Rattle.cdcl_log.specs.Refuting.{Refuting}
use Rattle.cdcl_log.specs.Selected.{IsAddition, IsClosing, wanting}
use Rattle.cdcl_log.specs.Units.{AreDenials, AreDeniedAt, unit_id}
use Rattle.cdcl_log.specs.declared.logging.Logging.{Logging}
use Rattle.cdcl_log.specs.declared.logging.Logging.TheVariants.{Unwanted, Open, Closed}
use Rattle.cdcl_log.specs.declared.numbering.Numbering.{Numbering}
use Rattle.cdcl_log.specs.declared.shown.Closing.{Closing}
use Rattle.cdcl_log.proofs.Logged.{after, below}
use Rattle.cdcl_log.proofs.Sections.{empty_shown, last_of, numbered_get, opposed_shown, some_below}

-- ---- ids that are present

-- no id that is present is above the greatest one
abbrev IsTopped : Stage → Type 0
IsTopped s = (q : ℕ) (d : List ℤ) → fin.get s.present q ≡ Some d → q ≤ s.top

topped_first : (f : Formula) (room : ℕ) → IsTopped (start f room)
topped_first f room q d e = let lt = some_below f.clauses q d e in omega (arith, lt)

topped_after : (s t : Stage) (id : ℕ) (c : List ℤ) → IsTopped s → s.top < id → t ≡ after s id c → IsTopped t
topped_after s t id c top above is =
    subst IsTopped (sym is) (λ q d e.
    by_eq q id
    (λ same. let le : q ≤ id = omega (arith, same) in le)
    (λ ne. let le = top q d (sym (get_new s.present id q c ne) ∙ e) in omega (arith, le, above)))

goes_topped : (v : ℕ) (s t : Stage) (l : Line) → IsTopped s → Goes v s l t → IsTopped t
goes_topped v s t (Add id c hints) top goes = topped_after s t id c top goes.1 goes.4
goes_topped v s t (Delete id ids) top goes = λ q d e.
    let le = top q d (was_there ids s.present t.present q d goes.3 e) in
    let same : t.top ≡ s.top = goes.1 in
    omega (arith, le, same)

along_topped : (v : ℕ) (ls : List Line) (s t : Stage) → IsTopped s → GoAlong v s ls t → IsTopped t
along_topped v [] s t top same = subst IsTopped (sym same) top
along_topped v (l ∷ ls) s t top (u, goes, along) = along_topped v ls u t (goes_topped v s u l top goes) along

-- ---- a log that grows

along_split : (v : ℕ) (xs ys : List Line) (s t : Stage) → GoAlong v s (xs ++ ys) t → (u : Stage) × GoAlong v s xs u × GoAlong v u ys t
along_split v [] ys s t along = (s, refl, along)
along_split v (l ∷ xs) ys s t (u, goes, along) = let rest = along_split v xs ys u t along in (rest.0, (u, goes, rest.1), rest.2)

numbered_rest : (k : ℕ) (xs ys : List Line) → AreNumbered k (xs ++ ys) → (j : ℕ) × AreNumbered j ys
numbered_rest k [] ys are = (k, are)
numbered_rest k (Add id c hints ∷ xs) ys are = numbered_rest (k + 1) xs ys are.3
numbered_rest k (Delete id ids ∷ xs) ys are = absurd are

-- what is named stays named
names_on : (v k : ℕ) (ls : List Line) (s t : Stage) → AreNumbered k ls → IsTopped s → GoAlong v s ls t → (q : ℕ) (d : List ℤ) → fin.get s.present q ≡ Some d → fin.get t.present q ≡ Some d
names_on v k [] s t are top same q d e = ap (λ (w : Stage). fin.get w.present q) same ∙ e
names_on v k (Add id c hints ∷ ls) s t are top (u, goes, along) q d e =
    let le = top q d e in
    let above : s.top < id = goes.1 in
    let here : fin.get u.present q ≡ Some d = ap (λ (w : Stage). fin.get w.present q) goes.4 ∙ get_new s.present id q c (λ same. omega (arith, same, le, above)) ∙ e in
    names_on v (k + 1) ls u t are.3 (goes_topped v s u (Add id c hints) top goes) along q d here
names_on v k (Delete id ids ∷ ls) s t are top along q d e = absurd are

abbrev pub at : Formula → ℕ → List Line → Refuting
at f room log = record { formula = f; room = room; log = log }

pub closing_grows : (f : Formula) (room k : ℕ) (log more : List Line) (us : List ℤ) (c : Closing) → AreNumbered k (log ++ more) → IsClosingOf (at f room log) us c → IsClosingOf (at f room (log ++ more)) us c
closing_grows f room k log more us c are is = record {
  indices = is.indices;
  positive = is.positive;
  in_limits = is.in_limits;
  below = λ i d lt. let b = is.below i d lt in omega (arith, b, length-append log more);
  shown = λ t along m base names units.
      let parts = along_split f.vars log more (start f room) t along in
      let rest = numbered_rest k log more are in
      let top = along_topped f.vars log (start f room) parts.0 (topped_first f room) parts.1 in
      is.shown parts.0 parts.1 m base (λ q has d e. names q has d (names_on f.vars rest.0 more parts.0 t rest.1 top parts.2 q d e)) units;
}

-- from the first lines to all
pub closing_whole : (f : Formula) (room k n : ℕ) (ls : List Line) (us : List ℤ) (c : Closing) → AreNumbered k ls → IsClosingOf (at f room (take n ls)) us c → IsClosingOf (at f room ls) us c
closing_whole f room k n ls us c are is =
    let whole : take n ls ++ drop n ls ≡ ls = take-append-drop n ls in
    subst (λ xs. IsClosingOf (at f room xs) us c) whole (closing_grows f room k (take n ls) (drop n ls) us c (subst (AreNumbered k) (sym whole) are) is)

-- ---- what ends a log

denials_of : (base : ℕ) (us c : List ℤ) (ps : List ℕ) → AreDeniedAt us c ps → AreDenials base us c (map (unit_id base) ps)
denials_of base us [] [] are = tt
denials_of base us [] (p ∷ ps) are = absurd are
denials_of base us (l ∷ c) [] are = absurd are
denials_of base us (l ∷ c) (p ∷ ps) are = (record { index = p; inside = are.0; there = are.1; is = refl }, denials_of base us c ps are.2)

indices_of : (us c : List ℤ) (ps : List ℕ) → AreDeniedAt us c ps → All (λ p. p < length us) ps
indices_of us [] [] are = All-nil (λ p. p < length us)
indices_of us [] (p ∷ ps) are = absurd are
indices_of us (l ∷ c) [] are = absurd are
indices_of us (l ∷ c) (p ∷ ps) are = All-cons (λ p. p < length us) p ps are.0 (indices_of us c ps are.2)

pub denials_are : (base : ℕ) (us c ids : List ℤ) (ps : List ℕ) → AreDeniedAt us c ps → ids ≡ map (unit_id base) ps → AreDenials base us c ids
denials_are base us c ids ps are is = subst (AreDenials base us c) (sym is) (denials_of base us c ps are)

pub indices_within : (us c : List ℤ) (ps : List ℕ) (room : ℕ) → length us ≤ room → AreDeniedAt us c ps → All (λ p. p < room) ps
indices_within us c ps room few are k d lt = let p = indices_of us c ps are k d lt in omega (arith, p, few)

denied_push : (us c : List ℤ) (ps : List ℕ) (l : ℤ) (p : ℕ) → AreDeniedAt us c ps → p < length us → get_or us p (pos 0) ≡ neg_ℤ l → AreDeniedAt us (c ++ l ∷ []) (ps ++ p ∷ [])
denied_push us [] [] l p are inside there = (inside, there, tt)
denied_push us [] (j ∷ ps) l p are inside there = absurd are
denied_push us (b ∷ c) [] l p are inside there = absurd are
denied_push us (b ∷ c) (j ∷ ps) l p are inside there = (are.0, are.1, denied_push us c ps l p are.2 inside there)

take_more : (c : List ℤ) (k : ℕ) → k < length c → take (k + 1) c ≡ take k c ++ get_or c k (pos 0) ∷ []
take_more c k lt = rw add-one (take-suc c k (pos 0) lt)

pub denied_next : (us c : List ℤ) (ps : List ℕ) (k p : ℕ) → k < length c → p < length us → get_or us p (pos 0) ≡ neg_ℤ (get_or c k (pos 0)) → AreDeniedAt us (take k c) ps → AreDeniedAt us (take (k + 1) c) (ps ++ p ∷ [])
denied_next us c ps k p lt inside there are =
    subst (λ d. AreDeniedAt us d (ps ++ p ∷ [])) (sym (take_more c k lt)) (denied_push us (take k c) ps (get_or c k (pos 0)) p are inside there)

hints_in : Line → List ℤ
hints_in (Add id c hints) = hints
hints_in (Delete id ids) = []

hint_small : (h : ℤ) → IsHint h → unsigned_abs h < 4294967296
hint_small h is = is.1

-- the line that may follow shows the closing of the units that its clause denies
pub closing_shown : (f : Formula) (n : Numbering) (ls : List Line) (c us : List ℤ) (ps : List ℕ) (id : ℕ) (hints : List ℤ) → AreLines f n ls → IsNext f n ls c (Add id c hints) → AreDeniedAt us c ps
    → IsClosingOf (at f n.room ls) us (record { denied = ps; hints = hints })
unfolding hints_in
closing_shown f n ls c us ps id hints lines x are =
    let same_hints : hints ≡ x.hints = ap hints_in x.is in
    let parts = last_of f.vars ls (start f n.room) x.reached (Add x.id c x.hints) x.along in
    let goes = parts.2 in
    let first : first_id n ≡ length f.clauses + n.room + 1 = ap (λ b. b + n.room + 1) lines.base in
    subst (λ hs. IsClosingOf (at f n.room ls) us (record { denied = ps; hints = hs })) (sym same_hints)
    (record {
      indices = indices_of us c ps are;
      positive = goes.2;
      in_limits = λ k d lt. hint_small _ (x.in_limits.2 k d lt);
      below = subst (λ b. All (λ h. unsigned_abs h < b + length ls) x.hints) first x.below;
      shown = λ t along m base names units.
          let same : t ≡ parts.0 = along_unique f.vars ls (start f n.room) t parts.0 along parts.1 in
          let agree : NamesToo (fin.get parts.0.present) m (map unsigned_abs x.hints) = subst (λ (w : Stage). NamesToo (fin.get w.present) m (map unsigned_abs x.hints)) same names in
          let line : IsAcceptedLine f.vars m c (map unsigned_abs x.hints) = record { proper = goes.3.proper; shown = shows_too _ m c (map unsigned_abs x.hints) agree goes.3.shown } in
          empty_shown f.vars m base us c (map (unit_id base) ps) x.hints units (denials_of base us c ps are) line;
    })

-- two units that are opposed
pub closing_opposed : (us : List ℤ) (l : ℤ) (one other : ℕ) → one < length us → get_or us one (pos 0) ≡ l → other < length us → get_or us other (pos 0) ≡ neg_ℤ l
    → (r : Refuting) → IsClosingOf r us (record { denied = one ∷ other ∷ []; hints = [] })
closing_opposed us l one other one_in one_at other_in other_at r = record {
  indices = All-cons (λ p. p < length us) one (other ∷ []) one_in (All-cons (λ p. p < length us) other [] other_in (All-nil (λ p. p < length us)));
  positive = All-nil IsPositive;
  in_limits = All-nil (λ h. unsigned_abs h < 4294967296);
  below = All-nil (λ h. unsigned_abs h < length r.formula.clauses + r.room + 1 + length r.log);
  shown = λ t along m base names units.
      opposed_shown r.formula.vars m base us l (unit_id base one) (unit_id base other) units (record { index = one; inside = one_in; there = one_at; is = refl })
      (record { index = other; inside = other_in; there = other_at; is = refl });
}

-- ---- sections over lemmas

or_false : (a : Bool) → a ≡ true → (a || false) ≡ true
or_false true e = refl
or_false false e = cc

has_hint : (wanted : List ℤ) (q : ℕ) → Contains (map unsigned_abs wanted) q → hinted (wanting wanted ∷ []) q ≡ true
has_hint wanted q has = or_false _ (hint_found wanted q has)

positive_ids : (base : ℕ) (ps : List ℕ) → All IsPositive (map (unit_id base) ps)
positive_ids base ps = All-map IsPositive (unit_id base) ps (λ k d lt. let up : 0 < base + get_or ps k d + 1 = omega arith in up)

-- over what a log's lines trail, a closing of the log has its section
section_over : (f : Formula) (room : ℕ) (ls : List Line) (t w : Stage) (wanted us : List ℤ) (k : Closing) → IsClosingOf (at f room ls) us k → GoAlong f.vars (start f room) ls t → IsTopped w
    → ((q : ℕ) → Contains (map unsigned_abs k.hints) q → (d : List ℤ) → fin.get t.present q ≡ Some d → fin.get w.present q ≡ Some d) → IsAcceptedOver (base_at f.vars w) us (section_of w.top us k)
section_over f room ls t w wanted us k is along top named =
    let u : Stage = over (base_at f.vars w) us in
    let id : ℕ = w.top + length us + 1 in
    let low : (q : ℕ) (d : List ℤ) → fin.get w.present q ≡ Some d → fin.get u.present q ≡ Some d =
    λ q d e. let le = top q d e in below (unit_clauses us) (w.top + 1) q w.present (omega (arith, le)) ∙ e in
    let units : NamesUnits (fin.get u.present) w.top us =
    λ i lt.
    let index : w.top + i + 1 ≡ w.top + 1 + i = omega arith in
    rw index
    (numbered_get (unit_clauses us) (w.top + 1) i w.present (pos 0 ∷ []) (omega (arith, lt, length-map us (λ (l : ℤ). l ∷ [])))
    ∙ ap Some (get_or-map (λ (l : ℤ). l ∷ []) us i (pos 0) (pos 0 ∷ []) lt)) in
    let line : IsAcceptedLine f.vars (fin.get u.present) [] (map unsigned_abs (hints_behind w.top k)) =
    is.shown t along (fin.get u.present) w.top (λ q has d e. low q d (named q has d e)) units in (
      after u id [],
      (after u id [], (refl, omega arith, All-append IsPositive (map (unit_id w.top) k.denied) k.hints (positive_ids w.top k.denied) is.positive, line, refl), refl),
      refl,
    )

none_empty : (c : List ℤ) → is_nil c ≡ false → c ≡ [] → ⊥
none_empty [] e f = let g : true ≡ false = e in cc
none_empty (l ∷ c) e f = cc

abbrev IsNotEmpty : Line → Type 0
IsNotEmpty l = AddsEmpty l → ⊥

none_empty_in : (k : ℕ) (ls : List Line) → AreNumbered k ls → All IsNotEmpty ls
none_empty_in k [] are = All-nil IsNotEmpty
none_empty_in k (Add id c hints ∷ ls) are = All-cons IsNotEmpty (Add id c hints) ls (none_empty c are.1) (none_empty_in (k + 1) ls are.3)
none_empty_in k (Delete id ids ∷ ls) are = absurd are

all_additions : (k : ℕ) (ls : List Line) → AreNumbered k ls → All IsAddition ls
all_additions k [] are = All-nil IsAddition
all_additions k (Add id c hints ∷ ls) are = All-cons IsAddition (Add id c hints) ls tt (all_additions (k + 1) ls are.3)
all_additions k (Delete id ids ∷ ls) are = absurd are

wanted_has : (ks : List Closing) (i : ℕ) (d : Closing) (q : ℕ) → i < length ks → Contains (map unsigned_abs (get_or ks i d).hints) q → Contains (map unsigned_abs (flat_map hints_of ks)) q
wanted_has [] i d q lt has = absurd (omega arith)
wanted_has (k ∷ ks) zero d q lt has =
    rw (flat_map-cons hints_of k ks, map-append unsigned_abs k.hints (flat_map hints_of ks)) (Contains-append_left (map unsigned_abs k.hints) (map unsigned_abs (flat_map hints_of ks)) q has)
wanted_has (k ∷ ks) (suc i) d q lt has =
    rw (flat_map-cons hints_of k ks, map-append unsigned_abs k.hints (flat_map hints_of ks))
    (Contains-append_right (map unsigned_abs k.hints) (map unsigned_abs (flat_map hints_of ks)) q (wanted_has ks i d q (omega arith) has))

pub all_wanted : (P : ℤ → Type 0) (ks : List Closing) → All (λ k. All P k.hints) ks → All P (flat_map hints_of ks)
all_wanted P [] all = All-nil P
all_wanted P (k ∷ ks) all =
    rw (flat_map-cons hints_of k ks) (All-append P k.hints (flat_map hints_of ks) (All-head (λ (k : Closing). All P k.hints) k ks all) (all_wanted P ks (All-tail (λ (k : Closing). All P k.hints) k ks all)))

positive_nonzero : (h : ℤ) → IsPositive h → h ≢ pos 0
positive_nonzero (pos n) p e = let f : n ≡ 0 = ap unsigned_abs e in let g : 0 < n = p in omega (arith, f, g)
positive_nonzero (negsuc n) p e = absurd p

hint_of : (h : ℤ) → IsPositive h → unsigned_abs h < 4294967296 → IsHint h
hint_of h p lt = (positive_nonzero h p, lt)

pub closing_hints : (r : Refuting) (us : List ℤ) (k : Closing) → IsClosingOf r us k → All IsHint k.hints
closing_hints r us k is i d lt = hint_of (get_or k.hints i d) (is.positive i d lt) (is.in_limits i d lt)

-- a log that is wanted leads to a stage
pub reached_by : (log : Logging) (n : Numbering) (v : ℕ) (ks : List Kept) (ls : List Line) (end : Option Line) → is_wanted log ≡ true → IsLog log n v ks ls end
    → AreLines (formula_of v ks) n ls × ((t : Stage) × GoAlong v (start (formula_of v ks) n.room) ls t × (t.top ≤ length ks + n.room))
reached_by Unwanted n v ks ls end wanted l = absurd (let f : false ≡ true = wanted in cc)
reached_by Open n v ks ls end wanted l = (l.0, (l.1.reached, l.1.along, let top = l.1.top in omega (arith, top)))
reached_by Closed n v ks ls end wanted l = (l.0, (l.2.reached, l.2.along, l.2.top))

-- the id behind additions is that of the last one
pub greatest_none : (v base : ℕ) (s t : Stage) → s.top ≡ base → GoAlong v s [] t → t.top ≡ base
greatest_none v base s t is same = ap (λ (w : Stage). w.top) same ∙ is

top_is : (t s : Stage) (id : ℕ) (c : List ℤ) → t ≡ after s id c → t.top ≡ id
top_is t s id c is = ap (λ (w : Stage). w.top) is

no_item : (l : Line) → None ≡ Some l → ⊥
no_item l e = cc

item_is : (k l : Line) → Some k ≡ Some l → k ≡ l
item_is k l e = cc

last_at : (ls : List Line) (k : ℕ) (l : Line) → slice_get ls k ≡ Some l → k + 1 ≡ length ls → (xs : List Line) × (ls ≡ xs ++ l ∷ [])
last_at [] k l e long = absurd (no_item l e)
last_at (j ∷ []) zero l e long = ([], ap (λ i. i ∷ []) (item_is j l e))
last_at (j ∷ i ∷ ls) zero l e long = absurd (omega (arith, long))
last_at (j ∷ ls) (suc k) l e long = let rest = last_at ls k l e (omega (arith, long)) in (j ∷ rest.0, ap (λ us. j ∷ us) rest.1)

pub greatest_last : (v : ℕ) (ls : List Line) (s t : Stage) (id : ℕ) (c hints : List ℤ) → Some (Add id c hints) ≡ slice_get ls (length ls - 1) → GoAlong v s ls t → t.top ≡ id
greatest_last v [] s t id c hints e along = absurd (no_item (Add id c hints) (sym e))
greatest_last v (l ∷ ls) s t id c hints e along =
    let r = last_at (l ∷ ls) (length (l ∷ ls) - 1) (Add id c hints) (sym e) (omega arith) in
    let parts = last_of v r.0 s t (Add id c hints) (subst (λ us. GoAlong v s us t) r.1 along) in
    top_is t parts.0 id c parts.2.4

-- what is left of the log's lines are lemmas
pub lemmas_are : (f : Formula) (n : Numbering) (ls p : List Line) (t : Stage) (ks : List Closing) (wanted : List ℤ) (top : ℕ) (taken : Taken) → AreLines f n ls → GoAlong f.vars (start f n.room) ls t → t.top ≤ taken.ids → wanted ≡ flat_map hints_of ks
    → p ++ wanting wanted ∷ [] ≡ trimmed (ls ++ wanting wanted ∷ []) → All IsLine p
    → ((v : ℕ) (s u : Stage) → s.top ≡ n.base → All IsAddition p → GoAlong v s p u → u.top ≡ top)
    → AreLemmas (at f n.room (take n.shared ls)) ks (record { proof = p; top = top; taken = taken })
lemmas_are f n ls p t ks wanted top taken lines along few all_of is limits greatest =
    let begin : Trails (start f n.room) (first_stage f) (trimmed (ls ++ wanting wanted ∷ [])) = record { top = omega arith; closed = refl; named = λ q has c found. found } in
    let r = rests f.vars ls (wanting wanted) (start f n.room) (first_stage f) t refl begin along in
    let same : p ≡ r.lines = append_cancel_right p r.lines (wanting wanted ∷ []) (is ∙ r.are) in
    let reached : GoAlong f.vars (first_stage f) p r.reached = subst (λ us. GoAlong f.vars (first_stage f) us r.reached) (sym same) r.along in
    let first : (first_stage f).top ≡ n.base = sym lines.base in
    let added : All IsAddition p = subst (All IsAddition) (sym same) (all_among IsAddition r.lines ls r.among (all_additions (first_id n) ls lines.numbered)) in
    let at_top : r.reached.top ≡ top = greatest f.vars (first_stage f) r.reached first added reached in
    let topped : IsTopped r.reached = along_topped f.vars p (first_stage f) r.reached (λ q d e. let lt = some_below f.clauses q d e in omega (arith, lt)) reached in
    record {
      in_limits = limits;
      reached = r.reached;
      extends = record { along = reached; not_empty = subst (All IsNotEmpty) (sym same) (all_among IsNotEmpty r.lines ls r.among (none_empty_in (first_id n) ls lines.numbered)) };
      top = at_top;
      counted = let least = r.trails.top in omega (arith, at_top, least, few);
      sections = λ i d lt us shown.
          let k : Closing = get_or ks i d in
          subst (λ id. IsAcceptedOver (base_at f.vars r.reached) us (section_of id us k)) at_top
          (section_over f n.room ls t r.reached wanted us k (closing_whole f n.room (first_id n) n.shared ls us k lines.numbered shown) along topped
          (λ q has e found. r.trails.named q (has_hint wanted q (subst (λ hs. Contains (map unsigned_abs hs) q) (sym all_of) (wanted_has ks i d q lt has))) e found));
    }

-- a closing's hints are below the log's next line
pub closing_below : (f : Formula) (n : Numbering) (ls : List Line) (us : List ℤ) (k : Closing) → AreLines f n ls → IsClosingOf (at f n.room (take n.shared ls)) us k → All (λ h. unsigned_abs h < first_id n + length ls) k.hints
closing_below f n ls us k lines is =
    let whole = closing_whole f n.room (first_id n) n.shared ls us k lines.numbered is in
    let first : length f.clauses + n.room + 1 ≡ first_id n = sym (ap (λ b. b + n.room + 1) lines.base) in
    subst (λ b. All (λ h. unsigned_abs h < b + length ls) k.hints) first whole.below

-- ---- the line of a section

small_ids : (base : ℕ) (us : List ℤ) (ps : List ℕ) → base + length us < 4294967295 → All (λ p. p < length us) ps → All IsHint (map (unit_id base) ps)
small_ids base us ps small all =
    All-map IsHint (unit_id base) ps (λ k d lt.
    let p = all k d lt in
    let up : 0 < base + get_or ps k d + 1 = omega arith in
    let most : base + get_or ps k d + 1 < 4294967296 = omega (arith, p, small) in
    hint_of (unit_id base (get_or ps k d)) up most)

pub section_line : (r : Refuting) (us : List ℤ) (k : Closing) (top : ℕ) → top + length us < 4294967295 → IsClosingOf r us k → IsLine (Add (top + length us + 1) [] (hints_behind top k))
section_line r us k top small is = (
  (omega arith, omega arith),
  All-nil (IsLiteral 2147483647),
  All-append IsHint (map (unit_id top) k.denied) k.hints (small_ids top us k.denied small is.indices) (closing_hints r us k is),
)

-- ---- the lines that are wanted

pub wanting_closes : (n : ℕ) (hints : List ℤ) → All IsHint hints → All (λ h. unsigned_abs h < n) hints → IsClosing n (wanting hints)
wanting_closes n hints are less = (1, hints, refl, ((omega arith, omega arith), All-nil (IsLiteral 2147483647), are), less)

ends_so : (ls : List Line) (last : Line) → kept_before last [] ≡ last ∷ [] → (xs : List Line) × (trimmed (ls ++ last ∷ []) ≡ xs ++ last ∷ [])
ends_so [] last ends = ([], ends)
ends_so (l ∷ ls) last ends =
    let rest = ends_so ls last ends in
    elim (is_needed l (trimmed (ls ++ last ∷ []))) as (λ b. (xs : List Line) × (cond b (l ∷ trimmed (ls ++ last ∷ [])) (trimmed (ls ++ last ∷ [])) ≡ xs ++ last ∷ [])) [
      | true ↦ (l ∷ rest.0, ap (λ ks. l ∷ ks) rest.1)
      | false ↦ rest
    ]

one_less : (xs : List Line) (l : Line) → take (length (xs ++ l ∷ []) - 1) (xs ++ l ∷ []) ≡ xs
one_less xs l = let e : length (xs ++ l ∷ []) - 1 ≡ length xs = omega (arith, length-append xs (l ∷ [])) in rw e (take-append_seam xs (l ∷ []))

-- without the line that wants them
pub wanted_are : (ls ks new : List Line) (hints : List ℤ) (n : ℕ) → ks ≡ trimmed (ls ++ wanting hints ∷ []) → n ≡ length ks → new ≡ take (n - 1) ks → new ++ wanting hints ∷ [] ≡ trimmed (ls ++ wanting hints ∷ [])
wanted_are ls ks new hints n is long popped =
    let e = ends_so ls (wanting hints) refl in
    let whole : ks ≡ e.0 ++ wanting hints ∷ [] = is ∙ e.1 in
    let front : new ≡ e.0 = popped ∙ ap (λ m. take (m - 1) ks) long ∙ ap (λ us. take (length us - 1) us) whole ∙ one_less e.0 (wanting hints) in
    ap (λ us. us ++ wanting hints ∷ []) front ∙ sym e.1

-- ---- lines on which closings may rest from then on

abbrev sharing : Numbering → ℕ → Numbering
sharing n m = record { base = n.base; room = n.room; shared = m }

lines_share : (f : Formula) (n : Numbering) (m : ℕ) (ls : List Line) → m ≤ length ls → AreLines f n ls → AreLines f (sharing n m) ls
lines_share f n m ls le l = record { base = l.base; shared = le; in_limits = l.in_limits; small = l.small; numbered = l.numbered }

lead_shares : (f : Formula) (n : Numbering) (m : ℕ) (ks : List Kept) (ls : List Line) → LeadTo f n ks ls → LeadTo f (sharing n m) ks ls
lead_shares f n m ks ls l = record { reached = l.reached; along = l.along; present = l.present; top = l.top; count = l.count; is_open = l.is_open }

reaches_share : (f : Formula) (n : Numbering) (m : ℕ) (ks : List Kept) (ls : List Line) → Reaches f n ks ls → Reaches f (sharing n m) ks ls
reaches_share f n m ks ls r = record { reached = r.reached; along = r.along; top = r.top }

next_shares : (f : Formula) (n : Numbering) (m : ℕ) (ls : List Line) (c : List ℤ) (l : Line) → IsNext f n ls c l → IsNext f (sharing n m) ls c l
next_shares f n m ls c l x = record { id = x.id; hints = x.hints; is = x.is; in_limits = x.in_limits; below = x.below; reached = x.reached; along = x.along }

end_shares : (f : Formula) (n : Numbering) (m : ℕ) (ls : List Line) (end : Option Line) → IfSome end (λ l. IsNext f n ls (clause_of l) l) → IfSome end (λ l. IsNext f (sharing n m) ls (clause_of l) l)
end_shares f n m ls None x = tt
end_shares f n m ls (Some l) x = next_shares f n m ls (clause_of l) l x

pub log_shares : (log : Logging) (n : Numbering) (m v : ℕ) (ks : List Kept) (ls : List Line) (end : Option Line) → m ≤ length ls → IsLog log n v ks ls end → IsLog log (record { base = n.base; room = n.room; shared = m }) v ks ls end
log_shares Unwanted n m v ks ls end le l = tt
log_shares Open n m v ks ls end le l = (lines_share (formula_of v ks) n m ls le l.0, lead_shares (formula_of v ks) n m ks ls l.1, end_shares (formula_of v ks) n m ls end l.2)
log_shares Closed n m v ks ls end le l =
    (lines_share (formula_of v ks) n m ls le l.0, (l.1.0, l.1.1, next_shares (formula_of v ks) n m ls [] l.1.0 l.1.2), reaches_share (formula_of v ks) n m ks ls l.2)

pub closing_stays : (f : Formula) (n : Numbering) (m : ℕ) (ls : List Line) → AreLines f n ls → m ≡ length ls → StaysShown (at f n.room (take n.shared ls)) (at f n.room (take m ls))
closing_stays f n m ls lines all = λ us k is.
    subst (λ xs. IsClosingOf (at f n.room xs) us k) (sym (take_all m ls (omega (arith, all)))) (closing_whole f n.room (first_id n) n.shared ls us k lines.numbered is)

pub closing_all : (f : Formula) (room m : ℕ) (ls : List Line) (us : List ℤ) (k : Closing) → m ≡ length ls → IsClosingOf (at f room ls) us k → IsClosingOf (at f room (take m ls)) us k
closing_all f room m ls us k all is = subst (λ xs. IsClosingOf (at f room xs) us k) (sym (take_all m ls (omega (arith, all)))) is
