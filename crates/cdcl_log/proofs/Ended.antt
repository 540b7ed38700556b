-- How a log ends: by the line that may follow it, with the units that this denies.
use Rattle.std.proofs.Common.{◌≡◌, ◌≢◌, ◌∙◌, ℕ, ℤ, pos, neg_ℤ, ◌+◌, ◌<◌, ◌≤◌, true, false, List, [], ◌∷◌, ◌++◌, length, get_or, map, All, Contains, Option, None, Some, unsigned_abs, Result, Ok, Err, IfOk, refl, sym, ap, subst, arith, add-one, take, take-suc}
use Rattle.std.specs.Prelude.{option_map}
use Rattle.std.proofs.lemmas.List.{get_or-map, get_or_default, length-map}
use Rattle.std.proofs.lemmas.List.Elements.{All-nil, All-cons, All-append}
use Rattle.lrat.specs.Limits.{IsHint, IsLine}
use Rattle.lrat.specs.Literals.{IsLiteral}
use Rattle.lrat.specs.Stages.{Stage, GoAlong}
use Rattle.lrat.specs.Proofs.{IsAcceptedProof}
use Rattle.lrat.specs.declared.formula.Formula.{Formula}
use Rattle.lrat.specs.declared.line.Line.{Line}
use Rattle.lrat.specs.declared.line.Line.TheVariants.{Add, Delete}
use Rattle.lrat.proofs.Trimmed.{trimmed_refutes}
use Rattle.lrat.specs.Trimming.{trimmed}
use Rattle.cdcl_kernel.specs.Kept.{Kept, added}
use Rattle.cdcl_log.specs.Logged.{Logged, EndDenies, AreLines, AreNumbered, IsLog, IsNext, clause_of, first_id, formula_of, is_wanted, start, with_units}
use Rattle.cdcl_log.specs.Selected.{IsClosing}
use Rattle.cdcl_log.specs.Units.{AreDenials, IsUnitId}
use Rattle.cdcl_log.specs.declared.logging.Logging.{Logging}
use Rattle.cdcl_log.specs.declared.logging.Logging.TheVariants.{Unwanted, Open, Closed}
use Rattle.cdcl_log.specs.declared.numbering.Numbering.{Numbering}
use Rattle.cdcl_log.proofs.Few.{length-added}
use Rattle.cdcl_log.proofs.Logged.{closed_of}
use Rattle.cdcl_log.proofs.Sections.{accepted_section, last_of}

pub ok_gives : {A E : Type 0} (r : Result A E) (P Q : A → Type 0) → IfOk r P → ((a : A) → P a → Q a) → IfOk r Q
ok_gives (Ok a) P Q p f = f a p
ok_gives (Err e) P Q p f = tt

-- ---- the line that may follow

some_is : (A : Type 0) (a b : A) → Some a ≡ Some b → a ≡ b
some_is A a b e = cc

none_is : (A : Type 0) (a : A) → None ≡ Some a → ⊥
none_is A a e = cc

is_unlogged : false ≡ true → ⊥
is_unlogged e = cc

closed_nil : (n : Numbering) (v : ℕ) (ks : List Kept) (ls : List Line) (end : Option Line) → IsLog Closed n v ks ls end → option_map clause_of end ≡ Some []
closed_nil n v ks ls end (lines, (line, is, next), led) = ap (option_map clause_of) is ∙ ap (λ x. Some (clause_of x)) next.is

-- a closed log's line adds the empty clause, which denies nothing
pub closed_denies : (log : Logging) (n : Numbering) (v : ℕ) (ks : List Kept) (ls : List Line) (end : Option Line) (k : Logged) (assume : List ℤ) → (log ≡ Open → ⊥) → is_wanted log ≡ true
    → IsLog log n v ks ls end → k.end ≡ option_map clause_of end → EndDenies k assume
closed_denies log n v ks ls end k assume ne wanted l is =
    ([], is ∙ closed_nil n v ks ls end (subst (λ g. IsLog g n v ks ls end) (closed_of log ne wanted) l), All-nil (Contains assume))

-- the line of a core's clause denies what the core has
pub core_denies : (k : Logged) (end : Option Line) (c core assume : List ℤ) (id : ℕ) (hints : List ℤ) → k.end ≡ option_map clause_of end → end ≡ Some (Add id c hints) → core ≡ map neg_ℤ c → All (Contains assume) core → EndDenies k assume
core_denies k end c core assume id hints view is denials among = (c, view ∙ ap (option_map clause_of) is, subst (All (Contains assume)) denials among)

-- the line that may follow a log that is wanted adds a clause behind its lines
pub ends_of : (log : Logging) (n : Numbering) (v : ℕ) (ks : List Kept) (ls : List Line) (end : Option Line) (id : ℕ) (d hints : List ℤ) → is_wanted log ≡ true → IsLog log n v ks ls end → end ≡ Some (Add id d hints)
    → AreLines (formula_of v ks) n ls × IsNext (formula_of v ks) n ls d (Add id d hints)
ends_of Unwanted n v ks ls end id d hints wanted l e = absurd (is_unlogged wanted)
ends_of Open n v ks ls None id d hints wanted l e = absurd (none_is _ (Add id d hints) e)
ends_of Open n v ks ls (Some line) id d hints wanted l e = (l.0, subst (λ x. IsNext (formula_of v ks) n ls (clause_of x) x) (some_is _ _ _ e) l.2)
ends_of Closed n v ks ls end id d hints wanted (lines, (line, is, next), led) e =
    let same : line ≡ Add id d hints = some_is _ _ _ (sym is ∙ e) in
    let nil : d ≡ [] = ap clause_of (sym same ∙ next.is) in
    (lines, subst (λ c. IsNext (formula_of v ks) n ls c (Add id d hints)) (sym nil) (subst (λ x. IsNext (formula_of v ks) n ls [] x) same next))

-- there is one where its clause is known
pub ends_with : (log : Logging) (n : Numbering) (v : ℕ) (ks : List Kept) (ls : List Line) (end : Option Line) (c : List ℤ) → is_wanted log ≡ true → IsLog log n v ks ls end → option_map clause_of end ≡ Some c
    → (id : ℕ) × (hints : List ℤ) × (end ≡ Some (Add id c hints))
ends_with Unwanted n v ks ls end c wanted l e = absurd (is_unlogged wanted)
ends_with Open n v ks ls None c wanted l e = absurd (none_is _ c e)
ends_with Open n v ks ls (Some line) c wanted l e =
    let is : line ≡ Add l.2.id (clause_of line) l.2.hints = l.2.is in
    (l.2.id, l.2.hints, ap Some is ∙ ap (λ d. Some (Add l.2.id d l.2.hints)) (some_is _ _ _ e))
ends_with Closed n v ks ls end c wanted (lines, (line, is, next), led) e =
    let nil : [] ≡ c = some_is _ _ _ (sym (ap (option_map clause_of) is ∙ ap (λ x. Some (clause_of x)) next.is) ∙ e) in
    (next.id, next.hints, is ∙ ap Some next.is ∙ ap (λ d. Some (Add next.id d next.hints)) nil)

-- its clause denies what is said to be denied
pub denied_of : (end : Option Line) (c d us : List ℤ) (id : ℕ) (hints : List ℤ) → option_map clause_of end ≡ Some c → end ≡ Some (Add id d hints) → All (Contains us) (map neg_ℤ c) → All (Contains us) (map neg_ℤ d)
denied_of end c d us id hints view is all =
    let same : c ≡ d = some_is _ _ _ (sym view ∙ ap (option_map clause_of) is) in
    subst (λ x. All (Contains us) (map neg_ℤ x)) same all

-- the clauses that were added have the ids below those of the units
pub base_of : (log : Logging) (n : Numbering) (v : ℕ) (ks : List Kept) (ls : List Line) (end : Option Line) → is_wanted log ≡ true → IsLog log n v ks ls end → n.base ≡ length (added ks)
base_of Unwanted n v ks ls end wanted l = absurd (is_unlogged wanted)
base_of Open n v ks ls end wanted l = l.0.base
base_of Closed n v ks ls end wanted l = l.0.base

-- the room of a log that is wanted
pub room_of : (log : Logging) (n : Numbering) (v : ℕ) (ks : List Kept) (ls : List Line) (end : Option Line) → is_wanted log ≡ true → IsLog log n v ks ls end → n.room ≤ 2147483647
room_of Unwanted n v ks ls end wanted l = absurd (is_unlogged wanted)
room_of Open n v ks ls end wanted l = l.0.small
room_of Closed n v ks ls end wanted l = l.0.small

pub above_room : (base room id : ℕ) (ks : List Kept) → base ≡ length (added ks) → id ≡ length ks + room + 1 → base + room < id
above_room base room id ks same is = let le = length-added ks in omega (arith, same, is, le)

-- ---- the line that ends a proof

rises : (v : ℕ) (k : ℕ) (ls : List Line) (s t : Stage) → AreNumbered k ls → GoAlong v s ls t → s.top ≤ t.top
rises v k [] s t are same = let e : t.top ≡ s.top = ap (λ (u : Stage). u.top) same in omega (arith, e)
rises v k (Add id c hints ∷ ls) s t are (w, goes, along) =
    let rest : w.top ≤ t.top = rises v (k + 1) ls w t are.3 along in
    let at : w.top ≡ id = ap (λ (u : Stage). u.top) goes.4 in
    let above : s.top < id = goes.1 in
    omega (arith, rest, at, above)
rises v k (Delete id ids ∷ ls) s t are along = absurd are

-- its id is behind those of the clauses and of the units
above_units : (f : Formula) (n : Numbering) (ls : List Line) (c : List ℤ) (l : Line) → AreNumbered (first_id n) ls → (x : IsNext f n ls c l) → length f.clauses + n.room < x.id
above_units f n ls c l numbered x =
    let parts = last_of f.vars ls (start f n.room) x.reached (Add x.id c x.hints) x.along in
    let le : length f.clauses + n.room ≤ parts.0.top = rises f.vars (first_id n) ls (start f n.room) parts.0 numbered parts.1 in
    let above : parts.0.top < x.id = parts.2.1 in
    omega (arith, le, above)

pos_nonzero : (h : ℕ) → 0 < h → pos h ≢ pos 0
pos_nonzero h lt e = let f : h ≡ 0 = ap unsigned_abs e in omega arith

unit_hint : (base room top : ℕ) (us : List ℤ) (l id : ℤ) → length us ≤ room → base + room < top → top < 4294967296 → IsUnitId base us l id → IsHint id
unit_hint base room top us l id few above small is =
    let inside : is.index < length us = is.inside in
    subst IsHint (sym is.is) (pos_nonzero (base + is.index + 1) (omega arith), let lt : base + is.index + 1 < 4294967296 = omega (arith, inside, few, above, small) in lt)

unit_below : (base room : ℕ) (us : List ℤ) (l id : ℤ) (bound : ℕ) → length us ≤ room → base + room < bound → IsUnitId base us l id → unsigned_abs id < bound
unit_below base room us l id bound few above is =
    let inside : is.index < length us = is.inside in
    subst (λ h. unsigned_abs h < bound) (sym is.is) (let lt : base + is.index + 1 < bound = omega (arith, inside, few, above) in lt)

denials_hints : (base room top : ℕ) (us c ids : List ℤ) → length us ≤ room → base + room < top → top < 4294967296 → AreDenials base us c ids → All IsHint ids
denials_hints base room top us [] [] few above small are = All-nil IsHint
denials_hints base room top us [] (id ∷ ids) few above small are = absurd are
denials_hints base room top us (l ∷ c) [] few above small are = absurd are
denials_hints base room top us (l ∷ c) (id ∷ ids) few above small are =
    All-cons IsHint id ids (unit_hint base room top us (neg_ℤ l) id few above small are.0) (denials_hints base room top us c ids few above small are.1)

denials_below : (base room bound : ℕ) (us c ids : List ℤ) → length us ≤ room → base + room < bound → AreDenials base us c ids → All (λ h. unsigned_abs h < bound) ids
denials_below base room bound us [] [] few above are = All-nil (λ h. unsigned_abs h < bound)
denials_below base room bound us [] (id ∷ ids) few above are = absurd are
denials_below base room bound us (l ∷ c) [] few above are = absurd are
denials_below base room bound us (l ∷ c) (id ∷ ids) few above are =
    All-cons (λ h. unsigned_abs h < bound) id ids (unit_below base room us (neg_ℤ l) id bound few above are.0) (denials_below base room bound us c ids few above are.1)

pub denials_push : (base : ℕ) (us c ids : List ℤ) (l id : ℤ) → AreDenials base us c ids → IsUnitId base us (neg_ℤ l) id → AreDenials base us (c ++ l ∷ []) (ids ++ id ∷ [])
denials_push base us [] [] l id are is = (is, tt)
denials_push base us [] (j ∷ ids) l id are is = absurd are
denials_push base us (b ∷ c) [] l id are is = absurd are
denials_push base us (b ∷ c) (j ∷ ids) l id are is = (are.0, denials_push base us c ids l id are.1 is)

pub closing : (f : Formula) (n : Numbering) (ls : List Line) (c : List ℤ) (l : Line) (us ids : List ℤ) → length us ≤ n.room → AreLines f n ls → (x : IsNext f n ls c l) → AreDenials n.base us c ids
    → IsClosing (first_id n + length ls) (Add x.id [] (ids ++ x.hints))
closing f n ls c l us ids few lines x are =
    let base : n.base ≡ length f.clauses = lines.base in
    let behind = above_units f n ls c l lines.numbered x in
    let above : n.base + n.room < x.id = omega (arith, base, behind) in
    let small : x.id < 4294967296 = x.in_limits.0.1 in (
      x.id,
      ids ++ x.hints,
      refl,
      (x.in_limits.0, All-nil (IsLiteral 2147483647), All-append IsHint ids x.hints (denials_hints n.base n.room x.id us c ids few above small are) x.in_limits.2),
      All-append (λ h. unsigned_abs h < first_id n + length ls) ids x.hints
          (denials_below n.base n.room (first_id n + length ls) us c ids few (omega arith) are) x.below,
    )

-- the lines that the empty clause rests on are accepted with the units
pub accepted_selected : (f : Formula) (n : Numbering) (ls p : List Line) (c : List ℤ) (l : Line) (us ids : List ℤ) → length us ≤ n.room → AreLines f n ls → (x : IsNext f n ls c l) → AreDenials n.base us c ids
    → p ≡ trimmed (ls ++ Add x.id [] (ids ++ x.hints) ∷ []) → IsAcceptedProof (with_units f us) p
accepted_selected f n ls p c l us ids few lines x are is =
    subst (IsAcceptedProof (with_units f us)) (sym is)
    (trimmed_refutes (with_units f us) (ls ++ Add x.id [] (ids ++ x.hints) ∷ []) (accepted_section f n us ls c l ids lines.base few lines.numbered x are))

id_of : Line → ℕ
id_of (Add id c hints) = id
id_of (Delete id ids) = id

hints_of : Line → List ℤ
hints_of (Add id c hints) = hints
hints_of (Delete id ids) = []

closed_line : (f : Formula) (n : Numbering) (ls : List Line) (c : List ℤ) (id : ℕ) (ids hints : List ℤ) → (x : IsNext f n ls c (Add id c hints)) → Add x.id [] (ids ++ x.hints) ≡ Add id [] (ids ++ hints)
unfolding id_of hints_of
closed_line f n ls c id ids hints x = ap (λ q. Add q [] (ids ++ x.hints)) (sym (ap id_of x.is)) ∙ ap (λ hs. Add id [] (ids ++ hs)) (sym (ap hints_of x.is))

pub closing_of : (f : Formula) (n : Numbering) (ls : List Line) (c us ids : List ℤ) (id : ℕ) (hints : List ℤ) → length us ≤ n.room → AreLines f n ls → IsNext f n ls c (Add id c hints) → AreDenials n.base us c ids
    → IsClosing (first_id n + length ls) (Add id [] (ids ++ hints))
closing_of f n ls c us ids id hints few lines x are = subst (IsClosing (first_id n + length ls)) (closed_line f n ls c id ids hints x) (closing f n ls c (Add id c hints) us ids few lines x are)

pub accepted_of : (f : Formula) (n : Numbering) (ls p : List Line) (c us ids : List ℤ) (id : ℕ) (hints : List ℤ) → length us ≤ n.room → AreLines f n ls → IsNext f n ls c (Add id c hints) → AreDenials n.base us c ids
    → p ≡ trimmed (ls ++ Add id [] (ids ++ hints) ∷ []) → IsAcceptedProof (with_units f us) p
accepted_of f n ls p c us ids id hints few lines x are is =
    accepted_selected f n ls p c (Add id c hints) us ids few lines x are (is ∙ ap (λ l. trimmed (ls ++ l ∷ [])) (sym (closed_line f n ls c id ids hints x)))

-- the line of two units that are opposed is in the limits
pub opposed_is_line : (base room id : ℕ) (us : List ℤ) (l one other : ℤ) → length us ≤ room → base + room < id → id < 4294967296 → IsUnitId base us l one → IsUnitId base us (neg_ℤ l) other → IsLine (Add id [] (one ∷ other ∷ []))
opposed_is_line base room id us l one other few above small is opposed = (
  (omega arith, small),
  All-nil (IsLiteral 2147483647),
  All-cons IsHint one (other ∷ []) (unit_hint base room id us l one few above small is) (All-cons IsHint other [] (unit_hint base room id us (neg_ℤ l) other few above small opposed) (All-nil IsHint)),
)

-- ---- units

pub denied_at : (us c : List ℤ) (k : ℕ) → k < length c → All (Contains us) (map neg_ℤ c) → Contains us (neg_ℤ (get_or c k (pos 0)))
denied_at us c k lt all = subst (Contains us) (get_or-map neg_ℤ c k (pos 0) (pos 0) lt) (all k (pos 0) (omega (arith, lt, length-map c neg_ℤ)))

take_more : (c : List ℤ) (k : ℕ) → k < length c → take (k + 1) c ≡ take k c ++ get_or c k (pos 0) ∷ []
take_more c k lt = rw add-one (take-suc c k (pos 0) lt)

pub denials_next : (base : ℕ) (us c ids : List ℤ) (k index : ℕ) (id : ℤ) → k < length c → index < length us → get_or us index (pos 0) ≡ neg_ℤ (get_or c k (pos 0)) → id ≡ pos (base + index + 1) → AreDenials base us (take k c) ids
    → AreDenials base us (take (k + 1) c) (ids ++ id ∷ [])
denials_next base us c ids k index id lt inside there is are =
    subst (λ d. AreDenials base us d (ids ++ id ∷ [])) (sym (take_more c k lt)) (denials_push base us (take k c) ids (get_or c k (pos 0)) id are (record { index = index; inside = inside; there = there; is = is }))

-- a literal that is there has an index
pub has_index : (us : List ℤ) (l : ℤ) → ((k : ℕ) → k < length us → get_or us k (pos 0) ≡ l → ⊥) → Contains us l → ⊥
has_index us l none there = none there.0 there.1 (get_or_default us there.0 (pos 0) l there.1 ∙ there.2)
