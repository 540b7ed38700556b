-- What is put of a table, row by row.
use Rattle.std.proofs.Common.{◌≡◌, ℕ, ◌+◌, ◌<◌, ◌≢◌, Bool, List, [], ◌∷◌, ◌++◌, length, get_or, drop, Option, Some, Result, Ok, Err, OnOk, OnErr, IfErr, IsErrAnd, refl, sym, ap, ◌∙◌, arith, subst, append_assoc}
use Rattle.std.specs.Prelude.{codes, map, flat_map}
use Rattle.std.specs.Io.KnownBytes.{Appends}
use Rattle.std.proofs.KnownBytes.{Appends-trans}
use Rattle.std.proofs.lemmas.List.{append-nil}
use Rattle.std.proofs.lemmas.List.Folds.{flat_map-map}
use Rattle.base.specs.Devices.{Puts, PutsBeginning}
use Rattle.base.proofs.Putting.{begins_behind, begins_more}
use Rattle.graph.specs.declared.parts.Parts.{Parts}
use Rattle.graph.specs.declared.circuit.Lit.{Lit}
use Rattle.graph.specs.Circuits.{Valuation, inputs_of, state_of, value_of, at}
use Rattle.simulate.specs.Replays.{Replayed, Steps}
use Rattle.stimulus.specs.Shown.{IsReplay, closing_state}
use Rattle.stimulus.specs.Courses.{Course, IsAt}
use Rattle.stimulus.specs.Rows.{PutsRow, PutsRows, PutsReplay}
use Rattle.stimulus.specs.Texts.{value_text}
use Rattle.stimulus.specs.Tables.{field_text, row_text, rows_text, table_text, time_text, values_text}
use Rattle.stimulus.proofs.CourseLaws.{course_of, course_stands, closing_of, moves_of, played_more}
use Rattle.stimulus.proofs.PlayLaws.{one_replay}
use Rattle.stimulus.proofs.PlaySteps.{played_long}

-- ---- rows one after another

rows_append : (m : Parts) (t : ℕ) (r y : List Valuation) → rows_text m t (r ++ y) ≡ rows_text m t r ++ rows_text m (t + length r) y
rows_append m t [] y = let e : t ≡ t + 0 = omega arith in ap (λ (k : ℕ). rows_text m k y) e
rows_append m t (w ∷ r) y =
    let e : t + 1 + length r ≡ t + length (w ∷ r) = omega arith in
    ap (λ (s : List ℕ). row_text m t w ++ s) (rows_append m (t + 1) r y) ∙ sym (append_assoc (row_text m t w) (rows_text m (t + 1) r) (rows_text m (t + 1 + length r) y))
    ∙ ap (λ (k : ℕ). row_text m t w ++ rows_text m (t + 1) r ++ rows_text m k y) e

rows_behind : (m : Parts) (i : ℕ) (r y : List Valuation) → length r ≡ i → rows_text m 0 (r ++ y) ≡ rows_text m 0 r ++ rows_text m i y
rows_behind m i r y long =
    let e : 0 + length r ≡ i = omega (arith, long) in
    rows_append m 0 r y ∙ ap (λ (k : ℕ). rows_text m 0 r ++ rows_text m k y) e

one_row : (m : Parts) (i : ℕ) (r : List Valuation) (w : Valuation) → length r ≡ i → rows_text m 0 (r ++ w ∷ []) ≡ rows_text m 0 r ++ row_text m i w
one_row m i r w long = rows_behind m i r (w ∷ []) long ∙ ap (λ (s : List ℕ). rows_text m 0 r ++ s) (append-nil (row_text m i w))

-- one more line was stepped, and its row put
pub rows_more : (m : Parts) (first line : List Bool) (lines : List (List Bool)) (i : ℕ) (now after : Replayed) (a b c : Option (List ℕ)) → i < length lines → get_or lines i [] ≡ line → PutsRows m first lines i now a b
    → PutsRow m now after line i b c → PutsRows m first lines (i + 1) after a c
rows_more m first line lines i now after a b c i_in is_line p row =
    let r = p.valuations in
    let w = row.steps.now in
    let long : length r ≡ i = played_long m first lines i now r (omega (arith, i_in)) p.played in
    record {
      valuations = r ++ w ∷ [];
      played = played_more m first line lines i now after r w i_in is_line p.played (moves_of m now after line p.played.circuit row.steps);
      appends = subst (Appends a c) (sym (one_row m i r w long)) (Appends-trans a b c (rows_text m 0 r) (row_text m i w) p.appends row.appends);
    }

-- a beginning of the next row was put
pub rows_cut : (m : Parts) (first line : List Bool) (lines : List (List Bool)) (i : ℕ) (now : Replayed) (a b c : Option (List ℕ)) → i < length lines → get_or lines i [] ≡ line → PutsRows m first lines i now a b
    → ((w : Valuation) → IsAt m now.state line w → PutsBeginning b c (row_text m i w)) → (x : List Valuation) → Course m first lines x → PutsBeginning a c (rows_text m 0 x)
rows_cut m first line lines i now a b c i_in is_line p begins x course =
    let r = p.valuations in
    let long : length r ≡ i = played_long m first lines i now r (omega (arith, i_in)) p.played in
    let o = p.played.others x course in
    let s = course_stands m first now.state line lines i x i_in is_line course o.1 in
    let w = at x i in
    let later = rows_text m (i + 1) (drop (i + 1) x) in
    let x_is : x ≡ r ++ (w ∷ drop (i + 1) x) = o.0 ∙ ap (λ (y : List Valuation). r ++ y) s.splits in
    let text : rows_text m 0 x ≡ rows_text m 0 r ++ (row_text m i w ++ later) = ap (λ (y : List Valuation). rows_text m 0 y) x_is ∙ rows_behind m i r (w ∷ drop (i + 1) x) long in
    subst (PutsBeginning a c) (sym text) (begins_behind a b c (rows_text m 0 r) (row_text m i w ++ later) p.appends (begins_more b c (row_text m i w) later (begins w s.here)))

-- ---- one row

-- what is known of a failure
pub on_err : {X E P : Type 0} (r : Result X E) → P → OnErr r P
on_err (Ok x) p = tt
on_err (Err e) p = p

-- the time was put, the line stepped, and the rest put
pub row_put : {X E : Type 0} (m : Parts) (before after : Replayed) (line : List Bool) (t : ℕ) (r : Result X E) (a b c : Option (List ℕ)) → before.circuit ≡ m → Steps before after line → Appends a b (time_text t before.state)
    → ((w : Valuation) → after.now ≡ Some w → inputs_of m w ≡ line → Puts r b c (values_text m w)) → OnOk r (PutsRow m before after line t a c)
row_put m before after line t (Ok x) a b c is_m steps time rest =
    let s = moves_of m before after line is_m steps in
    let w = steps.now in
    let begun : Appends a b (time_text t (state_of m w)) = subst (λ (q : List Bool). Appends a b (time_text t q)) (sym s.one.has_state) time in
    record { steps = steps; appends = Appends-trans a b c (time_text t (state_of m w)) (values_text m w) begun (rest w s.is_now s.one.has_inputs) }
row_put m before after line t (Err e) a b c is_m steps time rest = tt

-- or the rest failed
pub row_begun : {X E : Type 0} (m : Parts) (before after : Replayed) (line : List Bool) (t : ℕ) (r : Result X E) (a b c : Option (List ℕ)) → before.circuit ≡ m → Steps before after line → Appends a b (time_text t before.state)
    → ((w : Valuation) → after.now ≡ Some w → inputs_of m w ≡ line → Puts r b c (values_text m w)) → OnErr r ((w : Valuation) → IsAt m before.state line w → PutsBeginning a c (row_text m t w))
row_begun m before after line t (Ok x) a b c is_m steps time rest = tt
row_begun m before after line t (Err e) a b c is_m steps time rest = λ x here.
    let s = moves_of m before after line is_m steps in
    let w = steps.now in
    let same : x ≡ w = s.one.only x here.agrees here.has_state here.has_inputs in
    let begun : Appends a b (time_text t (state_of m w)) = subst (λ (q : List Bool). Appends a b (time_text t q)) (sym s.one.has_state) time in
    subst (λ (v : Valuation). PutsBeginning a c (row_text m t v)) (sym same) (begins_behind a b c (time_text t (state_of m w)) (values_text m w) begun (rest w s.is_now s.one.has_inputs))

-- ---- the whole table

-- what is known of the replay once all rows were put
record HasRows (m : Parts) (initial : List Bool) (inputs : List (List Bool)) (now : Replayed) (a b : Option (List ℕ)) (r : List Valuation) : Type 0 where
  replays : IsReplay m initial inputs r
  only : (x : List Valuation) → IsReplay m initial inputs x → x ≡ r
  appends : Appends a b (rows_text m 0 r)
  last : time_text (length inputs) now.state ≡ time_text (length r) (closing_state m r)

has_rows : (m : Parts) (initial : List Bool) (inputs : List (List Bool)) (now : Replayed) (a b : Option (List ℕ)) → inputs ≢ [] → (p : PutsRows m initial inputs (length inputs) now a b) → HasRows m initial inputs now a b p.valuations
has_rows m initial inputs now a b some p =
    let r = p.valuations in
    let one = one_replay m initial inputs now r some p.played in
    let long : length r ≡ length inputs = played_long m initial inputs (length inputs) now r (omega arith) p.played in
    let closes : now.state ≡ closing_state m r = p.played.has_state ∙ closing_of m initial r one.replays.begins in
    record {
      replays = one.replays;
      only = one.only;
      appends = p.appends;
      last = ap (λ (k : ℕ). time_text k now.state) (sym long) ∙ ap (λ (s : List Bool). time_text (length r) s) closes;
    }

pub table_whole : (m : Parts) (initial : List Bool) (inputs : List (List Bool)) (now : Replayed) (a b c d : Option (List ℕ)) → inputs ≢ [] → PutsRows m initial inputs (length inputs) now a b
    → Appends b c (time_text (length inputs) now.state) → Appends c d (codes "\n") → PutsReplay m initial inputs a d
table_whole m initial inputs now a b c d some p time end =
    let h = has_rows m initial inputs now a b some p in
    let r = p.valuations in
    let last = time_text (length r) (closing_state m r) in
    record {
      replay = r;
      replays = h.replays;
      only = h.only;
      appends = Appends-trans a b d (rows_text m 0 r) (last ++ codes "\n") h.appends (Appends-trans b c d last (codes "\n") (subst (Appends b c) h.last time) end);
    }

-- a beginning of the last line was put behind the rows
table_cut : (m : Parts) (initial : List Bool) (inputs : List (List Bool)) (now : Replayed) (a b c : Option (List ℕ)) → inputs ≢ [] → PutsRows m initial inputs (length inputs) now a b
    → PutsBeginning b c (time_text (length inputs) now.state ++ codes "\n") → (x : List Valuation) → IsReplay m initial inputs x → PutsBeginning a c (table_text m x)
table_cut m initial inputs now a b c some p begins x one =
    let h = has_rows m initial inputs now a b some p in
    let r = p.valuations in
    let last = time_text (length r) (closing_state m r) in
    let whole : PutsBeginning a c (table_text m r) = begins_behind a b c (rows_text m 0 r) (last ++ codes "\n") h.appends (subst (λ (s : List ℕ). PutsBeginning b c (s ++ codes "\n")) h.last begins) in
    subst (λ (y : List Valuation). PutsBeginning a c (table_text m y)) (sym (h.only x one)) whole

pub table_cut_in_time : (m : Parts) (initial : List Bool) (inputs : List (List Bool)) (now : Replayed) (a b c : Option (List ℕ)) → inputs ≢ [] → PutsRows m initial inputs (length inputs) now a b
    → PutsBeginning b c (time_text (length inputs) now.state) → (x : List Valuation) → IsReplay m initial inputs x → PutsBeginning a c (table_text m x)
table_cut_in_time m initial inputs now a b c some p begins = table_cut m initial inputs now a b c some p (begins_more b c (time_text (length inputs) now.state) (codes "\n") begins)

pub table_cut_behind : (m : Parts) (initial : List Bool) (inputs : List (List Bool)) (now : Replayed) (a b c d : Option (List ℕ)) → inputs ≢ [] → PutsRows m initial inputs (length inputs) now a b
    → Appends b c (time_text (length inputs) now.state) → PutsBeginning c d (codes "\n") → (x : List Valuation) → IsReplay m initial inputs x → PutsBeginning a d (table_text m x)
table_cut_behind m initial inputs now a b c d some p time begins = table_cut m initial inputs now a b d some p (begins_behind b c d (time_text (length inputs) now.state) (codes "\n") time begins)

-- ---- the values of literals

-- where there are literals, their field is a space and their values
pub literal_field : (w : Valuation) (lits : List Lit) → 0 < length lits → codes " " ++ flat_map (λ a. value_text (value_of w a)) lits ≡ field_text (map (value_of w) lits)
literal_field w [] some = absurd (omega (arith, some))
literal_field w (a ∷ lits) some = ap (λ (s : List ℕ). codes " " ++ s) (sym (flat_map-map value_text (value_of w) (a ∷ lits)))

pub no_field : (w : Valuation) (lits : List Lit) → length lits ≡ 0 → codes " -" ≡ field_text (map (value_of w) lits)
no_field w [] none = refl
no_field w (a ∷ lits) none = absurd (omega (arith, none))

-- ---- what a call answers

pub ok_then : {X E P Q : Type 0} (r : Result X E) → OnOk r P → (P → Q) → OnOk r Q
ok_then (Ok x) p f = f p
ok_then (Err e) p f = tt

pub err_then : {X E P Q : Type 0} (r : Result X E) → OnErr r P → (P → Q) → OnErr r Q
err_then (Ok x) p f = tt
err_then (Err e) p f = f p

-- a beginning of the rows is one of the table
pub table_cut_in_rows : (m : Parts) (initial : List Bool) (inputs : List (List Bool)) (a b : Option (List ℕ)) → ((x : List Valuation) → Course m initial inputs x → PutsBeginning a b (rows_text m 0 x))
    → (x : List Valuation) → IsReplay m initial inputs x → PutsBeginning a b (table_text m x)
table_cut_in_rows m initial inputs a b begins x one = begins_more a b (rows_text m 0 x) (time_text (length x) (closing_state m x) ++ codes "\n") (begins x (course_of m initial inputs x one))

-- what holds of the error that is answered
pub err_at : {X E : Type 0} (r : Result X E) (e : E) (P : E → Type 0) → IsErrAnd r (λ x. x ≡ e) → P e → IfErr r P
err_at (Ok x) e P is p = absurd is
err_at (Err x) e P is p = subst P (sym is) p
