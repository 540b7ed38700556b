-- Replays of first lines, as far as they were stepped.
use Rattle.std.proofs.Common.{◌≡◌, ℕ, zero, suc, ◌+◌, ◌<◌, ◌≤◌, Bool, true, false, List, [], ◌∷◌, ◌++◌, length, length-append, take, get_or, refl, sym, ap, ◌∙◌, arith, subst, inl, inr}
use Rattle.std.proofs.lemmas.Bool.{cases_lt, false≢true}
use Rattle.std.proofs.lemmas.List.{length-take-le, take-append-le, take_all, take_more}
use Rattle.graph.specs.declared.circuit.Lit.{Lit}
use Rattle.graph.specs.declared.parts.Parts.{Parts}
use Rattle.graph.specs.Circuits.{Valuation, value_of, next_state}
use Rattle.simulate.specs.Replays.{Replayed, IsTheValuation}
use Rattle.stimulus.specs.Shown.{Begins, IsReplay}
use Rattle.stimulus.specs.Courses.{Course, state_after}
use Rattle.stimulus.proofs.CourseLaws.{Moves, course_length, course_of, last_snoc}
use Rattle.witness.specs.Cutting.{EndsFirst, NeverEnds, SetsLast}

-- a valuation for each line, each the only one of its state and line
abbrev pub OnlyCourse : Parts → List Bool → List (List Bool) → List Valuation → Type 0
OnlyCourse m state [] [] = Unit {0}
OnlyCourse m state [] (w ∷ r) = ⊥
OnlyCourse m state (line ∷ lines) [] = ⊥
OnlyCourse m state (line ∷ lines) (w ∷ r) = IsTheValuation m state line w × OnlyCourse m (next_state m w) lines r

only_length : (m : Parts) (state : List Bool) (lines : List (List Bool)) (r : List Valuation) → OnlyCourse m state lines r → length r ≡ length lines
only_length m state [] [] o = refl
only_length m state [] (w ∷ r) o = absurd o
only_length m state (line ∷ lines) [] o = absurd o
only_length m state (line ∷ lines) (w ∷ r) o = ap suc (only_length m (next_state m w) lines r o.1)

only_more : (m : Parts) (state line : List Bool) (lines : List (List Bool)) (r : List Valuation) (w : Valuation) → OnlyCourse m state lines r → IsTheValuation m (state_after m state r) line w →
    OnlyCourse m state (lines ++ line ∷ []) (r ++ w ∷ [])
only_more m state line [] [] w o one = (one, tt)
only_more m state line [] (v ∷ r) w o one = absurd o
only_more m state line (l ∷ lines) [] w o one = absurd o
only_more m state line (l ∷ lines) (v ∷ r) w o one = (o.0, only_more m (next_state m v) line lines r w o.1 one)

after_more : (m : Parts) (state : List Bool) (r : List Valuation) (w : Valuation) → state_after m state (r ++ w ∷ []) ≡ next_state m w
after_more m state [] w = refl
after_more m state (v ∷ r) w = after_more m (next_state m v) r w

-- another course is the same, as far as both go
common_times : (m : Parts) (state : List Bool) (lines : List (List Bool)) (i k : ℕ) (r x : List Valuation) → OnlyCourse m state (take i lines) r → Course m state (take k lines) x → take i x ≡ take k r
common_times m state lines zero zero r x o c = refl
common_times m state lines zero (suc k) [] x o c = refl
common_times m state lines zero (suc k) (w ∷ r) x o c = absurd o
common_times m state lines (suc i) zero r [] o c = refl
common_times m state lines (suc i) zero r (v ∷ x) o c = absurd c
common_times m state [] (suc i) (suc k) [] [] o c = refl
common_times m state [] (suc i) (suc k) [] (v ∷ x) o c = absurd c
common_times m state [] (suc i) (suc k) (w ∷ r) x o c = absurd o
common_times m state (l ∷ lines) (suc i) (suc k) [] x o c = absurd o
common_times m state (l ∷ lines) (suc i) (suc k) (w ∷ r) [] o c = absurd c
common_times m state (l ∷ lines) (suc i) (suc k) (w ∷ r) (v ∷ x) o c =
    let same : v ≡ w = o.0.only v c.0.agrees c.0.has_state c.0.has_inputs in
    let rest : take i x ≡ take k r = common_times m (next_state m w) lines i k r x o.1 (subst (λ (u : Valuation). Course m (next_state m u) (take k lines) x) same c.1) in
    ap (λ (u : Valuation). u ∷ take i x) same ∙ ap (λ (y : List Valuation). w ∷ y) rest

-- the first i lines were stepped, which gave these valuations
pub record Stepped (m : Parts) (first : List Bool) (lines : List (List Bool)) (i : ℕ) (now : Replayed) (r : List Valuation) : Type 0 where
  pub circuit : now.circuit ≡ m
  pub only : OnlyCourse m first (take i lines) r
  pub has_state : now.state ≡ state_after m first r

pub stepped_none : (m : Parts) (lines : List (List Bool)) (now : Replayed) → now.circuit ≡ m → Stepped m now.state lines 0 now []
stepped_none m lines now is_m = record { circuit = is_m; only = tt; has_state = refl }

pub stepped_more : (m : Parts) (first line : List Bool) (lines : List (List Bool)) (i : ℕ) (now after : Replayed) (r : List Valuation) (w : Valuation) → i < length lines → get_or lines i [] ≡ line →
    Stepped m first lines i now r → Moves m now.state line after w → Stepped m first lines (i + 1) after (r ++ w ∷ [])
stepped_more m first line lines i now after r w i_in is_line p s =
    let more : take (i + 1) lines ≡ take i lines ++ line ∷ [] = take_more lines i [] i_in ∙ ap (λ (l : List Bool). take i lines ++ l ∷ []) is_line in
    let one : IsTheValuation m (state_after m first r) line w = subst (λ (q : List Bool). IsTheValuation m q line w) p.has_state s.one in
    record {
      circuit = s.circuit;
      only = subst (λ (ls : List (List Bool)). OnlyCourse m first ls (r ++ w ∷ [])) (sym more) (only_more m first line (take i lines) r w p.only one);
      has_state = s.moves ∙ sym (after_more m first r w);
    }

pub stepped_long : (m : Parts) (first : List Bool) (lines : List (List Bool)) (i : ℕ) (now : Replayed) (r : List Valuation) → i ≤ length lines → Stepped m first lines i now r → length r ≡ i
stepped_long m first lines i now r i_in p = only_length m first (take i lines) r p.only ∙ length-take-le i lines i_in

-- ---- replays that end in some way

-- the first i lines were stepped, and no first valuations end so
pub record Unended (P : List Valuation → Type 0) (m : Parts) (first : List Bool) (lines : List (List Bool)) (i : ℕ) (now : Replayed) : Type 0 where
  pub valuations : List Valuation
  pub stepped : Stepped m first lines i now valuations
  pub before : (k : ℕ) → 0 < length (take k valuations) → P (take k valuations) → ⊥

pub none_taken : (k : ℕ) (r : List Valuation) → length r ≡ 0 → length (take k r) ≡ 0
none_taken zero r e = refl
none_taken (suc k) [] e = refl
none_taken (suc k) (w ∷ r) e = absurd (omega (arith, e))

pub unended_none : (P : List Valuation → Type 0) (m : Parts) (lines : List (List Bool)) (now : Replayed) → now.circuit ≡ m → Unended P m now.state lines 0 now
unended_none P m lines now is_m = record { valuations = []; stepped = stepped_none m lines now is_m; before = λ k some p. absurd (omega (arith, some, none_taken k [] refl)) }

pub before_more : (P : List Valuation → Type 0) (r : List Valuation) (w : Valuation) → ((k : ℕ) → 0 < length (take k r) → P (take k r) → ⊥) → (P (r ++ w ∷ []) → ⊥) →
    (k : ℕ) → 0 < length (take k (r ++ w ∷ [])) → P (take k (r ++ w ∷ [])) → ⊥
before_more P r w before not_so k some p = elim (cases_lt (length r) k) [
  | inl all ↦ not_so (subst P (take_all k (r ++ w ∷ []) (omega (arith, all, length-append r (w ∷ [])))) p)
  | inr some_of ↦
      let same : take k (r ++ w ∷ []) ≡ take k r = take-append-le k r (w ∷ []) some_of in
      before k (subst (λ (q : List Valuation). 0 < length q) same some) (subst P same p)
]

pub unended_more : (P : List Valuation → Type 0) (m : Parts) (first line : List Bool) (lines : List (List Bool)) (i : ℕ) (now after : Replayed) (w : Valuation) → i < length lines → get_or lines i [] ≡ line →
    (u : Unended P m first lines i now) → Moves m now.state line after w → (P (u.valuations ++ w ∷ []) → ⊥) → Unended P m first lines (i + 1) after
unended_more P m first line lines i now after w i_in is_line u s not_so = record {
  valuations = u.valuations ++ w ∷ [];
  stepped = stepped_more m first line lines i now after u.valuations w i_in is_line u.stepped s;
  before = before_more P u.valuations w u.before not_so;
}

replay_some : (m : Parts) (state : List Bool) (x : List Valuation) → Begins m state x → 0 < length x
replay_some m state [] begins = absurd begins
replay_some m state (w ∷ x) begins = omega arith

taken_short : (k : ℕ) (lines : List (List Bool)) → length (take k lines) ≤ k
taken_short zero lines = omega arith
taken_short (suc k) [] = omega arith
taken_short (suc k) (l ∷ lines) = let h = taken_short k lines in omega (arith, h)

taken_within : (k : ℕ) (lines : List (List Bool)) → length (take k lines) ≤ length lines
taken_within zero lines = omega arith
taken_within (suc k) [] = omega arith
taken_within (suc k) (l ∷ lines) = let h = taken_within k lines in omega (arith, h)

-- a replay of no more lines than were stepped has their first valuations, and does not end so
replay_before : (P : List Valuation → Type 0) (m : Parts) (first : List Bool) (lines : List (List Bool)) (i k : ℕ) (r x : List Valuation) → ((j : ℕ) → 0 < length (take j r) → P (take j r) → ⊥) →
    take i x ≡ take k r → length x ≤ i → IsReplay m first (take k lines) x → P x → ⊥
replay_before P m first lines i k r x before same short p ends =
    let is : x ≡ take k r = sym (take_all i x short) ∙ same in
    before k (subst (λ (q : List Valuation). 0 < length q) is (replay_some m first x p.begins)) (subst P is ends)

pub unended_never : (P : List Valuation → Type 0) (m : Parts) (first : List Bool) (lines : List (List Bool)) (i : ℕ) (now : Replayed) → i ≡ length lines → Unended P m first lines i now → NeverEnds P m first lines
unended_never P m first lines i now is_i u k x p ends =
    let c = course_of m first (take k lines) x p in
    let long = course_length m first (take k lines) x c in
    let within = taken_within k lines in
    replay_before P m first lines i k u.valuations x u.before (common_times m first lines i k u.valuations x u.stepped.only c) (omega (arith, is_i, long, within)) p ends

pub unended_ends : (P : List Valuation → Type 0) (m : Parts) (first line : List Bool) (lines : List (List Bool)) (i : ℕ) (now after : Replayed) (w : Valuation) → i < length lines → get_or lines i [] ≡ line →
    (u : Unended P m first lines i now) → Moves m now.state line after w → P (u.valuations ++ w ∷ []) → EndsFirst P m first lines (i + 1)
unended_ends P m first line lines i now after w i_in is_line u s so =
    let r = u.valuations in
    let next = stepped_more m first line lines i now after r w i_in is_line u.stepped s in
    let next_long : length (r ++ w ∷ []) ≡ i + 1 = stepped_long m first lines (i + 1) after (r ++ w ∷ []) (omega (arith, i_in)) next in
    record {
      some = omega arith;
      first = λ k x p ends.
          let c = course_of m first (take k lines) x p in
          let long = course_length m first (take k lines) x c in
          let short = taken_short k lines in
          elim (cases_lt k (i + 1)) [
            | inl early ↦ absurd (replay_before P m first lines i k r x u.before (common_times m first lines i k r x u.stepped.only c) (omega (arith, early, long, short)) p ends)
            | inr late ↦
                let same : take (i + 1) x ≡ r ++ w ∷ [] = common_times m first lines (i + 1) k (r ++ w ∷ []) x next.only c ∙ take_all k (r ++ w ∷ []) (omega (arith, late, next_long)) in
                (late, subst P (sym same) so)
          ];
    }

-- ---- a literal that is set at the last time

pub set_last : (a : Lit) (r : List Valuation) (w : Valuation) → value_of w a ≡ true → SetsLast a (r ++ w ∷ [])
set_last a r w on = ap (λ (v : Valuation). value_of v a) (last_snoc r w) ∙ on

pub not_set_last : (a : Lit) (r : List Valuation) (w : Valuation) → value_of w a ≡ false → SetsLast a (r ++ w ∷ []) → ⊥
not_set_last a r w off sets = false≢true (sym off ∙ (sym (ap (λ (v : Valuation). value_of v a) (last_snoc r w)) ∙ sets))
