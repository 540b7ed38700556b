-- Courses: replays, valuation by valuation.
use Rattle.std.proofs.Common.{◌≡◌, ℕ, suc, ◌+◌, ◌-◌, ◌<◌, ◌≢◌, Bool, false, List, [], ◌∷◌, ◌++◌, length, map, get_or, take, drop, Some, refl, sym, ap, ◌∙◌, arith, All, subst, append_assoc, length-append}
use Rattle.std.proofs.lemmas.List.{take_more, drop_more, get_or-append-add, get_or-map}
use Rattle.std.proofs.lemmas.List.Elements.{All-nil, All-cons, All-head, All-tail}
use Rattle.graph.specs.declared.circuit.Latch.{Latch}
use Rattle.graph.specs.declared.parts.Parts.{Parts}
use Rattle.graph.specs.Circuits.{Valuation, value_of, Agrees, state_of, inputs_of, next_state, IsInitial, StartsInitial, IsRun, Steps, at}
use Rattle.simulate.specs.Replays.{Replayed, IsTheValuation, Steps as Passes}
use Rattle.simulate.specs.Starts.{Starts}
use Rattle.stimulus.specs.Shown.{Begins, IsReplay, last_of, closing_state}
use Rattle.stimulus.specs.Courses.{IsAt, Course, state_after, IsPlayed}

-- ---- one time more

pub course_length : (m : Parts) (state : List Bool) (lines : List (List Bool)) (r : List Valuation) → Course m state lines r → length r ≡ length lines
course_length m state [] [] c = refl
course_length m state [] (w ∷ r) c = absurd c
course_length m state (l ∷ lines) [] c = absurd c
course_length m state (l ∷ lines) (w ∷ r) c = ap suc (course_length m (next_state m w) lines r c.1)

course_snoc : (m : Parts) (state line : List Bool) (lines : List (List Bool)) (r : List Valuation) (w : Valuation) → Course m state lines r → IsAt m (state_after m state r) line w → Course m state (lines ++ line ∷ []) (r ++ w ∷ [])
course_snoc m state line [] [] w c a = (a, tt)
course_snoc m state line [] (v ∷ r) w c a = absurd c
course_snoc m state line (l ∷ lines) [] w c a = absurd c
course_snoc m state line (l ∷ lines) (v ∷ r) w c a = (c.0, course_snoc m (next_state m v) line lines r w c.1 a)

after_snoc : (m : Parts) (state : List Bool) (r : List Valuation) (w : Valuation) → state_after m state (r ++ w ∷ []) ≡ next_state m w
after_snoc m state [] w = refl
after_snoc m state (v ∷ r) w = after_snoc m (next_state m v) r w

pub last_snoc : (r : List Valuation) (w : Valuation) → last_of (r ++ w ∷ []) ≡ w
last_snoc r w =
    let e : length (r ++ w ∷ []) - 1 ≡ length r + 0 = omega (arith, length-append r (w ∷ [])) in
    ap (λ (k : ℕ). at (r ++ w ∷ []) k) e ∙ get_or-append-add r (w ∷ []) 0 []

-- where a course stands at a time
pub record StandsAt (m : Parts) (state line : List Bool) (lines : List (List Bool)) (i : ℕ) (x : List Valuation) : Type 0 where
  pub inside : i < length x
  pub here : IsAt m state line (at x i)
  pub splits : drop i x ≡ at x i ∷ drop (i + 1) x
  pub later : Course m (next_state m (at x i)) (drop (i + 1) lines) (drop (i + 1) x)

pub course_stands : (m : Parts) (first state line : List Bool) (lines : List (List Bool)) (i : ℕ) (x : List Valuation) → i < length lines → get_or lines i [] ≡ line → Course m first lines x → Course m state (drop i lines) (drop i x)
    → StandsAt m state line lines i x
course_stands m first state line lines i x i_in is_line whole c =
    let inside : i < length x = omega (arith, course_length m first lines x whole) in
    let lines_split : drop i lines ≡ line ∷ drop (i + 1) lines = drop_more lines i [] i_in ∙ ap (λ (l : List Bool). l ∷ drop (i + 1) lines) is_line in
    let x_split : drop i x ≡ at x i ∷ drop (i + 1) x = drop_more x i [] inside in
    let c1 : Course m state (line ∷ drop (i + 1) lines) (drop i x) = subst (λ (ls : List (List Bool)). Course m state ls (drop i x)) lines_split c in
    let c2 : Course m state (line ∷ drop (i + 1) lines) (at x i ∷ drop (i + 1) x) = subst (λ (r : List Valuation). Course m state (line ∷ drop (i + 1) lines) r) x_split c1 in
    record { inside = inside; here = c2.0; splits = x_split; later = c2.1 }

-- and how it goes on
pub record GoesOn (m : Parts) (state : List Bool) (lines : List (List Bool)) (i : ℕ) (w : Valuation) (x : List Valuation) : Type 0 where
  pub inside : i < length x
  pub is_now : at x i ≡ w
  pub had_state : state_of m (at x i) ≡ state
  pub splits : drop i x ≡ w ∷ drop (i + 1) x
  pub later : Course m (next_state m w) (drop (i + 1) lines) (drop (i + 1) x)

pub course_goes : (m : Parts) (first state line : List Bool) (lines : List (List Bool)) (i : ℕ) (w : Valuation) (x : List Valuation) → i < length lines → get_or lines i [] ≡ line → IsTheValuation m state line w
    → Course m first lines x → Course m state (drop i lines) (drop i x) → GoesOn m state lines i w x
course_goes m first state line lines i w x i_in is_line one whole c =
    let s = course_stands m first state line lines i x i_in is_line whole c in
    let same : at x i ≡ w = one.only (at x i) s.here.agrees s.here.has_state s.here.has_inputs in
    record {
      inside = s.inside;
      is_now = same;
      had_state = s.here.has_state;
      splits = s.splits ∙ ap (λ (v : Valuation). v ∷ drop (i + 1) x) same;
      later = subst (λ (v : Valuation). Course m (next_state m v) (drop (i + 1) lines) (drop (i + 1) x)) same s.later;
    }

-- what one step of a replay does
pub record Moves (m : Parts) (state line : List Bool) (after : Replayed) (w : Valuation) : Type 0 where
  pub circuit : after.circuit ≡ m
  pub is_now : after.now ≡ Some w
  pub one : IsTheValuation m state line w
  pub moves : after.state ≡ next_state m w

pub moves_of : (m : Parts) (now after : Replayed) (line : List Bool) → now.circuit ≡ m → (s : Passes now after line) → Moves m now.state line after s.now
moves_of m now after line is_m s = record {
  circuit = s.circuit ∙ is_m;
  is_now = s.is_now;
  one = subst (λ (q : Parts). IsTheValuation q now.state line s.now) is_m s.evaluates;
  moves = s.moves ∙ ap (λ (q : Parts). next_state q s.now) is_m;
}

-- ---- lines that were stepped

pub played_none : (m : Parts) (lines : List (List Bool)) (now : Replayed) → now.circuit ≡ m → IsPlayed m now.state lines 0 now []
played_none m lines now is_m = record {
  circuit = is_m;
  course = tt;
  has_state = refl;
  has_now = λ some. absurd (omega (arith, some));
  others = λ x c. (refl, c);
}

pub played_more : (m : Parts) (first line : List Bool) (lines : List (List Bool)) (i : ℕ) (now after : Replayed) (r : List Valuation) (w : Valuation) → i < length lines → get_or lines i [] ≡ line
    → IsPlayed m first lines i now r → Moves m now.state line after w → IsPlayed m first lines (i + 1) after (r ++ w ∷ [])
played_more m first line lines i now after r w i_in is_line p s =
    let here : IsAt m (state_after m first r) line w = record { agrees = s.one.agrees; has_state = s.one.has_state ∙ p.has_state; has_inputs = s.one.has_inputs } in
    let more : take (i + 1) lines ≡ take i lines ++ line ∷ [] = take_more lines i [] i_in ∙ ap (λ (l : List Bool). take i lines ++ l ∷ []) is_line in
    record {
      circuit = s.circuit;
      course = subst (λ (ls : List (List Bool)). Course m first ls (r ++ w ∷ [])) (sym more) (course_snoc m first line (take i lines) r w p.course here);
      has_state = s.moves ∙ sym (after_snoc m first r w);
      has_now = λ some. s.is_now ∙ ap (λ (v : Valuation). Some v) (sym (last_snoc r w));
      others = λ x c.
          let o = p.others x c in
          let g = course_goes m first now.state line lines i w x i_in is_line s.one c o.1 in (
            o.0 ∙ ap (λ (y : List Valuation). r ++ y) g.splits ∙ sym (append_assoc r (w ∷ []) (drop (i + 1) x)),
            subst (λ (q : List Bool). Course m q (drop (i + 1) lines) (drop (i + 1) x)) (sym s.moves) g.later,
          );
    }

-- ---- courses are replays

course_self : (m : Parts) (r : List Valuation) (state : List Bool) → All (Agrees m) r → Begins m state r → Steps m r → Course m state (map (inputs_of m) r) r
course_self m [] state agrees begins steps = absurd begins
course_self m (w ∷ []) state agrees begins steps = (record { agrees = All-head (Agrees m) w [] agrees; has_state = begins; has_inputs = refl }, tt)
course_self m (w ∷ x ∷ r) state agrees begins steps = (
  record { agrees = All-head (Agrees m) w (x ∷ r) agrees; has_state = begins; has_inputs = refl },
  course_self m (x ∷ r) (next_state m w) (All-tail (Agrees m) w (x ∷ r) agrees) steps.0 steps.1,
)

pub course_of : (m : Parts) (state : List Bool) (lines : List (List Bool)) (r : List Valuation) → IsReplay m state lines r → Course m state lines r
course_of m state lines r p = subst (λ (ls : List (List Bool)). Course m state ls r) p.has_inputs (course_self m r state p.agrees p.begins p.steps)

course_agrees : (m : Parts) (state : List Bool) (lines : List (List Bool)) (r : List Valuation) → Course m state lines r → All (Agrees m) r
course_agrees m state [] [] c = All-nil (Agrees m)
course_agrees m state [] (w ∷ r) c = absurd c
course_agrees m state (l ∷ lines) [] c = absurd c
course_agrees m state (l ∷ lines) (w ∷ r) c = All-cons (Agrees m) w r c.0.agrees (course_agrees m (next_state m w) lines r c.1)

course_inputs : (m : Parts) (state : List Bool) (lines : List (List Bool)) (r : List Valuation) → Course m state lines r → map (inputs_of m) r ≡ lines
course_inputs m state [] [] c = refl
course_inputs m state [] (w ∷ r) c = absurd c
course_inputs m state (l ∷ lines) [] c = absurd c
course_inputs m state (l ∷ lines) (w ∷ r) c =
    ap (λ (u : List Bool). u ∷ map (inputs_of m) r) c.0.has_inputs ∙ ap (λ (u : List (List Bool)). l ∷ u) (course_inputs m (next_state m w) lines r c.1)

course_steps : (m : Parts) (state : List Bool) (lines : List (List Bool)) (r : List Valuation) → Course m state lines r → Steps m r
course_steps m state lines [] c = tt
course_steps m state lines (w ∷ []) c = tt
course_steps m state [] (w ∷ x ∷ r) c = absurd c
course_steps m state (l ∷ []) (w ∷ x ∷ r) c = absurd c.1
course_steps m state (l ∷ k ∷ lines) (w ∷ x ∷ r) c = (c.1.0.has_state, course_steps m (next_state m w) (k ∷ lines) (x ∷ r) c.1)

course_begins : (m : Parts) (state : List Bool) (lines : List (List Bool)) (r : List Valuation) → lines ≢ [] → Course m state lines r → Begins m state r
course_begins m state [] r some c = absurd (some refl)
course_begins m state (l ∷ lines) [] some c = absurd c
course_begins m state (l ∷ lines) (w ∷ r) some c = c.0.has_state

pub replay_of : (m : Parts) (state : List Bool) (lines : List (List Bool)) (r : List Valuation) → lines ≢ [] → Course m state lines r → IsReplay m state lines r
replay_of m state lines r some c = record {
  agrees = course_agrees m state lines r c;
  begins = course_begins m state lines r some c;
  has_inputs = course_inputs m state lines r c;
  steps = course_steps m state lines r c;
}

-- ---- the state behind the last time

last_cons : (w x : Valuation) (r : List Valuation) → last_of (w ∷ x ∷ r) ≡ last_of (x ∷ r)
last_cons w x r =
    let e : length (w ∷ x ∷ r) - 1 ≡ suc (length (x ∷ r) - 1) = omega arith in
    ap (λ (k : ℕ). at (w ∷ x ∷ r) k) e

pub after_closing : (m : Parts) (state : List Bool) (w : Valuation) (r : List Valuation) → state_after m state (w ∷ r) ≡ closing_state m (w ∷ r)
after_closing m state w [] = refl
after_closing m state w (x ∷ r) = after_closing m (next_state m w) x r ∙ ap (λ (v : Valuation). next_state m v) (sym (last_cons w x r))

pub closing_of : (m : Parts) (state : List Bool) (r : List Valuation) → Begins m state r → state_after m state r ≡ closing_state m r
closing_of m state [] begins = absurd begins
closing_of m state (w ∷ r) begins = after_closing m state w r

-- ---- the first state

value_at : (m : Parts) (state : List Bool) (w : Valuation) → state_of m w ≡ state → (k : ℕ) (d : Latch) → k < length m.latches → get_or state k false ≡ value_of w (get_or m.latches k d).lit
value_at m state w e k d k_in = ap (λ (s : List Bool). get_or s k false) (sym e) ∙ get_or-map (λ l. value_of w l.lit) m.latches k d false k_in

initial_of : (m : Parts) (state : List Bool) (w : Valuation) → state_of m w ≡ state → Starts m.latches state → IsInitial m w
initial_of m state w e starts k d k_in =
    let f = starts k k_in d in
    let v = value_at m state w e k d k_in in
    record { low = λ z. sym v ∙ f.low z; high = λ z. sym v ∙ f.high z }

starts_initial : (m : Parts) (state : List Bool) (r : List Valuation) → Begins m state r → Starts m.latches state → StartsInitial m r
starts_initial m state [] begins starts = absurd begins
starts_initial m state (w ∷ r) begins starts = initial_of m state w begins starts

pub run_of : (m : Parts) (state : List Bool) (lines : List (List Bool)) (r : List Valuation) → IsReplay m state lines r → Starts m.latches state → IsRun m r
run_of m state lines r p starts = record { agrees = p.agrees; starts = starts_initial m state r p.begins starts; steps = p.steps }

-- the first state of a run is not against a reset
pub starts_of : (m : Parts) (state : List Bool) (r : List Valuation) → Begins m state r → StartsInitial m r → Starts m.latches state
starts_of m state [] begins initial k k_in d = absurd begins
starts_of m state (w ∷ r) begins initial k k_in d =
    let f = initial k d k_in in
    let v = value_at m state w begins k d k_in in
    record { low = λ z. v ∙ f.low z; high = λ z. v ∙ f.high z }
