-- What lines show that are played one after the other.
use Rattle.base.specs.Witness.{witness}
use Rattle.std.proofs.Common.{◌≡◌, ◌≢◌, ℕ, zero, suc, ◌+◌, ◌<◌, ◌≤◌, Bool, true, false, List, [], ◌∷◌, ◌++◌, length, get_or, take, drop, Option, Some, None, refl, sym, ap, ◌∙◌, arith, All, subst, inl, inr}
use Rattle.std.proofs.Math.Seq.{get_or-append_seam}
use Rattle.std.proofs.lemmas.List.{append-nil, drop_all, get_or_append_left, length-append, take-append-drop, take-append-le}
use Rattle.std.proofs.lemmas.List.Elements.{All-push}
use Rattle.graph.specs.declared.circuit.Lit.{Lit}
use Rattle.graph.specs.declared.circuit.Property.{Property}
use Rattle.graph.specs.declared.parts.Parts.{Parts}
use Rattle.graph.specs.Circuits.{HasProperty, IsWatched, position_of, next_state, Valuation, value_of}
use Rattle.graph.proofs.Alone.{watched_there}
use Rattle.simulate.specs.Replays.{Replayed, begun}
use Rattle.simulate.specs.Starts.{Starts, IsFirstAgainst}
use Rattle.stimulus.specs.Causes.{BreaksAt, HasCauseIn, IsFirstWrong, IsFit, KeepsAt}
use Rattle.stimulus.specs.Courses.{Course, HasRun, IsPlayed, PlaysAll, state_after}
use Rattle.stimulus.specs.Numbers.{judge_number_of}
use Rattle.stimulus.specs.Shown.{IsReplay, last_of}
use Rattle.stimulus.specs.declared.judge_error.JudgeError.{JudgeError}
use Rattle.stimulus.specs.declared.judge_error.JudgeError.TheVariants.{NoProperty, LineLength, NoInputLine, InitialReset, ConstraintBroken, BadNotSet, OutOfMemory}
use Rattle.stimulus.proofs.CourseLaws.{Moves, course_of, replay_of}
use Rattle.stimulus.proofs.PlayLaws.{breaks_at, has_run}
use Rattle.stimulus.proofs.PlaySteps.{Playing, played_long, playing_all, playing_breaks, playing_more, playing_none}
use Rattle.replay.specs.declared.lines.Lengths.{Lengths}
use Rattle.replay.specs.declared.lines.Lengths.TheVariants.{Fit, Missing, Wrong}
use Rattle.replay.specs.Found.{AreFound, AreOfLengths, ArePlayed, AreRefused, cause_by}

-- ---- lists

drop_front : {A : Type 0} (a b : List A) → drop (length a) (a ++ b) ≡ b
drop_front [] b = refl
drop_front (c ∷ a) b = drop_front a b

take_take : {A : Type 0} (k n : ℕ) (xs : List A) → k ≤ n → take k (take n xs) ≡ take k xs
take_take zero n xs le = refl
take_take (suc k) zero xs le = absurd (omega (arith, le))
take_take (suc k) (suc n) [] le = refl
take_take (suc k) (suc n) (x ∷ xs) le = ap (λ ys. x ∷ ys) (take_take k n xs (omega (arith, le)))

some_lines : (t : ℕ) (lines : List (List Bool)) → t < length lines → lines ≢ []
some_lines t [] lt = absurd (omega (arith, lt))
some_lines t (l ∷ lines) lt = λ e. absurd cc

-- ---- lines, and more of them

-- a course of lines and more is one of the lines, and then one of the others
record IsSplit (m : Parts) (state : List Bool) (a b : List (List Bool)) (x : List Valuation) : Type 0 where
  first : Course m state a (take (length a) x)
  later : Course m (state_after m state (take (length a) x)) b (drop (length a) x)

course_splits : (m : Parts) (state : List Bool) (a b : List (List Bool)) (x : List Valuation) → Course m state (a ++ b) x → IsSplit m state a b x
course_splits m state [] b x c = record { first = tt; later = c }
course_splits m state (l ∷ a) b [] c = absurd c
course_splits m state (l ∷ a) b (w ∷ x) c =
    let s = course_splits m (next_state m w) a b x c.1 in
    record { first = (c.0, s.first); later = s.later }

none_left : (m : Parts) (state : List Bool) (y : List Valuation) → Course m state [] y → y ≡ []
none_left m state [] c = refl
none_left m state (w ∷ y) c = absurd c

-- lines that were played are the first of more
played_wide : (m : Parts) (first : List Bool) (front more : List (List Bool)) (now : Replayed) (r : List Valuation) → IsPlayed m first front (length front) now r → IsPlayed m first (front ++ more) (length front) now r
played_wide m first front more now r p =
    let n = length front in
    let same : take n (front ++ more) ≡ take n front = take-append-le n front more (omega arith) in
    record {
      circuit = p.circuit;
      course = subst (λ (ls : List (List Bool)). Course m first ls r) (sym same) p.course;
      has_state = p.has_state;
      has_now = p.has_now;
      others = λ x c.
          let s = course_splits m first front more x c in
          let o = p.others (take n x) s.first in
          let nothing : drop n (take n x) ≡ [] = none_left m now.state (drop n (take n x)) (subst (λ (ls : List (List Bool)). Course m now.state ls (drop n (take n x))) (drop_all n front (omega arith)) o.1) in
          let is : take n x ≡ r = o.0 ∙ ap (λ (y : List Valuation). r ++ y) nothing ∙ append-nil r in
          let state : state_after m first (take n x) ≡ now.state = ap (λ (y : List Valuation). state_after m first y) is ∙ sym p.has_state in
          let later : Course m now.state more (drop n x) = subst (λ (q : List Bool). Course m q more (drop n x)) state s.later in (
            sym (take-append-drop n x) ∙ ap (λ (y : List Valuation). y ++ drop n x) is,
            subst (λ (ls : List (List Bool)). Course m now.state ls (drop n x)) (sym (drop_front front more)) later,
          );
    }

playing_wide : (m : Parts) (initial : List Bool) (front more : List (List Bool)) (now : Replayed) → PlaysAll m (begun m initial) now front → Playing m initial (front ++ more) (length front) now
playing_wide m initial front more now p =
    let long : length p.valuations ≡ length front = played_long m initial front (length front) now p.valuations (omega arith) p.played in
    record {
      valuations = p.valuations;
      played = played_wide m initial front more now p.valuations p.played;
      keeps = λ k k_in. p.keeps k [] (omega (arith, long, k_in));
    }

-- ---- one line more

at_seam : (front : List (List Bool)) (line : List Bool) → get_or (front ++ line ∷ []) (length front) [] ≡ line
at_seam front line = get_or-append_seam front line [] []

one_more : (front : List (List Bool)) (line : List Bool) → length front + 1 ≡ length (front ++ line ∷ [])
one_more front line = omega (arith, length-append front (line ∷ []))

pub plays_more : (m : Parts) (initial line : List Bool) (front : List (List Bool)) (now after : Replayed) (w : Valuation) → PlaysAll m (begun m initial) now front → Moves m now.state line after w → KeepsAt m w → PlaysAll m (begun m initial) after (front ++ line ∷ [])
plays_more m initial line front now after w p s kept =
    let long = one_more front line in
    playing_all m (begun m initial) (front ++ line ∷ []) (length front + 1) after long
    (playing_more m initial line (front ++ line ∷ []) (length front) now after w (omega (arith, long)) (at_seam front line) (playing_wide m initial front (line ∷ []) now p) s kept)

pub breaks_here : (m : Parts) (initial line : List Bool) (front : List (List Bool)) (now after : Replayed) (w : Valuation) → PlaysAll m (begun m initial) now front → Moves m now.state line after w → (KeepsAt m w → ⊥) → BreaksAt m initial (front ++ line ∷ []) (length front)
breaks_here m initial line front now after w p s breaks =
    let long = one_more front line in
    breaks_at m initial (front ++ line ∷ []) after (length front)
    (playing_breaks m (begun m initial) line (front ++ line ∷ []) (length front) now after w (omega (arith, long)) (at_seam front line) (playing_wide m initial front (line ∷ []) now p) s breaks)

-- a constraint that is broken stays so, whatever follows
pub breaks_more : (m : Parts) (initial : List Bool) (front more : List (List Bool)) (t : ℕ) → BreaksAt m initial front t → BreaksAt m initial (front ++ more) t
breaks_more m initial front more t b =
    let inside = b.inside in
    let n = length front in
    let same : take (t + 1) (front ++ more) ≡ take (t + 1) front = take-append-le (t + 1) front more (omega (arith, inside)) in
    record {
      inside = omega (arith, inside, length-append front more);
      replay = b.replay;
      replays = subst (λ (ls : List (List Bool)). IsReplay m initial ls b.replay) (sym same) b.replays;
      only = λ x one.
          let s = course_splits m initial front more x (course_of m initial (front ++ more) x one) in
          sym (take_take (t + 1) n x (omega (arith, inside))) ∙ b.only (take n x) (replay_of m initial front (take n x) (some_lines t front inside) s.first);
      before = b.before;
      broken = b.broken;
    }

-- ---- lengths

-- the first line that does not fit, whatever follows
pub wrong_here : (front more : List (List Bool)) (line : List Bool) (long : ℕ) → All (λ l. length l ≡ long) front → length line ≢ long → IsFirstWrong ((front ++ line ∷ []) ++ more) long (length front)
wrong_here front more line long fit wrong =
    let n = length front in
    let count = one_more front line in
    let some : get_or ((front ++ line ∷ []) ++ more) n [] ≡ line = get_or_append_left (front ++ line ∷ []) more [] n (omega (arith, count)) ∙ at_seam front line in
    record {
      inside = omega (arith, count, length-append (front ++ line ∷ []) more);
      wrong = subst (λ (l : List Bool). length l ≢ long) (sym some) wrong;
      before = λ i i_in.
          let here : get_or ((front ++ line ∷ []) ++ more) i [] ≡ get_or front i [] = get_or_append_left (front ++ line ∷ []) more [] i (omega (arith, count, i_in)) ∙ get_or_append_left front (line ∷ []) [] i i_in in
          ap (λ (l : List Bool). length l) here ∙ fit i [] i_in;
    }

-- ---- causes

-- this is the number of the first cause
abbrev pub IsCause : Parts → Property → List Bool → List (List Bool) → ℕ → Type 0
IsCause m p initial lines n = (e : JudgeError) × (e ≢ OutOfMemory witness) × HasCauseIn m p initial lines e × (n ≡ judge_number_of e)

pub wrong_found : (m : Parts) (p : Property) (initial : List Bool) (lines : List (List Bool)) (t : ℕ) → HasProperty m p → length initial ≡ length m.latches → IsFirstWrong lines (length m.inputs) t → IsCause m p initial lines 66
wrong_found m p initial lines t there long wrong = (LineLength (t + 1), λ e. absurd cc, (there, inr (long, (t, refl, wrong))), refl)

pub initial_found : (m : Parts) (p : Property) (initial : List Bool) (lines : List (List Bool)) → HasProperty m p → length initial ≢ length m.latches → IsCause m p initial lines 66
initial_found m p initial lines there wrong = (LineLength 0, λ e. absurd cc, (there, inl (refl, wrong)), refl)

pub property_found : (m : Parts) (p : Property) (initial : List Bool) (lines : List (List Bool)) → (HasProperty m p → ⊥) → IsCause m p initial lines 30
property_found m p initial lines none = (NoProperty (position_of p), λ e. absurd cc, (refl, none), refl)

no_lines_fit : (long : ℕ) (lines : List (List Bool)) → lines ≡ [] → All (λ l. length l ≡ long) lines
no_lines_fit long lines none k d k_in = absurd (omega (arith, ap (λ (ls : List (List Bool)). length ls) none, k_in))

pub missing_found : (m : Parts) (p : Property) (initial : List Bool) (lines : List (List Bool)) → HasProperty m p → length initial ≡ length m.latches → lines ≡ [] → IsCause m p initial lines 64
missing_found m p initial lines there long none =
    (NoInputLine, λ e. absurd cc, (there, record { latches = long; inputs_fit = no_lines_fit (length m.inputs) lines none }, none), refl)

is_fit : (m : Parts) (p : Property) (initial : List Bool) (lines : List (List Bool)) → HasProperty m p → length initial ≡ length m.latches → All (λ l. length l ≡ length m.inputs) lines → lines ≢ [] → IsFit m p initial lines
is_fit m p initial lines there long fit some = record { property = there; playable = record { lines = record { latches = long; inputs_fit = fit }; some = some } }

-- a cause stands where the lines fit, and the lengths say whether they do
abbrev pub IfFit : Parts → Property → List Bool → List (List Bool) → ℕ → Type 0
IfFit m p initial lines n = All (λ l. length l ≡ length m.inputs) lines → lines ≢ [] → IsCause m p initial lines n

by_lengths : (m : Parts) (p : Property) (initial : List Bool) (n : ℕ) (lines : List (List Bool)) (found : Option ℕ) (lengths : Lengths) → HasProperty m p → length initial ≡ length m.latches → IfFit m p initial lines n → AreOfLengths (length m.inputs) lines lengths → found ≡ Some (cause_by lengths n) → AreFound m p initial lines found
by_lengths m p initial n lines found Fit there long cause are is = subst (AreFound m p initial lines) (sym is) (cause are.0 are.1)
by_lengths m p initial n lines found Missing there long cause are is = subst (AreFound m p initial lines) (sym is) (missing_found m p initial lines there long are)
by_lengths m p initial n lines found Wrong there long cause are is = subst (AreFound m p initial lines) (sym is) (wrong_found m p initial lines are.0 there long are.1)

pub refused_found : (m : Parts) (p : Property) (initial : List Bool) (n : ℕ) (lines : List (List Bool)) (found : Option ℕ) → HasProperty m p → length initial ≡ length m.latches → IfFit m p initial lines n → AreRefused n (length m.inputs) lines found → AreFound m p initial lines found
refused_found m p initial n lines found there long cause (lengths, are, is) = by_lengths m p initial n lines found lengths there long cause are is

-- the initial state is against a reset
pub reset_cause : (m : Parts) (p : Property) (initial : List Bool) (lines : List (List Bool)) (k : ℕ) → HasProperty m p → length initial ≡ length m.latches → IsFirstAgainst m.latches initial k → IfFit m p initial lines 60
reset_cause m p initial lines k there long against fit some = (InitialReset k, λ e. absurd cc, (is_fit m p initial lines there long fit some, against), refl)

-- a constraint is broken
pub broken_cause : (m : Parts) (p : Property) (initial : List Bool) (lines : List (List Bool)) (t : ℕ) → HasProperty m p → length initial ≡ length m.latches → Starts m.latches initial → BreaksAt m initial lines t → IfFit m p initial lines 61
broken_cause m p initial lines t there long starts breaks fit some = (ConstraintBroken t, λ e. absurd cc, (is_fit m p initial lines there long fit some, starts, breaks), refl)

-- ---- all lines were played

pub at_end_missing : (m : Parts) (p : Property) (bad : Lit) (initial : List Bool) (now : Replayed) (lines : List (List Bool)) → IsWatched m p bad → length initial ≡ length m.latches → ArePlayed m initial false now lines → AreFound m p initial lines (Some 64)
at_end_missing m p bad initial now lines watched long played = missing_found m p initial lines (watched_there m p bad watched) long (played.none refl)

at_end_run : (m : Parts) (initial : List Bool) (now : Replayed) (lines : List (List Bool)) → Starts m.latches initial → ArePlayed m initial true now lines → HasRun m initial lines now
at_end_run m initial now lines starts played = has_run m initial lines now (played.there refl) starts played.plays

pub at_end_set : (m : Parts) (p : Property) (bad : Lit) (initial : List Bool) (now : Replayed) (lines : List (List Bool)) → IsWatched m p bad → Starts m.latches initial → ArePlayed m initial true now lines → ((w : Valuation) → now.now ≡ Some w → value_of w bad ≡ true) → AreFound m p initial lines None
at_end_set m p bad initial now lines watched starts played sets =
    let run = at_end_run m initial now lines starts played in
    inl (record {
      bad = bad;
      replay = run.valuations;
      watched = watched;
      replays = run.is_run.replays;
      runs = run.is_run.runs;
      keeps = run.is_run.keeps;
      sets = sets (last_of run.valuations) run.has_now;
    })

pub at_end_not_set : (m : Parts) (p : Property) (bad : Lit) (initial : List Bool) (now : Replayed) (lines : List (List Bool)) → IsWatched m p bad → Starts m.latches initial → ArePlayed m initial true now lines → ((w : Valuation) → now.now ≡ Some w → value_of w bad ≡ false) → AreFound m p initial lines (Some 62)
at_end_not_set m p bad initial now lines watched starts played leaves =
    let run = at_end_run m initial now lines starts played in (
      BadNotSet,
      λ e. absurd cc,
      record { bad = bad; replay = run.valuations; watched = watched; runs = run.is_run; not_set = leaves (last_of run.valuations) run.has_now },
      refl,
    )

-- ---- playing on

pub none_played : (m : Parts) (initial : List Bool) (now : Replayed) → now ≡ begun m initial → ArePlayed m initial false now []
none_played m initial now is = record {
  fit = no_lines_fit (length m.inputs) [] refl;
  plays = subst (λ (n : Replayed). PlaysAll m (begun m initial) n []) (sym is) (playing_all m (begun m initial) [] 0 (begun m initial) refl (playing_none m [] (begun m initial) refl));
  there = λ e. absurd cc;
  none = λ e. refl;
}

some_more : (front : List (List Bool)) (line : List Bool) → front ++ line ∷ [] ≢ []
some_more front line = some_lines (length front) (front ++ line ∷ []) (omega (arith, one_more front line))

fits_more : (m : Parts) (front : List (List Bool)) (line : List Bool) (k : ℕ) → k ≡ length m.inputs → All (λ l. length l ≡ length m.inputs) front → length line ≡ k → All (λ l. length l ≡ length m.inputs) (front ++ line ∷ [])
fits_more m front line k long fit one = All-push (λ (l : List Bool). length l ≡ length m.inputs) front line fit (one ∙ long)

-- one line more was played, and keeps the constraints
pub played_on : (m : Parts) (initial line : List Bool) (some : Bool) (front : List (List Bool)) (now after : Replayed) (w : Valuation) (k : ℕ) → k ≡ length m.inputs → ArePlayed m initial some now front → length line ≡ k → Moves m now.state line after w → KeepsAt m w → ArePlayed m initial true after (front ++ line ∷ [])
played_on m initial line some front now after w k long played one s kept = record {
  fit = fits_more m front line k long played.fit one;
  plays = plays_more m initial line front now after w played.plays s kept;
  there = λ e. some_more front line;
  none = λ e. absurd cc;
}

-- a line of another length, whatever follows
pub line_wrong : (m : Parts) (p : Property) (initial line : List Bool) (some : Bool) (front more : List (List Bool)) (now : Replayed) (k : ℕ) (x : Option ℕ) → k ≡ length m.inputs → HasProperty m p → length initial ≡ length m.latches → ArePlayed m initial some now front → length line ≢ k
    → x ≡ Some 66 → AreFound m p initial ((front ++ line ∷ []) ++ more) x
line_wrong m p initial line some front more now k x long there latches played wrong is =
    subst (AreFound m p initial ((front ++ line ∷ []) ++ more)) (sym is)
    (wrong_found m p initial ((front ++ line ∷ []) ++ more) (length front) there latches (wrong_here front more line (length m.inputs) played.fit (λ e. wrong (e ∙ sym long))))

-- a line that breaks a constraint, whatever follows
pub line_fits : (m : Parts) (initial line : List Bool) (some : Bool) (front : List (List Bool)) (now : Replayed) (k : ℕ) → k ≡ length m.inputs → ArePlayed m initial some now front → length line ≡ k → AreOfLengths k (front ++ line ∷ []) Fit
line_fits m initial line some front now k long played one = (subst (λ n. All (λ (l : List Bool). length l ≡ n) (front ++ line ∷ [])) (sym long) (fits_more m front line k long played.fit one), some_more front line)

pub line_breaks : (m : Parts) (p : Property) (initial line : List Bool) (some : Bool) (front more : List (List Bool)) (now after : Replayed) (w : Valuation) (k : ℕ) (x : Option ℕ) → k ≡ length m.inputs → HasProperty m p → length initial ≡ length m.latches → Starts m.latches initial → ArePlayed m initial some now front
    → Moves m now.state line after w → (KeepsAt m w → ⊥) → AreRefused 61 k ((front ++ line ∷ []) ++ more) x → AreFound m p initial ((front ++ line ∷ []) ++ more) x
line_breaks m p initial line some front more now after w k x long there latches starts played s breaks refused =
    let lines = (front ++ line ∷ []) ++ more in
    refused_found m p initial 61 lines x there latches
    (broken_cause m p initial lines (length front) there latches starts (breaks_more m initial (front ++ line ∷ []) more (length front) (breaks_here m initial line front now after w played.plays s breaks)))
    (subst (λ n. AreRefused 61 n lines x) long refused)
