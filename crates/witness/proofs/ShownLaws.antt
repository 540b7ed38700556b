-- What the first lines of a stimulus show.
use Rattle.std.proofs.Common.{◌≡◌, ℕ, zero, suc, ◌<◌, ◌≤◌, ◌≢◌, Bool, true, List, [], ◌∷◌, length, map, take, get_or, Option, None, Some, Result, Ok, Err, IfErr, IfOk, MatchOption, refl, sym, ap, ◌∙◌, arith, subst, inl, inr, All}
use Rattle.std.proofs.lemmas.List.{get_or-map, length-map, take-take}
use Rattle.std.proofs.lemmas.List.Elements.{All-take}
use Rattle.base.specs.Witness.{witness}
use Rattle.graph.specs.declared.circuit.Lit.{Lit}
use Rattle.graph.specs.declared.circuit.Property.{Property}
use Rattle.graph.specs.declared.circuit.Property.TheVariants.{Justice}
use Rattle.graph.specs.declared.parts.Parts.{Parts}
use Rattle.graph.specs.Circuits.{Valuation, value_of, inputs_of, IsRun, IsWatched, KeepsConstraints, next_state, position_of, wanted_of}
use Rattle.graph.proofs.Alone.{watched_one}
use Rattle.simulate.specs.Starts.{Starts}
use Rattle.stimulus.specs.declared.value.Stimulus.TheVariants.{Violated}
use Rattle.stimulus.specs.declared.judge_error.JudgeError.{JudgeError}
use Rattle.stimulus.specs.declared.judge_error.JudgeError.TheVariants.{NotViolated, NoProperty, LineLength, NoInputLine, InitialReset, ConstraintBroken, BadNotSet, NoLasso, OutOfMemory}
use Rattle.stimulus.specs.Shown.{Begins, ClosesLasso, IsReplay, Shows, closing_state, last_of}
use Rattle.stimulus.specs.Courses.{Course}
use Rattle.stimulus.proofs.CourseLaws.{course_of, replay_of, run_of, starts_of}
use Rattle.witness.specs.Cutting.{Closes, EndsFirst, IsNoStart, NeverEnds, NeverShows, SetsLast, ShowsFirst}

-- what shows a violation has a run of the lines
record Evidence (m : Parts) (initial : List Bool) (lines : List (List Bool)) : Type 0 where
  replay : List Valuation
  replays : IsReplay m initial lines replay
  runs : IsRun m replay
  keeps : KeepsConstraints m replay

evidence_of : (m : Parts) (p : Property) (initial : List Bool) (lines : List (List Bool)) → Shows m (Violated p initial lines) → Evidence m initial lines
evidence_of m p initial lines (inl b) = record { replay = b.replay; replays = b.replays; runs = b.runs; keeps = b.keeps }
evidence_of m p initial lines (inr l) = record { replay = l.replay; replays = l.replays; runs = l.runs; keeps = l.keeps }

-- ---- states that are no beginning, and lines of another length

no_start : (m : Parts) (initial : List Bool) (e : JudgeError) → IsNoStart m initial e → e ≢ OutOfMemory witness → Starts m.latches initial → ⊥
no_start m initial NotViolated c some starts = absurd c
no_start m initial (NoProperty n) c some starts = absurd c
no_start m initial (LineLength k) c some starts = absurd c
no_start m initial NoInputLine c some starts = absurd c
no_start m initial (InitialReset k) c some starts = c.against (starts k c.inside)
no_start m initial (ConstraintBroken t) c some starts = absurd c
no_start m initial BadNotSet c some starts = absurd c
no_start m initial NoLasso c some starts = absurd c
no_start m initial (OutOfMemory refused) c some starts = absurd (some refl)

-- where no replay begins, no lines show the violation
pub start_never : (m : Parts) (p : Property) (initial : List Bool) (lines : List (List Bool)) (e : JudgeError) → IsNoStart m initial e → e ≢ OutOfMemory witness → NeverShows m p initial lines
start_never m p initial lines e cause some k s =
    let ev = evidence_of m p initial (take k lines) s in
    no_start m initial e cause some (starts_of m initial ev.replay ev.replays.begins ev.runs.starts)

-- lines that show it have their lengths
shown_fit : (m : Parts) (p : Property) (initial : List Bool) (lines : List (List Bool)) → Shows m (Violated p initial lines) → All (λ line. length line ≡ length m.inputs) lines
shown_fit m p initial lines s =
    let ev = evidence_of m p initial lines s in
    let x = ev.replay in
    let all : All (λ line. length line ≡ length m.inputs) (map (inputs_of m) x) = λ k d k_in.
    ap (λ (l : List Bool). length l) (get_or-map (inputs_of m) x k [] d (omega (arith, k_in, length-map x (inputs_of m)))) ∙ length-map m.inputs (value_of (get_or x k [])) in
    subst (All (λ line. length line ≡ length m.inputs)) ev.replays.has_inputs all

-- the lines behind those that have their lengths show nothing more
pub fit_never : (m : Parts) (p : Property) (initial : List Bool) (lines fit : List (List Bool)) → ((k : ℕ) → All (λ line. length line ≡ length m.inputs) (take k lines) → take k lines ≡ take k fit) →
    NeverShows m p initial fit → NeverShows m p initial lines
fit_never m p initial lines fit most never k s =
    never k (subst (λ (ls : List (List Bool)). Shows m (Violated p initial ls)) (most k (shown_fit m p initial (take k lines) s)) s)

pub fit_first : (m : Parts) (p : Property) (initial : List Bool) (lines fit : List (List Bool)) (t : ℕ) → ((k : ℕ) → All (λ line. length line ≡ length m.inputs) (take k lines) → take k lines ≡ take k fit) →
    ShowsFirst m p initial fit t → ShowsFirst m p initial lines t
fit_first m p initial lines fit t most first k s =
    let same : take k lines ≡ take k fit = most k (shown_fit m p initial (take k lines) s) in
    let found = first k (subst (λ (ls : List (List Bool)). Shows m (Violated p initial ls)) same s) in
    let cut : take t fit ≡ take t lines = sym (take-take t k fit found.0) ∙ (ap (λ (ls : List (List Bool)). take t ls) (sym same) ∙ take-take t k lines found.0) in
    (found.0, subst (λ (ls : List (List Bool)). Shows m (Violated p initial ls)) cut found.1)

-- ---- the first times of a run

course_cut : (m : Parts) (state : List Bool) (lines : List (List Bool)) (t : ℕ) (x : List Valuation) → Course m state lines x → Course m state (take t lines) (take t x)
course_cut m state lines zero x c = tt
course_cut m state [] (suc t) [] c = tt
course_cut m state [] (suc t) (w ∷ x) c = absurd c
course_cut m state (l ∷ lines) (suc t) [] c = absurd c
course_cut m state (l ∷ lines) (suc t) (w ∷ x) c = (c.0, course_cut m (next_state m w) lines t x c.1)

some_cut : (lines : List (List Bool)) (t k : ℕ) (m : Parts) (state : List Bool) (x : List Valuation) → Begins m state x → Course m state (take k lines) x → 0 < t → take t lines ≢ []
some_cut lines zero k m state x begins c some = absurd (omega (arith, some))
some_cut [] (suc t) zero m state [] begins c some = absurd begins
some_cut [] (suc t) zero m state (w ∷ x) begins c some = absurd c
some_cut [] (suc t) (suc k) m state [] begins c some = absurd begins
some_cut [] (suc t) (suc k) m state (w ∷ x) begins c some = absurd c
some_cut (l ∷ lines) (suc t) k m state x begins c some = λ e. absurd cc

replay_cut : (m : Parts) (state : List Bool) (lines : List (List Bool)) (t k : ℕ) (x : List Valuation) → 0 < t → t ≤ k → IsReplay m state (take k lines) x → IsReplay m state (take t lines) (take t x)
replay_cut m state lines t k x some within p =
    let c = course_of m state (take k lines) x p in
    let cut : Course m state (take t lines) (take t x) = subst (λ (ls : List (List Bool)). Course m state ls (take t x)) (take-take t k lines within) (course_cut m state (take k lines) t x c) in
    replay_of m state (take t lines) (take t x) (some_cut lines t k m state x p.begins c some) cut

run_cut : (m : Parts) (state : List Bool) (lines : List (List Bool)) (t k : ℕ) (x : List Valuation) → 0 < t → t ≤ k → IsReplay m state (take k lines) x → IsRun m x → IsRun m (take t x)
run_cut m state lines t k x some within p runs = run_of m state (take t lines) (take t x) (replay_cut m state lines t k x some within p) (starts_of m state x p.begins runs.starts)

-- ---- a literal that is set

-- a property that watches a literal is not of justice
unwatched : (m : Parts) (p : Property) (j : ℕ) (a : Lit) → p ≡ Justice j → IsWatched m p a → ⊥
unwatched m p j a is watched = subst (λ (q : Property). IsWatched m q a) is watched

pub watched_never : (m : Parts) (p : Property) (a : Lit) (initial : List Bool) (lines : List (List Bool)) → IsWatched m p a → NeverEnds (SetsLast a) m initial lines → NeverShows m p initial lines
watched_never m p a initial lines watched never k (inl b) =
    never k b.replay b.replays (subst (λ (c : Lit). value_of (last_of b.replay) c ≡ true) (watched_one m p b.bad a b.watched watched) b.sets)
watched_never m p a initial lines watched never k (inr l) = unwatched m p l.position a l.names watched

pub watched_first : (m : Parts) (p : Property) (a : Lit) (initial : List Bool) (lines : List (List Bool)) (t : ℕ) → IsWatched m p a → EndsFirst (SetsLast a) m initial lines t → ShowsFirst m p initial lines t
watched_first m p a initial lines t watched ends k (inl b) =
    let same : b.bad ≡ a = watched_one m p b.bad a b.watched watched in
    let found = ends.first k b.replay b.replays (subst (λ (c : Lit). value_of (last_of b.replay) c ≡ true) same b.sets) in (
      found.0,
      inl (record {
        bad = a;
        replay = take t b.replay;
        watched = watched;
        replays = replay_cut m initial lines t k b.replay ends.some found.0 b.replays;
        runs = run_cut m initial lines t k b.replay ends.some found.0 b.replays b.runs;
        keeps = All-take (λ w. All (λ c. value_of w c ≡ true) m.constraints) t b.replay b.keeps;
        sets = found.1;
      }),
    )
watched_first m p a initial lines t watched ends k (inr l) = absurd (unwatched m p l.position a l.names watched)

-- ---- a lasso that is closed

closes_at : (m : Parts) (j i start : ℕ) (r : List Valuation) → Justice j ≡ Justice i → ClosesLasso m (wanted_of m i) (closing_state m r) r start → Closes m (wanted_of m j) r
closes_at m j i start r names lasso =
    let same : i ≡ j = ap position_of (sym names) in
    (start, subst (λ (q : ℕ). ClosesLasso m (wanted_of m q) (closing_state m r) r start) same lasso)

pub lasso_never : (m : Parts) (j : ℕ) (initial : List Bool) (lines : List (List Bool)) → NeverEnds (Closes m (wanted_of m j)) m initial lines → NeverShows m (Justice j) initial lines
lasso_never m j initial lines never k (inl b) = absurd b.watched
lasso_never m j initial lines never k (inr l) = never k l.replay l.replays (closes_at m j l.position l.start l.replay l.names l.lasso)

pub lasso_first : (m : Parts) (j : ℕ) (initial : List Bool) (lines : List (List Bool)) (t : ℕ) → EndsFirst (Closes m (wanted_of m j)) m initial lines t → ShowsFirst m (Justice j) initial lines t
lasso_first m j initial lines t ends k (inl b) = absurd b.watched
lasso_first m j initial lines t ends k (inr l) =
    let found = ends.first k l.replay l.replays (closes_at m j l.position l.start l.replay l.names l.lasso) in
    let same : l.position ≡ j = ap position_of (sym l.names) in (
      found.0,
      inr (record {
        position = j;
        start = found.1.0;
        replay = take t l.replay;
        names = refl;
        exists = subst (λ (q : ℕ). q < length m.justice) same l.exists;
        replays = replay_cut m initial lines t k l.replay ends.some found.0 l.replays;
        runs = run_cut m initial lines t k l.replay ends.some found.0 l.replays l.runs;
        keeps = All-take (λ w. All (λ c. value_of w c ≡ true) m.constraints) t l.replay l.keeps;
        lasso = found.1.1;
      }),
    )

-- ---- what a search for the first times answers

pub time_so : (times : Option ℕ) (Never Shown : Type 0) (First So : ℕ → Type 0) → (Never → Shown) → ((t : ℕ) → First t → So t) → MatchOption times Never First → MatchOption times Shown So
time_so None Never Shown First So f g h = f h
time_so (Some t) Never Shown First So f g h = g t h

pub times_so : (r : Result (Option ℕ) JudgeError) (Never Shown : Type 0) (First So : ℕ → Type 0) → (Never → Shown) → ((t : ℕ) → First t → So t) → IfOk r (λ times. MatchOption times Never First) → IfOk r (λ times. MatchOption times Shown So)
times_so (Ok times) Never Shown First So f g h = time_so times Never Shown First So f g h
times_so (Err e) Never Shown First So f g h = tt

pub starts_so : (r : Result (Option ℕ) JudgeError) (m : Parts) (p : Property) (initial : List Bool) (lines : List (List Bool)) → IfErr r (IsNoStart m initial) → IfErr r (λ e. e ≢ OutOfMemory witness → NeverShows m p initial lines)
starts_so (Ok times) m p initial lines h = tt
starts_so (Err e) m p initial lines h = start_never m p initial lines e h
