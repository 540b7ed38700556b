-- What a solver is has, and what its answers say of the frames.
use Rattle.std.proofs.Common.{◌≡◌, ℕ, ◌+◌, ◌<◌, ◌≤◌, ◌⊎◌, Bool, List, [], ◌∷◌, ◌++◌, length, get_or, All, Contains, refl, inl, inr, sym, subst, arith}
use Rattle.std.proofs.lemmas.List.Elements.{All-contains, All-push, All-cons, All-nil}
use Rattle.base.specs.Budget.{Steps}
use Rattle.graph.specs.declared.parts.Parts.{Parts}
use Rattle.graph.specs.Circuits.{state_of, next_state}
use Rattle.states.specs.declared.state_lit.StateLit.{StateLit}
use Rattle.ic3_step.specs.declared.step.Consecution.{Consecution}
use Rattle.ic3_step.specs.declared.step.Consecution.TheVariants.{Held, Broken, Spent}
use Rattle.states.specs.States.{Holds, IsPartOf}
use Rattle.ic3_step.specs.States.{Guarded, HoldsGuarded}
use Rattle.ic3_step.specs.Contents.{Contents, IsLoaded, HasGuards}
use Rattle.ic3_step.specs.Steps.{IsConsecution}
use Rattle.ic3_frames.specs.declared.frames.Entry.{Entry}
use Rattle.ic3_frames.specs.Frames.{InFrame, AreWithin, Levels}
use Rattle.ic3_blocking.specs.declared.frame_solver.FrameSolver.{FrameSolver}
use Rattle.ic3_blocking.specs.Sound.{Backs, HasFrames, IsSound}
use Rattle.ic3_blocking.specs.Answers.{IsAfter, IsRelative}

-- a query's guards: those of levels, and its own
abbrev pub AreGuards : ℕ → ℕ → ℕ → List ℕ → Type 0
AreGuards first end one guards = All (λ g. ((first ≤ g) × (g < end)) ⊎ (g ≡ one)) guards

-- the guards below the room can be asked for
pub has_guards : {S : Type 0} (m : Parts) (es : List Entry) (a : FrameSolver S) (guards : List ℕ) → HasFrames m es a → All (λ g. g < a.room) guards → HasGuards m guards a.transition
has_guards m es a guards has below = record { room = a.room; added = has.added; loaded = has.loaded; below = below }

pub has_guard : {S : Type 0} (m : Parts) (es : List Entry) (a : FrameSolver S) (g : ℕ) → HasFrames m es a → g < a.room → HasGuards m (g ∷ []) a.transition
has_guard m es a g has below = has_guards m es a (g ∷ []) has (All-cons (λ x. x < a.room) g [] below (All-nil (λ x. x < a.room)))

-- an item of a list of which all have it
pub item_has : {X : Type 0} (P : X → Type 0) (xs : List X) (i : ℕ) (x : X) → i < length xs → x ≡ get_or xs i x → All P xs → P x
item_has P xs i x i_in is all = subst P (sym is) (all i x i_in)

-- no clause yet
pub has_none : {S : Type 0} (m : Parts) (es : List Entry) (t : Contents) (levels room : ℕ) → IsLoaded m room [] t → levels ≤ room → levels ≤ 2000000000 → room ≤ 4294967295 →
    HasFrames {S = S} m es (record { transition = t; levels = levels; room = room; next = levels })
has_none m es t levels room loaded fits few small = record {
  added = [];
  loaded = loaded;
  used = All-nil (λ (g : Guarded). g.guard < levels);
  backs = All-nil (λ (g : Guarded). g.guard < levels → (s : List Bool) → InFrame es g.guard s → Holds s g.clause);
  order = omega arith;
  fits = fits;
  few = few;
  small = small;
}

-- one clause more
pub has_more : {S : Type 0} (m : Parts) (es : List Entry) (a : FrameSolver S) (t : Contents) (next : ℕ) (g : Guarded) (has : HasFrames m es a) → IsLoaded m a.room (has.added ++ g ∷ []) t →
    a.next ≤ next → next ≤ a.room → g.guard < next → (g.guard < a.levels → (s : List Bool) → InFrame es g.guard s → Holds s g.clause) →
    HasFrames {S = S} m es (record { transition = t; levels = a.levels; room = a.room; next = next })
has_more m es a t next g has loaded later fits used backed = record {
  added = has.added ++ g ∷ [];
  loaded = loaded;
  used = All-push (λ (x : Guarded). x.guard < next) has.added g (λ k d k_in. let below = has.used k d k_in in omega (arith, below, later)) used;
  backs = All-push (λ (x : Guarded). x.guard < a.levels → (s : List Bool) → InFrame es x.guard s → Holds s x.clause) has.added g has.backs backed;
  order = let order = has.order in omega (arith, order, later);
  fits = fits;
  few = has.few;
  small = has.small;
}

-- a solver that has more of the circuit
pub has_grown : {S : Type 0} (m : Parts) (es : List Entry) (a : FrameSolver S) (t : Contents) (has : HasFrames m es a) → IsLoaded m a.room has.added t →
    HasFrames {S = S} m es (record { transition = t; levels = a.levels; room = a.room; next = a.next })
has_grown m es a t has loaded = record { added = has.added; loaded = loaded; used = has.used; backs = has.backs; order = has.order; fits = has.fits; few = has.few; small = has.small }

-- a solver that counts a query more
pub has_counted : {S : Type 0} (m : Parts) (es : List Entry) (a : FrameSolver S) (next : ℕ) → HasFrames m es a → a.next ≤ next → next ≤ a.room →
    HasFrames {S = S} m es (record { transition = a.transition; levels = a.levels; room = a.room; next = next })
has_counted m es a next has later fits = record {
  added = has.added;
  loaded = has.loaded;
  used = λ k d k_in. let below = has.used k d k_in in omega (arith, below, later);
  backs = has.backs;
  order = let order = has.order in omega (arith, order, later);
  fits = fits;
  few = has.few;
  small = has.small;
}

pub sound_grown : {S : Type 0} (m : Parts) (a : FrameSolver S) (f : Levels) (t : Contents) (sound : IsSound m a f) → IsLoaded m a.room sound.has.added t →
    IsSound {S = S} m (record { transition = t; levels = a.levels; room = a.room; next = a.next }) f
sound_grown m a f t sound loaded = record { has = has_grown m f.entries a t sound.has loaded; laws = sound.laws; top = sound.top; below = sound.below }

-- a query's clause, under the guard that is free
pub has_asked : {S : Type 0} (m : Parts) (es : List Entry) (a : FrameSolver S) (t : Contents) (c : List StateLit) (has : HasFrames m es a) → a.next < a.room →
    IsLoaded m a.room (has.added ++ record { guard = a.next; clause = c } ∷ []) t → HasFrames {S = S} m es (record { transition = t; levels = a.levels; room = a.room; next = a.next + 1 })
has_asked m es a t c has room loaded =
    let order = has.order in
    has_more m es a t (a.next + 1) (record { guard = a.next; clause = c }) has loaded (omega arith) (omega (arith, room)) (omega arith) (λ below. absurd (omega (arith, below, order)))

-- a clause under a guard that was a query's
pub has_let_go : {S : Type 0} (m : Parts) (es : List Entry) (a : FrameSolver S) (t : Contents) (guard : ℕ) (c : List StateLit) (has : HasFrames m es a) → a.levels ≤ guard → guard < a.next →
    IsLoaded m a.room (has.added ++ record { guard = guard; clause = c } ∷ []) t → HasFrames {S = S} m es (record { transition = t; levels = a.levels; room = a.room; next = a.next })
has_let_go m es a t guard c has above below loaded =
    has_more m es a t a.next (record { guard = guard; clause = c }) has loaded (omega arith) has.fits below (λ level. absurd (omega (arith, level, above)))

-- smaller frames
pub has_within : {S : Type 0} (m : Parts) (es fs : List Entry) (a : FrameSolver S) → AreWithin fs es → HasFrames m es a → HasFrames m fs a
has_within m es fs a within has = record {
  added = has.added;
  loaded = has.loaded;
  used = has.used;
  backs = λ k d k_in level s inside. has.backs k d k_in level s (within (get_or has.added k d).guard s inside);
  order = has.order;
  fits = has.fits;
  few = has.few;
  small = has.small;
}

-- a frame lies in those above it
frame_up : (es : List Entry) (k j : ℕ) (s : List Bool) → k ≤ j → InFrame es k s → InFrame es j s
frame_up es k j s up inside i d i_in level = inside i d i_in (omega (arith, up, level))

-- in a frame the clauses of its levels' guards hold
pub frame_guarded : (es : List Entry) (levels k : ℕ) (gs : List Guarded) (guards : List ℕ) (s : List Bool) → Backs es levels gs → All (λ g. (k ≤ g) × (g < levels)) guards → InFrame es k s →
    HoldsGuarded gs guards s
frame_guarded es levels k gs guards s backs are inside i d i_in found =
    let g : Guarded = get_or gs i d in
    let range : (k ≤ g.guard) × (g.guard < levels) = All-contains (λ n. (k ≤ n) × (n < levels)) guards g.guard are found in
    backs i d i_in range.1 s (frame_up es k g.guard s range.0 inside)

-- and with a clause that holds, under a guard of its own
pub query_guarded : (es : List Entry) (levels k next : ℕ) (gs : List Guarded) (q : Guarded) (guards : List ℕ) (s : List Bool) → Backs es levels gs → All (λ g. g.guard < next) gs →
    AreGuards k levels next guards → InFrame es k s → Holds s q.clause → HoldsGuarded (gs ++ q ∷ []) guards s
query_guarded es levels k next gs q guards s backs used are inside holds =
    All-push (λ (g : Guarded). Contains guards g.guard → Holds s g.clause) gs q
    (λ i d i_in found.
    let g : Guarded = get_or gs i d in
    let below : g.guard < next = used i d i_in in
    elim (All-contains (λ n. ((k ≤ n) × (n < levels)) ⊎ (n ≡ next)) guards g.guard are found) [
      | inl range ↦ backs i d i_in range.1 s (frame_up es k g.guard s range.0 inside)
      | inr same ↦ absurd (omega (arith, below, same))
    ])
    (λ found. holds)

pub wider : (c d : List StateLit) (s : List Bool) → IsPartOf c d → Holds s c → Holds s d
wider c d s part h = (h.0, part h.0 h.1, h.2)

-- an answer about the clauses of a frame's guards
pub after_answer : (m : Parts) (es : List Entry) (levels k : ℕ) (gs : List Guarded) (guards : List ℕ) (c : List StateLit) (after : Steps) (r : Consecution) → Backs es levels gs →
    All (λ g. (k ≤ g) × (g < levels)) guards → IsConsecution m gs guards c after r → IsAfter m es k c after r
after_answer m es levels k gs guards c after (Held part) backs are law = λ w time inside.
    wider part c (next_state m w) law.0 (law.1 w time (frame_guarded es levels k gs guards (state_of m w) backs are inside))
after_answer m es levels k gs guards c after (Broken t) backs are law = law
after_answer m es levels k gs guards c after Spent backs are law = law

-- an answer with the clause itself under a guard of its own
pub relative_answer : (m : Parts) (es : List Entry) (levels k next : ℕ) (gs : List Guarded) (guards : List ℕ) (c : List StateLit) (after : Steps) (r : Consecution) → Backs es levels gs →
    All (λ g. g.guard < next) gs → AreGuards k levels next guards → IsConsecution m (gs ++ record { guard = next; clause = c } ∷ []) guards c after r → IsRelative m es k c after r
relative_answer m es levels k next gs guards c after (Held part) backs used are law =
    (law.0, λ w time inside holds. law.1 w time (query_guarded es levels k next gs (record { guard = next; clause = c }) guards (state_of m w) backs used are inside holds))
relative_answer m es levels k next gs guards c after (Broken t) backs used are law = law
relative_answer m es levels k next gs guards c after Spent backs used are law = law

-- a query's guards: those of the levels and its own
pub guards_more : (k end levels one : ℕ) (guards more : List ℕ) → end ≤ levels → All (λ g. (k ≤ g) × (g < end)) guards → more ≡ guards ++ one ∷ [] → AreGuards k levels one more
guards_more k end levels one guards more fits are is = subst (AreGuards k levels one) (sym is)
    (All-push (λ g. ((k ≤ g) × (g < levels)) ⊎ (g ≡ one)) guards one (λ i d i_in. let range = are i d i_in in inl (range.0, omega (arith, range.1, fits))) (inr refl))

pub range_within : (k end levels : ℕ) (guards : List ℕ) → end ≤ levels → All (λ g. (k ≤ g) × (g < end)) guards → All (λ g. (k ≤ g) × (g < levels)) guards
range_within k end levels guards fits are i d i_in = let range = are i d i_in in (range.0, omega (arith, range.1, fits))

pub range_room : (k end room : ℕ) (guards : List ℕ) → end ≤ room → All (λ g. (k ≤ g) × (g < end)) guards → All (λ g. g < room) guards
range_room k end room guards fits are i d i_in = let range = are i d i_in in omega (arith, range.1, fits)

pub guards_room : (k levels one room : ℕ) (guards : List ℕ) → levels ≤ room → one < room → AreGuards k levels one guards → All (λ g. g < room) guards
guards_room k levels one room guards fits below are i d i_in = elim (are i d i_in) [ inl range ↦ omega (arith, range.1, fits) | inr same ↦ omega (arith, same, below) ]
