-- What is left of a run, and the violation that each completion shows.
use Rattle.std.proofs.Common.{◌≡◌, ◌≢◌, ℕ, zero, suc, ◌<◌, ◌+◌, ◌-◌, Bool, true, List, [], ◌∷◌, ◌++◌, length, get_or, reverse, replicate, map, Option, None, Some, All, sym, subst, refl, ap, ◌∙◌, arith, inl}
use Rattle.std.proofs.lemmas.List.{reverse-append, length-map}
use Rattle.std.proofs.lemmas.List.Elements.{All-cons, All-nil}
use Rattle.graph.specs.declared.circuit.Lit.{Lit}
use Rattle.graph.specs.declared.circuit.Property.{Property}
use Rattle.graph.specs.declared.circuit.Property.TheVariants.{Bad, Justice, Output}
use Rattle.graph.specs.WellFormed.{IsWellFormed}
use Rattle.graph.proofs.Tabled.{holds_of_used}
use Rattle.std.proofs.lemmas.Option.{get_or_from_slice_get, slice_get_within}
use Rattle.graph.specs.declared.parts.Parts.{Parts}
use Rattle.graph.specs.Circuits.{IsWatched, Valuation, value_of, variable, next_state, KeepsConstraints}
use Rattle.cones.specs.Marks.{IsKnown, ExistenceLaw}
use Rattle.simulate.specs.Starts.{Starts}
use Rattle.stimulus.specs.declared.value.Stimulus.TheVariants.{Violated}
use Rattle.stimulus.specs.Causes.{KeepsAt}
use Rattle.stimulus.specs.Courses.{Course}
use Rattle.stimulus.specs.Shown.{Shows, last_of}
use Rattle.stimulus.proofs.CourseLaws.{replay_of, run_of}
use Rattle.witness.specs.Completions.{Completes}
use Rattle.witness.specs.Cleared.{CompleteAll, AreMet, AreEnough, goals_for}
use Rattle.witness.proofs.WalkLaws.{completes_long}

-- a goal of nothing before the others
pub goals_more : (goals : List (List Lit)) (n : ℕ) (a : Lit) → reverse goals ≡ goals_for n a → reverse (goals ++ [] ∷ []) ≡ goals_for (n + 1) a
goals_more goals n a e = let one : n + 1 ≡ suc n = omega arith in rw one (reverse-append goals ([] ∷ []) ∙ ap (λ (gs : List (List Lit)). [] ∷ gs) e)

pub goals_long : (n : ℕ) (a : Lit) → length (goals_for n a) ≡ n + 1
goals_long zero a = refl
goals_long (suc n) a = let e = goals_long n a in omega (arith, e)

pub goals_known : (m : Parts) (n : ℕ) (a : Lit) → IsKnown m (variable a) → All (λ goal. All (λ b. IsKnown m (variable b)) goal) (goals_for n a)
goals_known m zero a known = All-cons (λ goal. All (λ b. IsKnown m (variable b)) goal) (a ∷ []) [] (All-cons (λ b. IsKnown m (variable b)) a [] known (All-nil (λ b. IsKnown m (variable b)))) (All-nil (λ goal. All (λ b. IsKnown m (variable b)) goal))
goals_known m (suc n) a known = All-cons (λ goal. All (λ b. IsKnown m (variable b)) goal) [] (goals_for n a) (All-nil (λ b. IsKnown m (variable b))) (goals_known m n a known)

-- nothing is wanted of a state
pub open_completes : (values : List Bool) (n : ℕ) → length values ≡ n → Completes (replicate n None) values
open_completes [] zero e = tt
open_completes [] (suc n) e = absurd cc
open_completes (v ∷ values) zero e = absurd cc
open_completes (v ∷ values) (suc n) e = (tt, open_completes values n (omega (arith, e)))

last_cons : (w x : Valuation) (r : List Valuation) → last_of (w ∷ x ∷ r) ≡ last_of (x ∷ r)
last_cons w x r =
    let e : length (w ∷ x ∷ r) - 1 ≡ suc (length (x ∷ r) - 1) = omega arith in
    ap (λ (k : ℕ). get_or (w ∷ x ∷ r) k []) e

-- the last time sets the literal
pub met_last : (m : Parts) (n : ℕ) (a : Lit) (r : List Valuation) → AreMet m (goals_for n a) r → value_of (last_of r) a ≡ true
met_last m zero a [] h = absurd h
met_last m zero a (w ∷ []) h = h.0.1 0 a (omega arith)
met_last m zero a (w ∷ x ∷ r) h = absurd h.1
met_last m (suc n) a [] h = absurd h
met_last m (suc zero) a (w ∷ []) h = absurd h.1
met_last m (suc (suc n)) a (w ∷ []) h = absurd h.1
met_last m (suc n) a (w ∷ x ∷ r) h = ap (λ (v : Valuation). value_of v a) (last_cons w x r) ∙ met_last m n a (x ∷ r) h.1

pub met_keeps : (m : Parts) (goals : List (List Lit)) (r : List Valuation) → AreMet m goals r → KeepsConstraints m r
met_keeps m [] [] h = All-nil (KeepsAt m)
met_keeps m [] (w ∷ r) h = absurd h
met_keeps m (goal ∷ goals) [] h = absurd h
met_keeps m (goal ∷ goals) (w ∷ r) h = All-cons (KeepsAt m) w r h.0.0 (met_keeps m goals r h.1)

-- lines of the right length have a course from each state
pub course_exists : (m : Parts) (state : List Bool) (lines : List (List Bool)) → ExistenceLaw m → length state ≡ length m.latches → All (λ l. length l ≡ length m.inputs) lines → (r : List Valuation) × Course m state lines r
course_exists m state [] law long fit = ([], tt)
course_exists m state (line ∷ lines) law long fit =
    let here = law state line long (fit 0 line (omega arith)) in
    let w = here.0 in
    let rest = course_exists m (next_state m w) lines law (grind (arith, length-map)) (λ k d k_in. fit (suc k) d (omega (arith, k_in))) in
    (w ∷ rest.0, (record { agrees = here.1; has_state = here.2; has_inputs = here.3 }, rest.1))

-- what completes the rows of lines has their lengths
pub rows_fit : (n : ℕ) (rows : List (List (Option Bool))) (lines others : List (List Bool)) → CompleteAll rows lines → CompleteAll rows others → All (λ l. length l ≡ n) lines → All (λ l. length l ≡ n) others
rows_fit n [] [] [] h g fit = All-nil (λ l. length l ≡ n)
rows_fit n [] [] (o ∷ others) h g fit = absurd g
rows_fit n [] (l ∷ lines) others h g fit = absurd h
rows_fit n (row ∷ rows) [] others h g fit = absurd h
rows_fit n (row ∷ rows) (l ∷ lines) [] h g fit = absurd g
rows_fit n (row ∷ rows) (l ∷ lines) (o ∷ others) h g fit =
    All-cons (λ x. length x ≡ n) o others (sym (completes_long row o g.0) ∙ (completes_long row l h.0 ∙ fit 0 l (omega arith))) (rows_fit n rows lines others h.1 g.1 (λ k d k_in. fit (suc k) d (omega (arith, k_in))))

pub rows_some : (rows : List (List (Option Bool))) (lines others : List (List Bool)) → CompleteAll rows lines → CompleteAll rows others → lines ≢ [] → others ≢ []
rows_some [] [] others h g some = absurd (some refl)
rows_some [] (l ∷ lines) others h g some = absurd h
rows_some (row ∷ rows) [] others h g some = absurd h
rows_some (row ∷ rows) (l ∷ lines) [] h g some = absurd g
rows_some (row ∷ rows) (l ∷ lines) (o ∷ others) h g some = λ e. cc

-- each completion shows the violation
pub shown_from : (m : Parts) (p : Property) (a : Lit) (n : ℕ) (closing state : List (Option Bool)) (rows : List (List (Option Bool))) (own : List Bool) (lines : List (List Bool)) → ExistenceLaw m → IsWatched m p a → AreEnough m (goals_for n a) closing state rows →
    Completes state own → CompleteAll rows lines → length own ≡ length m.latches → All (λ l. length l ≡ length m.inputs) lines → lines ≢ [] →
    (st : List Bool) (others : List (List Bool)) → Starts m.latches st → Completes state st → CompleteAll rows others → Shows m (Violated p st others)
shown_from m p a n closing state rows own lines law watched enough has_own has_lines long fit some st others starts has_st has_others =
    let st_long : length st ≡ length m.latches = sym (completes_long state st has_st) ∙ (completes_long state own has_own ∙ long) in
    let found = course_exists m st others law st_long (rows_fit (length m.inputs) rows lines others has_lines has_others fit) in
    let met = (enough st others found.0 has_st has_others found.1).0 in
    let replays = replay_of m st others found.0 (rows_some rows lines others has_lines has_others some) found.1 in
    inl (record { bad = a; replay = found.0; watched = watched; replays = replays; runs = run_of m st others found.0 replays starts; keeps = met_keeps m (goals_for n a) found.0 met; sets = met_last m n a found.0 met })

pub some_long : {A : Type 0} (xs : List A) → xs ≢ [] → 0 < length xs
some_long [] some = absurd (some refl)
some_long (x ∷ xs) some = omega arith

-- the literal that a property watches is known
pub watched_known : (m : Parts) (p : Property) (a : Lit) → IsWellFormed m → IsWatched m p a → IsKnown m (variable a)
watched_known m (Bad n) a well watched =
    subst (λ (b : Lit). IsKnown m (variable b)) (get_or_from_slice_get m.bad n a a watched) ((holds_of_used (λ b. IsKnown m (variable b)) m well.used_defined).bad n a (slice_get_within m.bad n a watched))
watched_known m (Justice n) a well watched = absurd watched
watched_known m (Output n) a well watched =
    subst (λ (b : Lit). IsKnown m (variable b)) (get_or_from_slice_get m.outputs n a a watched.1) ((holds_of_used (λ b. IsKnown m (variable b)) m well.used_defined).outputs n a (slice_get_within m.outputs n a watched.1))

-- where each value is left, each completion is the run itself
pub whole_completes : (values : List Bool) → Completes (map Some values) values
whole_completes [] = tt
whole_completes (v ∷ values) = (refl, whole_completes values)

pub whole_all : (lines : List (List Bool)) → CompleteAll (map (map Some) lines) lines
whole_all [] = tt
whole_all (l ∷ lines) = (whole_completes l, whole_all lines)

pub whole_only : (values others : List Bool) → Completes (map Some values) others → others ≡ values
whole_only [] [] h = refl
whole_only [] (o ∷ others) h = absurd h
whole_only (v ∷ values) [] h = absurd h
whole_only (v ∷ values) (o ∷ others) h = let rest = whole_only values others h.1 in cc

pub whole_all_only : (lines others : List (List Bool)) → CompleteAll (map (map Some) lines) others → others ≡ lines
whole_all_only [] [] h = refl
whole_all_only [] (o ∷ others) h = absurd h
whole_all_only (l ∷ lines) [] h = absurd h
whole_all_only (l ∷ lines) (o ∷ others) h = let one = whole_only l o h.0 in let rest = whole_all_only lines others h.1 in cc
