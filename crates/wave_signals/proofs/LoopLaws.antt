-- Where the loop of a lasso begins.
use Rattle.std.proofs.Common.{◌≡◌, ◌≢◌, ℕ, ◌-◌, ◌<◌, ◌≤◌, Bool, true, false, List, length, length-drop, take, drop, Option, Some, None, [], replicate, arith, refl, sym, ap, ◌∙◌, subst}
use Rattle.std.proofs.lemmas.List.{take_all}
use Rattle.graph.specs.declared.circuit.Lit.{Lit}
use Rattle.graph.specs.declared.circuit.Property.TheVariants.{Bad, Justice, Output}
use Rattle.graph.specs.declared.parts.Parts.{Parts}
use Rattle.graph.specs.Circuits.{wanted_of, Valuation, place}
use Rattle.stimulus.specs.Courses.{Course, Marks, MeetsAt, NeverMeets}
use Rattle.simulate.specs.Replays.{Replayed}
use Rattle.stimulus.specs.Shown.{ClosesLasso, IsReplay, closing_state}
use Rattle.stimulus.proofs.CourseLaws.{closing_of}
use Rattle.stimulus.proofs.LassoLaws.{lasso_found, lasso_marks, lasso_never, met_state}
use Rattle.stimulus.proofs.PlayLaws.{one_replay}
use Rattle.wave_signals.specs.declared.bits.Bit.{Bit}
use Rattle.wave_signals.specs.Columns.{HasValues}
use Rattle.wave_signals.specs.Loops.{IsFirstLasso, IsLoopStart, LoopsFrom}

-- the marks of the times from the first of the state on
pub rest_marks : (m other : Parts) (first now : List Bool) (lines : List (List Bool)) (wanted : List Lit) (closing : List Bool) (x : List Valuation) (i : ℕ) (blank marks : List Bool) → other ≡ m
    → MeetsAt m first lines closing now i → blank ≡ replicate (length wanted) false
    → ((y : List Valuation) → Course other now (take (length lines - i) (drop i lines)) y → Marks wanted y (length y) blank marks)
    → Course m first lines x → Marks wanted (drop i x) (length (drop i x)) (replicate (length wanted) false) marks
rest_marks m other first now lines wanted closing x i blank marks is_m meets is_blank gathers course =
    let rest : Course other now (drop i lines) (drop i x) = subst (λ (p : Parts). Course p now (drop i lines) (drop i x)) (sym is_m) (meets.goes_on x course) in
    let tail : take (length lines - i) (drop i lines) ≡ drop i lines = take_all (length lines - i) (drop i lines) (omega (arith, length-drop i lines)) in
    let cut : Course other now (take (length lines - i) (drop i lines)) (drop i x) = subst (λ (ls : List (List Bool)). Course other now ls (drop i x)) (sym tail) rest in
    subst (λ (b : List Bool). Marks wanted (drop i x) (length (drop i x)) b marks) is_blank (gathers (drop i x) cut)

-- every mark is set: the first time of the state is where the lasso begins
pub lasso_first : (m : Parts) (first : List Bool) (lines : List (List Bool)) (wanted : List Lit) (closing now : List Bool) (x : List Valuation) (i : ℕ) (marks : List Bool) → MeetsAt m first lines closing now i
    → Course m first lines x → length marks ≡ length wanted → Marks wanted (drop i x) (length (drop i x)) (replicate (length wanted) false) marks
    → ((k : ℕ) → k < length marks → place marks k ≡ true) → IsFirstLasso m wanted closing x (Some i)
lasso_first m first lines wanted closing now x i marks meets c long p all = (
  lasso_found m first lines wanted closing now x i marks meets c (met_state m first lines closing now x i meets c) long p all,
  λ t t_in lasso. meets.before x c t t_in lasso.closes,
)

-- some mark is not set: there is none
pub lasso_none : (m : Parts) (first : List Bool) (lines : List (List Bool)) (wanted : List Lit) (closing now : List Bool) (x : List Valuation) (i : ℕ) (marks : List Bool) → MeetsAt m first lines closing now i
    → Course m first lines x → length marks ≡ length wanted → Marks wanted (drop i x) (length (drop i x)) (replicate (length wanted) false) marks
    → (((k : ℕ) → k < length marks → place marks k ≡ true) → ⊥) → IsFirstLasso m wanted closing x None
lasso_none m first lines wanted closing now x i marks meets c long p some = λ t lasso. some (lasso_marks m first lines wanted closing now x i t marks meets c long p lasso)

-- the state never comes again: there is none
pub lasso_unmet : (m : Parts) (first : List Bool) (lines : List (List Bool)) (wanted : List Lit) (closing : List Bool) → NeverMeets m first lines closing → (x : List Valuation) → Course m first lines x
    → IsFirstLasso m wanted closing x None
lasso_unmet m first lines wanted closing never x c = λ t lasso. lasso_never m first lines wanted closing x t never c lasso

-- ---- from the literals to their property

carried : (m : Parts) (j : ℕ) (closing : List Bool) (x : List Valuation) (t : ℕ) → LoopsFrom m (Justice j) closing x t → ClosesLasso m (wanted_of m j) closing x t
carried m j closing x t h = let same : h.position ≡ j = (let e = h.names in cc) in subst (λ (q : ℕ). ClosesLasso m (wanted_of m q) closing x t) same h.lasso

pub loop_of : (m : Parts) (j : ℕ) (closing : List Bool) (x : List Valuation) (found : Option ℕ) → j < length m.justice → IsFirstLasso m (wanted_of m j) closing x found → IsLoopStart m (Justice j) closing x found
loop_of m j closing x None exists h = λ t l. h t (carried m j closing x t l)
loop_of m j closing x (Some start) exists h = (
  record { position = j; names = refl; exists = exists; lasso = h.0 },
  λ t t_in l. h.1 t t_in (carried m j closing x t l),
)

-- there is no such justice property
pub loop_absent : (m : Parts) (j : ℕ) (closing : List Bool) (x : List Valuation) → length m.justice ≤ j → IsLoopStart m (Justice j) closing x None
loop_absent m j closing x absent = λ t l. let same : l.position ≡ j = (let e = l.names in cc) in let inside = l.exists in absurd (omega (arith, absent, same, inside))

pub no_loop_bad : (m : Parts) (n : ℕ) (closing : List Bool) (x : List Valuation) → IsLoopStart m (Bad n) closing x None
no_loop_bad m n closing x = λ t l. let e = l.names in absurd cc

pub no_loop_output : (m : Parts) (n : ℕ) (closing : List Bool) (x : List Valuation) → IsLoopStart m (Output n) closing x None
no_loop_output m n closing x = λ t l. let e = l.names in absurd cc

-- ---- the state after the last line

pub closing_at : (m : Parts) (initial : List Bool) (inputs : List (List Bool)) (bits : List Bit) (now : Replayed) (values : List (Option Bool)) → inputs ≢ [] → HasValues m initial inputs bits (length inputs) now values →
    (x : List Valuation) → IsReplay m initial inputs x → now.state ≡ closing_state m x
closing_at m initial inputs bits now values some h x x_is =
    let one = one_replay m initial inputs now h.valuations some h.played in
    h.played.has_state ∙ closing_of m initial h.valuations one.replays.begins ∙ ap (closing_state m) (sym (one.only x x_is))
