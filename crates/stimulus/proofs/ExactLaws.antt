-- Where a cause stands, nothing is shown.
use Rattle.base.specs.Witness.{witness}
use Rattle.std.proofs.Common.{◌≡◌, ℕ, ◌+◌, ◌<◌, ◌≢◌, Bool, true, false, List, [], ◌∷◌, length, get_or, refl, sym, ap, ◌∙◌, arith, subst, inl, inr, Result, Ok, Err, IfErr}
use Rattle.std.proofs.lemmas.List.{get_or-map, length-map, get_or-take}
use Rattle.graph.specs.declared.circuit.Lit.{Lit}
use Rattle.graph.specs.declared.circuit.Property.{Property}
use Rattle.graph.specs.declared.circuit.Property.TheVariants.{Justice}
use Rattle.graph.specs.declared.parts.Parts.{Parts}
use Rattle.graph.specs.Circuits.{Valuation, value_of, inputs_of, IsRun, KeepsConstraints, at, wanted_of, position_of, HasProperty, IsWatched}
use Rattle.stimulus.specs.declared.value.Stimulus.TheVariants.{Violated}
use Rattle.stimulus.specs.declared.judge_error.JudgeError.{JudgeError}
use Rattle.stimulus.specs.declared.judge_error.JudgeError.TheVariants.{NotViolated, NoProperty, LineLength, NoInputLine, InitialReset, ConstraintBroken, BadNotSet, NoLasso, OutOfMemory}
use Rattle.graph.proofs.Alone.{watched_one, watched_there}
use Rattle.stimulus.specs.Shown.{Begins, IsReplay, Shows, ClosesLasso, last_of, closing_state}
use Rattle.stimulus.specs.Causes.{HasCauseIn, KeepsAt, BreaksAt, LeavesBad, LeavesLasso}
use Rattle.stimulus.proofs.CourseLaws.{starts_of}

-- what shows a violation has a run of the lines
record Evidence (m : Parts) (p : Property) (initial : List Bool) (inputs : List (List Bool)) : Type 0 where
  exists : HasProperty m p
  replay : List Valuation
  replays : IsReplay m initial inputs replay
  runs : IsRun m replay
  keeps : KeepsConstraints m replay

evidence_of : (m : Parts) (p : Property) (initial : List Bool) (inputs : List (List Bool)) → Shows m (Violated p initial inputs) → Evidence m p initial inputs
evidence_of m p initial inputs (inl b) = record {
  exists = watched_there m p b.bad b.watched;
  replay = b.replay;
  replays = b.replays;
  runs = b.runs;
  keeps = b.keeps;
}
evidence_of m p initial inputs (inr l) = record {
  exists = subst (HasProperty m) (sym l.names) l.exists;
  replay = l.replay;
  replays = l.replays;
  runs = l.runs;
  keeps = l.keeps;
}

-- a replay's lines have their lengths, and there is one
begins_long : (m : Parts) (initial : List Bool) (r : List Valuation) → Begins m initial r → length initial ≡ length m.latches
begins_long m initial [] begins = absurd begins
begins_long m initial (w ∷ r) begins = ap (λ (s : List Bool). length s) (sym begins) ∙ length-map m.latches (λ l. value_of w l.lit)

replay_times : (m : Parts) (initial : List Bool) (inputs : List (List Bool)) (r : List Valuation) → IsReplay m initial inputs r → length r ≡ length inputs
replay_times m initial inputs r p = sym (length-map r (inputs_of m)) ∙ ap (λ (ls : List (List Bool)). length ls) p.has_inputs

replay_long : (m : Parts) (initial : List Bool) (inputs : List (List Bool)) (r : List Valuation) (t : ℕ) → IsReplay m initial inputs r → t < length inputs → length (get_or inputs t []) ≡ length m.inputs
replay_long m initial inputs r t p t_in =
    let t_r : t < length r = omega (arith, t_in, replay_times m initial inputs r p) in
    let line : get_or inputs t [] ≡ inputs_of m (get_or r t []) = ap (λ (ls : List (List Bool)). get_or ls t []) (sym p.has_inputs) ∙ get_or-map (inputs_of m) r t [] [] t_r in
    ap (λ (l : List Bool). length l) line ∙ length-map m.inputs (value_of (get_or r t []))

begins_some : (m : Parts) (initial : List Bool) (r : List Valuation) → Begins m initial r → 0 < length r
begins_some m initial [] begins = absurd begins
begins_some m initial (w ∷ r) begins = omega arith

-- a justice property watches no literal
unwatched : (m : Parts) (p : Property) (j : ℕ) (a : Lit) → p ≡ Justice j → IsWatched m p a → ⊥
unwatched m p j a is watched = subst (λ (q : Property). IsWatched m q a) is watched

-- the bad literal is set or not
bad_both : (m : Parts) (p : Property) (initial : List Bool) (inputs : List (List Bool)) → LeavesBad m p initial inputs → Shows m (Violated p initial inputs) → ⊥
bad_both m p initial inputs c (inl b) =
    let same : c.replay ≡ b.replay = sym (c.runs.only b.replay b.replays) in
    let bad : c.bad ≡ b.bad = watched_one m p c.bad b.bad c.watched b.watched in
    let values : value_of (last_of c.replay) c.bad ≡ value_of (last_of b.replay) b.bad = ap (λ (r : List Valuation). value_of (last_of r) c.bad) same ∙ ap (λ (a : Lit). value_of (last_of b.replay) a) bad in
    let no : false ≡ true = sym c.not_set ∙ values ∙ b.sets in
    absurd cc
bad_both m p initial inputs c (inr l) = unwatched m p l.position c.bad l.names c.watched

-- there is a lasso or not
lasso_both : (m : Parts) (p : Property) (initial : List Bool) (inputs : List (List Bool)) → LeavesLasso m p initial inputs → Shows m (Violated p initial inputs) → ⊥
lasso_both m p initial inputs c (inl b) = unwatched m p c.position b.bad c.names b.watched
lasso_both m p initial inputs c (inr l) =
    let same : l.replay ≡ c.replay = c.runs.only l.replay l.replays in
    let position : l.position ≡ c.position = ap position_of (sym l.names ∙ c.names) in
    let lasso : ClosesLasso m (wanted_of m c.position) (closing_state m l.replay) l.replay l.start = subst (λ (j : ℕ). ClosesLasso m (wanted_of m j) (closing_state m l.replay) l.replay l.start) position l.lasso in
    c.no_lasso l.start (subst (λ (r : List Valuation). ClosesLasso m (wanted_of m c.position) (closing_state m r) r l.start) same lasso)

-- a broken constraint is broken in every replay
broken_both : (m : Parts) (p : Property) (initial : List Bool) (inputs : List (List Bool)) (t : ℕ) → BreaksAt m initial inputs t → Evidence m p initial inputs → ⊥
broken_both m p initial inputs t b ev =
    let x = ev.replay in
    let t_in : t < length x = omega (arith, b.inside, replay_times m initial inputs x ev.replays) in
    let there : at x t ≡ at b.replay t = sym (get_or-take (t + 1) x t [] (omega arith)) ∙ ap (λ (r : List Valuation). at r t) (b.only x ev.replays) in
    b.broken (subst (KeepsAt m) there (ev.keeps t [] t_in))

-- where a cause stands, no violation is shown
pub nothing_shown : (m : Parts) (p : Property) (initial : List Bool) (inputs : List (List Bool)) (e : JudgeError) → HasCauseIn m p initial inputs e → e ≢ OutOfMemory witness → Shows m (Violated p initial inputs) → ⊥
nothing_shown m p initial inputs NotViolated c some s = absurd c
nothing_shown m p initial inputs (NoProperty n) c some s = c.1 (evidence_of m p initial inputs s).exists
nothing_shown m p initial inputs (LineLength k) c some s =
    let ev = evidence_of m p initial inputs s in
    elim c.1 [
      | inl first ↦ first.1 (begins_long m initial ev.replay ev.replays.begins)
      | inr later ↦ later.1.2.wrong (replay_long m initial inputs ev.replay later.1.0 ev.replays later.1.2.inside)
    ]
nothing_shown m p initial inputs NoInputLine c some s =
    let ev = evidence_of m p initial inputs s in
    let empty : length inputs ≡ 0 = ap (λ (ls : List (List Bool)). length ls) c.2 in
    absurd (omega (arith, empty, replay_times m initial inputs ev.replay ev.replays, begins_some m initial ev.replay ev.replays.begins))
nothing_shown m p initial inputs (InitialReset k) c some s =
    let ev = evidence_of m p initial inputs s in
    c.1.against (starts_of m initial ev.replay ev.replays.begins ev.runs.starts k c.1.inside)
nothing_shown m p initial inputs (ConstraintBroken t) c some s = broken_both m p initial inputs t c.2 (evidence_of m p initial inputs s)
nothing_shown m p initial inputs BadNotSet c some s = bad_both m p initial inputs c s
nothing_shown m p initial inputs NoLasso c some s = lasso_both m p initial inputs c s
nothing_shown m p initial inputs (OutOfMemory refused) c some s = absurd (some refl)

-- the same of what a call answers
pub exact_of : {X : Type 0} (m : Parts) (p : Property) (initial : List Bool) (inputs : List (List Bool)) (r : Result X JudgeError) → IfErr r (HasCauseIn m p initial inputs)
    → IfErr r (λ e. e ≢ OutOfMemory witness → Shows m (Violated p initial inputs) → ⊥)
exact_of m p initial inputs (Ok x) h = h
exact_of m p initial inputs (Err e) h = nothing_shown m p initial inputs e h
