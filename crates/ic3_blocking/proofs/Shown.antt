-- The run of obligations that lead to the bad literal.
use Rattle.std.proofs.Common.{◌≡◌, ℕ, suc, ◌-◌, Bool, true, false, List, [], ◌∷◌, length, map, get_or, arith, All, Some, refl, ◌∙◌, sym, ap, subst}
use Rattle.std.specs.Prelude.{slice_get}
use Rattle.std.proofs.lemmas.List.{get_or-map, length-map}
use Rattle.std.proofs.lemmas.List.Elements.{All-head, All-tail, All-cons, All-nil}
use Rattle.base.specs.Budget.{Steps as Spent}
use Rattle.graph.specs.declared.circuit.Latch.{Latch}
use Rattle.graph.specs.declared.parts.Parts.{Parts}
use Rattle.graph.specs.Circuits.{Valuation, value_of, state_of, inputs_of, Agrees, StartsInitial, Steps, KeepsConstraints, next_state}
use Rattle.graph.specs.WellFormed.{IsModel}
use Rattle.cnf.specs.Formulas.{bad_literal}
use Rattle.cnf.specs.Meaning.{KeepsNow}
use Rattle.cones.proofs.Existing.{existence_law}
use Rattle.stimulus.specs.Shown.{Begins, last_of}
use Rattle.engine.specs.declared.finding.Finding.TheVariants.{Run}
use Rattle.engine.specs.Findings.{IsForBad}
use Rattle.states.specs.States.{Denies, latch_at}
use Rattle.ic3_frames.specs.Frames.{Levels}
use Rattle.ic3_frames.specs.Resets.{HasResets}
use Rattle.ic3_blocking.specs.declared.obligation.Obligation.{Obligation}
use Rattle.ic3_blocking.specs.Cubes.{ReachBad}
use Rattle.ic3_blocking.specs.Answers.{IsObligation, IsFound}

-- what the obligations play from a state
pub record IsPlayed (m : Parts) (s : List Bool) (os : List Obligation) (r : List Valuation) : Type 0 where
  pub agrees : All (Agrees m) r
  pub begins : Begins m s r
  pub has_inputs : map (inputs_of m) r ≡ map (λ (o : Obligation). o.inputs) os
  pub steps : Steps m r
  pub keeps : KeepsConstraints m r
  pub sets : value_of (last_of r) (bad_literal m 0) ≡ true

steps_more : (m : Parts) (w : Valuation) (r : List Valuation) → Begins m (next_state m w) r → Steps m r → Steps m (w ∷ r)
steps_more m w [] begins steps = absurd begins
steps_more m w (x ∷ r) begins steps = (begins, steps)

last_more : (m : Parts) (s : List Bool) (w : Valuation) (r : List Valuation) → Begins m s r → last_of (w ∷ r) ≡ last_of r
last_more m s w [] begins = absurd begins
last_more m s w (x ∷ r) begins =
    let e : length (w ∷ x ∷ r) - 1 ≡ suc (length (x ∷ r) - 1) = omega arith in
    ap (λ k. get_or (w ∷ x ∷ r) k []) e

-- a time before what is played
played_more : (m : Parts) (s : List Bool) (o : Obligation) (os : List Obligation) (w : Valuation) (r : List Valuation) → Agrees m w → state_of m w ≡ s → inputs_of m w ≡ o.inputs → KeepsNow m w →
    IsPlayed m (next_state m w) os r → IsPlayed m s (o ∷ os) (w ∷ r)
played_more m s o os w r agrees state inputs keeps h = record {
  agrees = All-cons (Agrees m) w r agrees h.agrees;
  begins = state;
  has_inputs = let rest : map (inputs_of m) r ≡ map (λ (p : Obligation). p.inputs) os = h.has_inputs in rw (inputs, rest) refl;
  steps = steps_more m w r h.begins h.steps;
  keeps = All-cons (KeepsNow m) w r keeps h.keeps;
  sets = ap (λ (x : Valuation). value_of x (bad_literal m 0)) (last_more m (next_state m w) w r h.begins) ∙ h.sets;
}

-- the state is in the first obligation's cube
abbrev pub IsInFirst : List Bool → List Obligation → Type 0
IsInFirst s [] = ⊥
IsInFirst s (o ∷ os) = Denies s o.clause

-- from a state of the first obligation's cube, the inputs of the obligations are a run to the bad literal
pub played : (m : Parts) (order : List ℕ) (os : List Obligation) (s : List Bool) → IsModel m order → length s ≡ length m.latches → All (λ (o : Obligation). length o.inputs ≡ length m.inputs) os →
    ReachBad m os → IsInFirst s os → (r : List Valuation) × IsPlayed m s os r
played m order [] s model long inputs leads first = absurd first
played m order (o ∷ []) s model long inputs leads first =
    let now = existence_law m order model s o.inputs long (All-head (λ (p : Obligation). length p.inputs ≡ length m.inputs) o [] inputs) in
    let w : Valuation = now.0 in
    let law = leads w now.1 (subst (λ (q : List Bool). Denies q o.clause) (sym now.2) first) now.3 in (
      w ∷ [],
      record {
        agrees = All-cons (Agrees m) w [] now.1 (All-nil (Agrees m));
        begins = now.2;
        has_inputs = let same : inputs_of m w ≡ o.inputs = now.3 in rw same refl;
        steps = tt;
        keeps = All-cons (KeepsNow m) w [] law.0 (All-nil (KeepsNow m));
        sets = law.1;
      },
    )
played m order (o ∷ p ∷ os) s model long inputs leads first =
    let now = existence_law m order model s o.inputs long (All-head (λ (q : Obligation). length q.inputs ≡ length m.inputs) o (p ∷ os) inputs) in
    let w : Valuation = now.0 in
    let law = leads.0 w now.1 (subst (λ (q : List Bool). Denies q o.clause) (sym now.2) first) now.3 in
    let rest = played m order (p ∷ os) (next_state m w) model (length-map m.latches (λ (l : Latch). value_of w l.next)) (All-tail (λ (q : Obligation). length q.inputs ≡ length m.inputs) o (p ∷ os) inputs)
    leads.1 law.1 in
    (w ∷ rest.0, played_more m s o (p ∷ os) w rest.0 now.1 now.2 now.3 law.0 rest.1)

-- a state with the circuit's resets is initial
starts : (m : Parts) (s : List Bool) (r : List Valuation) → HasResets m.latches s → Begins m s r → StartsInitial m r
starts m s [] resets begins = absurd begins
starts m s (w ∷ r) resets begins = λ k d k_in.
    let at : latch_at s k ≡ value_of w (get_or m.latches k d).lit = ap (λ (q : List Bool). latch_at q k) (sym begins) ∙ get_or-map (λ (l : Latch). value_of w l.lit) m.latches k d false k_in in
    let both = resets k d k_in in
    record { low = λ e. sym at ∙ both.0 e; high = λ e. sym at ∙ both.1 e }

bad_there : (m : Parts) → IsForBad m → slice_get m.bad 0 ≡ Some (bad_literal m 0)
bad_there m one = let are = one.one in rw are refl

-- the obligations' run shows the bad literal
pub run_found : (m : Parts) (order : List ℕ) (o : Obligation) (os : List Obligation) (s : List Bool) (lines : List (List Bool)) (f : Levels) (after : Spent) → IsModel m order → IsForBad m →
    All (IsObligation m) (o ∷ os) → ReachBad m (o ∷ os) → length s ≡ length m.latches → HasResets m.latches s → Denies s o.clause → lines ≡ map (λ (p : Obligation). p.inputs) (o ∷ os) →
    IsFound m f after (Run s lines)
run_found m order o os s lines f after model one obligations leads long resets first are =
    let run = played m order (o ∷ os) s model long (λ k d k_in. (obligations k d k_in).inputs) leads first in
    let h = run.1 in
    record {
      so = record {
        bad = bad_literal m 0;
        replay = run.0;
        watched = bad_there m one;
        replays = record { agrees = h.agrees; begins = h.begins; has_inputs = h.has_inputs ∙ sym are; steps = h.steps };
        runs = record { agrees = h.agrees; starts = starts m s run.0 resets h.begins; steps = h.steps };
        keeps = h.keeps;
        sets = h.sets;
      };
      decided = tt;
    }
