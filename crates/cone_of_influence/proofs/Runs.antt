-- A run of the circuit, at the variables that are kept, is one of the reduced circuit.
use Rattle.std.proofs.Common.{◌≡◌, ℕ, ◌<◌, Bool, false, List, [], ◌∷◌, map, length, get_or, All, sym, ◌∙◌, ap, arith}
use Rattle.std.proofs.lemmas.List.{get_or-map, length-map}
use Rattle.std.proofs.lemmas.List.Elements.{All-map}
use Rattle.std.proofs.lemmas.Option.{get_or_from_slice_get, slice_get-get_or}
use Rattle.graph.specs.declared.circuit.Lit.{Lit}
use Rattle.graph.specs.declared.circuit.Property.TheVariants.{Bad}
use Rattle.graph.specs.declared.parts.Parts.{Parts}
use Rattle.graph.specs.Circuits.{Valuation, value_of, Agrees, IsWatched, StartsInitial, Steps, IsRun, KeepsConstraints}
use Rattle.graph.proofs.Evaluation.{All-unmap}
use Rattle.cnf.specs.Formulas.{bad_literal}
use Rattle.cnf.specs.Meaning.{KeepsNow}
use Rattle.cone_of_influence.specs.Numbers.{renamed}
use Rattle.cone_of_influence.specs.Laws.{restricted, IsRestricted, ClearLaw}
use Rattle.cone_of_influence.proofs.Valued.{AreGiven, part, map_on, same_value, bad_of_cone, agrees_to, step_to, keeps_to, initial_to}

-- ---- the bad literal

pub some_bad : (m : Parts) (marks : List Bool) (kept numbers : List ℕ) → AreGiven m marks kept numbers → 0 < length m.bad
some_bad m marks kept numbers h = let one : length m.bad ≡ 1 = ap length h.for_bad.one in omega (arith, one)

pub bad_is : (m : Parts) (marks : List Bool) (kept numbers : List ℕ) → AreGiven m marks kept numbers → bad_literal (part m marks kept numbers) 0 ≡ renamed numbers (bad_literal m 0)
bad_is m marks kept numbers h = get_or-map (renamed numbers) m.bad 0 (record { 0 = 0 }) (record { 0 = 0 }) (some_bad m marks kept numbers h)

pub bad_value : (m : Parts) (marks : List Bool) (kept numbers : List ℕ) (w : Valuation) → AreGiven m marks kept numbers →
    value_of (restricted kept w) (bad_literal (part m marks kept numbers) 0) ≡ value_of w (bad_literal m 0)
bad_value m marks kept numbers w h =
    ap (value_of (restricted kept w)) (bad_is m marks kept numbers h) ∙ same_value m marks kept numbers w (bad_literal m 0) h (bad_of_cone m marks kept numbers h)

-- the literal that is watched is the one bad literal
pub watched_is : (m : Parts) (a : Lit) → IsWatched m (Bad 0) a → bad_literal m 0 ≡ a
watched_is m a watched = get_or_from_slice_get m.bad 0 a (record { 0 = 0 }) watched

pub bad_watched : (m : Parts) → 0 < length m.bad → IsWatched m (Bad 0) (bad_literal m 0)
bad_watched m some = slice_get-get_or m.bad 0 (record { 0 = 0 }) some

-- ---- runs

starts_to : (m : Parts) (marks : List Bool) (kept numbers : List ℕ) (r : List Valuation) → AreGiven m marks kept numbers → StartsInitial m r → StartsInitial (part m marks kept numbers) (map (restricted kept) r)
starts_to m marks kept numbers [] h starts = absurd starts
starts_to m marks kept numbers (w ∷ r) h starts = initial_to m marks kept numbers w h starts

steps_to : (m : Parts) (marks : List Bool) (kept numbers : List ℕ) (r : List Valuation) → AreGiven m marks kept numbers → Steps m r → Steps (part m marks kept numbers) (map (restricted kept) r)
steps_to m marks kept numbers [] h steps = tt
steps_to m marks kept numbers (w ∷ []) h steps = tt
steps_to m marks kept numbers (w ∷ x ∷ r) h steps = (step_to m marks kept numbers w x h steps.0, steps_to m marks kept numbers (x ∷ r) h steps.1)

run_to : (m : Parts) (marks : List Bool) (kept numbers : List ℕ) (r : List Valuation) → AreGiven m marks kept numbers → IsRun m r → IsRun (part m marks kept numbers) (map (restricted kept) r)
run_to m marks kept numbers r h run = record {
  agrees = All-map (Agrees (part m marks kept numbers)) (restricted kept) r (λ k d k_in. agrees_to m marks kept numbers (get_or r k d) h (run.agrees k d k_in));
  starts = starts_to m marks kept numbers r h run.starts;
  steps = steps_to m marks kept numbers r h run.steps;
}

kept_to : (m : Parts) (marks : List Bool) (kept numbers : List ℕ) (r : List Valuation) → AreGiven m marks kept numbers → KeepsConstraints m r → KeepsConstraints (part m marks kept numbers) (map (restricted kept) r)
kept_to m marks kept numbers r h keeps =
    All-map (KeepsNow (part m marks kept numbers)) (restricted kept) r (λ k d k_in. keeps_to m marks kept numbers (get_or r k d) h (keeps k d k_in))

pub runs_law : (m : Parts) (marks : List Bool) (kept numbers : List ℕ) → AreGiven m marks kept numbers → (r : List Valuation) → IsRun m r → KeepsConstraints m r →
    IsRestricted m (part m marks kept numbers) r (map (restricted kept) r)
runs_law m marks kept numbers h r run keeps = record {
  runs = run_to m marks kept numbers r h run;
  keeps = kept_to m marks kept numbers r h keeps;
  bad = map_on (λ w. value_of w (bad_literal (part m marks kept numbers) 0)) (restricted kept) (λ w. value_of w (bad_literal m 0)) r
      (λ k d k_in. bad_value m marks kept numbers (get_or r k d) h);
}

pub clear_law : (m : Parts) (marks : List Bool) (kept numbers : List ℕ) → AreGiven m marks kept numbers → ClearLaw m (part m marks kept numbers)
clear_law m marks kept numbers h steps clear r a run keeps few watched =
    let s : Parts = part m marks kept numbers in
    let b : Lit = bad_literal s 0 in
    let some : 0 < length s.bad = (let there = some_bad m marks kept numbers h in omega (arith, there, length-map m.bad (renamed numbers))) in
    let all : All (λ w. value_of w b ≡ false) (map (restricted kept) r) =
    clear (map (restricted kept) r) b (run_to m marks kept numbers r h run) (kept_to m marks kept numbers r h keeps) (omega (arith, few, length-map r (restricted kept))) (bad_watched s some) in
    let each : All (λ w. value_of (restricted kept w) b ≡ false) r = All-unmap (λ w. value_of w b ≡ false) (restricted kept) r all in
    λ k d k_in. ap (value_of (get_or r k d)) (sym (watched_is m a watched)) ∙ sym (bad_value m marks kept numbers (get_or r k d) h) ∙ each k d k_in
