-- Short runs, of which the frames say that they don't set the bad literal.
use Rattle.std.proofs.Common.{◌≡◌, ℕ, ◌+◌, ◌≤◌, false, List, [], ◌∷◌, length, get_or, All, inl, inr, sym, subst, arith}
use Rattle.std.proofs.lemmas.Bool.{cases_lt}
use Rattle.std.proofs.lemmas.Option.{get_or_from_slice_get}
use Rattle.std.proofs.lemmas.List.Elements.{All-nil, All-cons, All-head, All-tail, Contains-get_or}
use Rattle.graph.specs.declared.circuit.Lit.{Lit}
use Rattle.graph.specs.declared.parts.Parts.{Parts}
use Rattle.graph.specs.Circuits.{Valuation, value_of, state_of, Agrees, IsRun, KeepsConstraints, Steps, next_state}
use Rattle.cnf.specs.Formulas.{bad_literal}
use Rattle.cnf.specs.Meaning.{KeepsNow}
use Rattle.states.specs.States.{IsTime}
use Rattle.ic3_frames.specs.Frames.{InFrame, AreFrames, Levels, Excludes}
use Rattle.ic3_frames.proofs.Laws.{onward_from}
use Rattle.ic3.specs.Answers.{IsDeep}

-- each frame up to the open one excludes the bad literal, where that one does
excluded_at : (m : Parts) (f : Levels) (k : ℕ) → AreFrames m (bad_literal m 0) f → Excludes m (bad_literal m 0) f.entries f.top → k ≤ f.top → Excludes m (bad_literal m 0) f.entries k
excluded_at m f k laws last le = elim (cases_lt k f.top) [
  | inl lt ↦ laws.excluded k lt
  | inr ge ↦ let at : f.top ≡ k = omega (arith, le, ge) in subst (Excludes m (bad_literal m 0) f.entries) at last
]

-- a step from a frame ends in the next
step_within : (m : Parts) (f : Levels) (k : ℕ) (w : Valuation) → AreFrames m (bad_literal m 0) f → IsTime m w → InFrame f.entries k (state_of m w) → InFrame f.entries (k + 1) (next_state m w)
step_within m f k w laws time inside i d i_in above =
    onward_from m (bad_literal m 0) f k (get_or f.entries i d) laws (Contains-get_or f.entries i d i_in) above w time inside

-- the rest of a run, from a time in a frame
rest_clear : (m : Parts) (f : Levels) (k : ℕ) (w : Valuation) (r : List Valuation) → AreFrames m (bad_literal m 0) f → Excludes m (bad_literal m 0) f.entries f.top →
    All (Agrees m) (w ∷ r) → KeepsConstraints m (w ∷ r) → Steps m (w ∷ r) → InFrame f.entries k (state_of m w) → length r + k ≤ f.top → All (λ x. value_of x (bad_literal m 0) ≡ false) (w ∷ r)
rest_clear m f k w [] laws last agrees keeps steps inside few =
    let time : IsTime m w = record { agrees = All-head (Agrees m) w [] agrees; keeps = All-head (KeepsNow m) w [] keeps } in
    let P = λ (x : Valuation). value_of x (bad_literal m 0) ≡ false in
    All-cons P w [] (excluded_at m f k laws last (omega (arith, few)) w time inside) (All-nil P)
rest_clear m f k w (x ∷ r) laws last agrees keeps steps inside few =
    let time : IsTime m w = record { agrees = All-head (Agrees m) w (x ∷ r) agrees; keeps = All-head (KeepsNow m) w (x ∷ r) keeps } in
    let P = λ (y : Valuation). value_of y (bad_literal m 0) ≡ false in
    All-cons P w (x ∷ r) (excluded_at m f k laws last (omega (arith, few)) w time inside)
    (rest_clear m f (k + 1) x r laws last (All-tail (Agrees m) w (x ∷ r) agrees) (All-tail (KeepsNow m) w (x ∷ r) keeps) steps.1
    (subst (InFrame f.entries (k + 1)) (sym steps.0) (step_within m f k w laws time inside)) (omega (arith, few)))

run_clear : (m : Parts) (f : Levels) (r : List Valuation) → AreFrames m (bad_literal m 0) f → Excludes m (bad_literal m 0) f.entries f.top → IsRun m r → KeepsConstraints m r → length r ≤ f.top + 1 →
    All (λ x. value_of x (bad_literal m 0) ≡ false) r
run_clear m f [] laws last run keeps few = All-nil (λ (x : Valuation). value_of x (bad_literal m 0) ≡ false)
run_clear m f (w ∷ r) laws last run keeps few =
    rest_clear m f 0 w r laws last run.agrees keeps run.steps (λ i d i_in level. laws.initial i d i_in w run.starts) (omega (arith, few))

-- no run of as many steps as there are frames sets the bad literal
pub is_deep : (m : Parts) (f : Levels) → AreFrames m (bad_literal m 0) f → Excludes m (bad_literal m 0) f.entries f.top → 1000000000 ≤ f.top → IsDeep m f.top
is_deep m f laws last many = record {
  clear = λ r a run keeps few watched.
      let is : bad_literal m 0 ≡ a = get_or_from_slice_get m.bad 0 a (record { 0 = 0 }) watched in
      subst (λ (b : Lit). All (λ x. value_of x b ≡ false) r) is (run_clear m f r laws last run keeps few);
  many = many;
}
