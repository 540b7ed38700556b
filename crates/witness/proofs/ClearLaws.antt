-- What is kept of a time, and what it says of each time that has it.
use Rattle.std.proofs.Common.{◌≡◌, ℕ, zero, suc, ◌<◌, ◌≤◌, ◌+◌, ◌*◌, ◌%◌, Bool, true, false, List, [], ◌∷◌, ◌++◌, length, map, get_or, None, Some, if◌then◌else◌, All, sym, subst, refl, ap, ◌∙◌, arith}
use Rattle.graph.specs.declared.circuit.Lit.{Lit}
use Rattle.graph.specs.declared.circuit.Latch.{Latch}
use Rattle.graph.specs.declared.parts.Parts.{Parts}
use Rattle.graph.specs.Circuits.{Valuation, place, variable, value_of, state_of, inputs_of, Agrees}
use Rattle.graph.specs.WellFormed.{IsWellFormed}
use Rattle.graph.proofs.Evaluation.{All-left, All-unmap, inputs_even, latches_even}
use Rattle.graph.proofs.Gates.{value_of-even}
use Rattle.cones.specs.Marks.{IsMarked, IsKnown, IsJustification, AreSameAt, AgreesOn, LiftedLaw}
use Rattle.witness.specs.Completions.{Keeps, Completes}
use Rattle.witness.specs.Cleared.{kept_by, AreTrueFrom}

abbrev pub latch_lits : List Latch → List Lit
latch_lits latches = map (λ l. l.lit) latches

-- the values have what is kept of them
keeps_own : (on : Bool) (v : Bool) → Keeps (if on then Some v else None) v
keeps_own true v = refl
keeps_own false v = tt

pub kept_completes : (w : Valuation) (marks : List Bool) (lits : List Lit) → Completes (map (kept_by w marks) lits) (map (value_of w) lits)
kept_completes w marks [] = tt
kept_completes w marks (a ∷ lits) = (keeps_own (place marks (variable a)) (value_of w a), kept_completes w marks lits)

-- the state, by the literals of the latches
pub state_is : (w : Valuation) (latches : List Latch) → map (value_of w) (latch_lits latches) ≡ map (λ l. value_of w l.lit) latches
state_is w [] = refl
state_is w (l ∷ latches) = ap (λ (vs : List Bool). value_of w l.lit ∷ vs) (state_is w latches)

-- a kept value is that of each valuation that has what is kept
same_value : (on : Bool) (v u : Bool) → Keeps (if on then Some v else None) u → on ≡ true → v ≡ u
same_value true v u k e = sym k
same_value false v u k e = absurd cc

same_kept : (w x : Valuation) (marks : List Bool) (lits : List Lit) → Completes (map (kept_by w marks) lits) (map (value_of x) lits) → All (λ a. IsMarked marks (variable a) → value_of w a ≡ value_of x a) lits
same_kept w x marks [] h k d k_in = absurd (omega (arith, k_in))
same_kept w x marks (a ∷ lits) h zero d k_in = same_value (place marks (variable a)) (value_of w a) (value_of x a) h.0
same_kept w x marks (a ∷ lits) h (suc k) d k_in = same_kept w x marks lits h.1 k d (omega (arith, k_in))

same_place : (w x : Valuation) (a : Lit) → a.0 % 2 ≡ 0 → value_of w a ≡ value_of x a → place w (variable a) ≡ place x (variable a)
same_place w x a even same = sym (value_of-even w a even) ∙ same ∙ value_of-even x a even

agrees_on : (m : Parts) (K : ℕ → Type 0) (w : Valuation) → Agrees m w → AgreesOn m K w
agrees_on m K w h = record { constant = h.valuation.constant; gates = λ k d k_in _. h.gates k d k_in }

pub same_at : (m : Parts) (w x : Valuation) (marks : List Bool) → IsWellFormed m → Completes (map (kept_by w marks) (latch_lits m.latches)) (state_of m x) → Completes (map (kept_by w marks) m.inputs) (inputs_of m x) → AreSameAt m (IsMarked marks) w x
same_at m w x marks well st ins =
    let latches = All-unmap (λ a. IsMarked marks (variable a) → value_of w a ≡ value_of x a) (λ l. l.lit) m.latches (same_kept w x marks (latch_lits m.latches) (subst (Completes (map (kept_by w marks) (latch_lits m.latches))) (sym (state_is x m.latches)) st)) in
    record {
      inputs = λ k d k_in on. same_place w x (get_or m.inputs k d) (inputs_even m well k d k_in).1 (same_kept w x marks m.inputs ins k d k_in on);
      latches = λ k d k_in on. same_place w x (get_or m.latches k d).lit (latches_even m well k d k_in).1 (latches k d k_in on);
    }

-- literals of a justification are true wherever a time has what is kept
pub true_from : (m : Parts) (w : Valuation) (marks : List Bool) (lits : List Lit) → IsWellFormed m → LiftedLaw m → Agrees m w → IsJustification m (IsMarked marks) w → All (λ a. IsMarked marks (variable a)) lits → All (λ a. IsKnown m (variable a)) lits → All (λ a. value_of w a ≡ true) lits →
    AreTrueFrom m (map (kept_by w marks) (latch_lits m.latches)) (map (kept_by w marks) m.inputs) lits
true_from m w marks lits well law agrees justified marked known trues = λ st line x has_state has_line at.
    law marks w x lits justified (agrees_on m (IsMarked marks) w agrees) (agrees_on m (IsMarked marks) x at.agrees)
    (same_at m w x marks well (subst (Completes (map (kept_by w marks) (latch_lits m.latches))) (sym at.has_state) has_state) (subst (Completes (map (kept_by w marks) m.inputs)) (sym at.has_inputs) has_line))
    (λ k d k_in. (known k d k_in, marked k d k_in)) trues

pub small_latches : (latches : List Latch) (w : List Bool) (n : ℕ) → All (λ l. l.lit.0 ≤ 2 * n + 1) latches → length w ≡ n + 1 → All (λ a. variable a < length w) (latch_lits latches)
small_latches [] w n h e k d k_in = absurd (omega (arith, k_in))
small_latches (l ∷ latches) w n h e zero d k_in = let p = h 0 l (omega arith) in omega (arith, p, e)
small_latches (l ∷ latches) w n h e (suc k) d k_in = small_latches latches w n (λ j c j_in. h (suc j) c (omega (arith, j_in))) e k d (omega (arith, k_in))

pub small_inputs : (m : Parts) (w : List Bool) → IsWellFormed m → length w ≡ m.max_var + 1 → All (λ a. variable a < length w) m.inputs
small_inputs m w well e k d k_in =
    let p = All-left (λ a. a.0 ≤ 2 * m.max_var + 1) m.inputs (map (λ l. l.lit) m.latches) (All-left (λ a. a.0 ≤ 2 * m.max_var + 1) (m.inputs ++ map (λ l. l.lit) m.latches) (map (λ g. g.lhs) m.gates) well.defining_in_range) k d k_in in
    omega (arith, p, e)
