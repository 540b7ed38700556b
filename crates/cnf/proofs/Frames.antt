-- The gates of a time are satisfied exactly where each is the conjunction of its right sides.
use Rattle.std.proofs.Common.{◌≡◌, ℕ, ◌+◌, ◌*◌, ◌≤◌, Bool, true, false, not, ◌&&◌, ◌||◌, List, [], ◌∷◌, get_or, All, ℤ, refl, sym}
use Rattle.std.specs.Prelude.{flat_map}
use Rattle.std.proofs.lemmas.List.Elements.{All-nil, All-cons, All-head, All-tail}
use Rattle.graph.specs.declared.circuit.Gate.{Gate}
use Rattle.graph.specs.declared.parts.Parts.{Parts}
use Rattle.graph.specs.Circuits.{value_of, IsValuation, Agrees, Fires}
use Rattle.graph.specs.WellFormed.{IsWellFormed}
use Rattle.graph.proofs.Evaluation.{lefts_in_range, rights0, rights1}
use Rattle.graph.proofs.Shape.{All-flat_map, All-unflat_map}
use Rattle.lrat.specs.Literals.{IsSatisfied}
use Rattle.cnf.specs.Clauses.{literal, denial, gate_clauses, truth_clause, frame_at}
use Rattle.cnf.specs.Formulas.{IsGateIn}
use Rattle.cnf.specs.Meaning.{extension_of, AreSatisfied, FrameLaw}
use Rattle.cnf.proofs.Listed.{any_true, any-satisfied, satisfied-any, unit-satisfied}
use Rattle.cnf.proofs.Values.{IsLaid, extension_laid, literal_true, denial_true, truth_true}

first_holds : (x y z : Bool) → x ≡ (y && z) → (not x || (y || false)) ≡ true
first_holds true true z e = refl
first_holds true false z e = cc
first_holds false y z e = refl

second_holds : (x y z : Bool) → x ≡ (y && z) → (not x || (z || false)) ≡ true
second_holds true y true e = refl
second_holds true true false e = cc
second_holds true false false e = cc
second_holds false y z e = refl

third_holds : (x y z : Bool) → x ≡ (y && z) → (x || (not y || (not z || false))) ≡ true
third_holds true y z e = refl
third_holds false false z e = refl
third_holds false true false e = refl
third_holds false true true e = cc

is_conjunction : (x y z : Bool) → (not x || (y || false)) ≡ true → (not x || (z || false)) ≡ true → (x || (not y || (not z || false))) ≡ true → x ≡ (y && z)
is_conjunction true true true p q r = refl
is_conjunction true true false p q r = sym q
is_conjunction true false z p q r = sym p
is_conjunction false true true p q r = r
is_conjunction false true false p q r = refl
is_conjunction false false z p q r = refl

pub gates_in_range : (m : Parts) → IsWellFormed m → All (IsGateIn m.max_var) m.gates
gates_in_range m well k d k_in = record {
  lhs = lefts_in_range m well k d k_in;
  rhs0 = rights0 (λ a. a.0 ≤ 2 * m.max_var + 1) m well.used_in_range k d k_in;
  rhs1 = rights1 (λ a. a.0 ≤ 2 * m.max_var + 1) m well.used_in_range k d k_in;
}

fired : (v : ℕ → Bool) (o n : ℕ) (w : List Bool) (g : Gate) → IsLaid v o n w → IsGateIn n g → Fires w g → AreSatisfied v (gate_clauses n o g)
fired v o n w g at range fires =
    let x = literal_true v o n w g.lhs at range.lhs in let nx = denial_true v o n w g.lhs at range.lhs in
    let y = literal_true v o n w g.rhs0 at range.rhs0 in let ny = denial_true v o n w g.rhs0 at range.rhs0 in
    let z = literal_true v o n w g.rhs1 at range.rhs1 in let nz = denial_true v o n w g.rhs1 at range.rhs1 in
    let c1 : List ℤ = denial n o g.lhs ∷ literal n o g.rhs0 ∷ [] in
    let c2 : List ℤ = denial n o g.lhs ∷ literal n o g.rhs1 ∷ [] in
    let c3 : List ℤ = literal n o g.lhs ∷ denial n o g.rhs0 ∷ denial n o g.rhs1 ∷ [] in
    let p : any_true v c1 ≡ true = rw (nx, y) (first_holds (value_of w g.lhs) (value_of w g.rhs0) (value_of w g.rhs1) fires) in
    let q : any_true v c2 ≡ true = rw (nx, z) (second_holds (value_of w g.lhs) (value_of w g.rhs0) (value_of w g.rhs1) fires) in
    let r : any_true v c3 ≡ true = rw (x, ny, nz) (third_holds (value_of w g.lhs) (value_of w g.rhs0) (value_of w g.rhs1) fires) in
    All-cons (IsSatisfied v) c1 (c2 ∷ c3 ∷ []) (any-satisfied v c1 p)
    (All-cons (IsSatisfied v) c2 (c3 ∷ []) (any-satisfied v c2 q) (All-cons (IsSatisfied v) c3 [] (any-satisfied v c3 r) (All-nil (IsSatisfied v))))

fires_if : (v : ℕ → Bool) (o n : ℕ) (w : List Bool) (g : Gate) → IsLaid v o n w → IsGateIn n g → AreSatisfied v (gate_clauses n o g) → Fires w g
fires_if v o n w g at range all =
    let x = literal_true v o n w g.lhs at range.lhs in let nx = denial_true v o n w g.lhs at range.lhs in
    let y = literal_true v o n w g.rhs0 at range.rhs0 in let ny = denial_true v o n w g.rhs0 at range.rhs0 in
    let z = literal_true v o n w g.rhs1 at range.rhs1 in let nz = denial_true v o n w g.rhs1 at range.rhs1 in
    let c1 : List ℤ = denial n o g.lhs ∷ literal n o g.rhs0 ∷ [] in
    let c2 : List ℤ = denial n o g.lhs ∷ literal n o g.rhs1 ∷ [] in
    let c3 : List ℤ = literal n o g.lhs ∷ denial n o g.rhs0 ∷ denial n o g.rhs1 ∷ [] in
    let rest : AreSatisfied v (c2 ∷ c3 ∷ []) = All-tail (IsSatisfied v) c1 (c2 ∷ c3 ∷ []) all in
    let p : any_true v c1 ≡ true = satisfied-any v c1 (All-head (IsSatisfied v) c1 (c2 ∷ c3 ∷ []) all) in
    let q : any_true v c2 ≡ true = satisfied-any v c2 (All-head (IsSatisfied v) c2 (c3 ∷ []) rest) in
    let r : any_true v c3 ≡ true = satisfied-any v c3 (All-head (IsSatisfied v) c3 [] (All-tail (IsSatisfied v) c2 (c3 ∷ []) rest)) in
    is_conjunction (value_of w g.lhs) (value_of w g.rhs0) (value_of w g.rhs1) (rw (nx, y) at p) (rw (nx, z) at q) (rw (x, ny, nz) at r)

-- the frame of the time that lies after the first o variables
pub frame_satisfied : (v : ℕ → Bool) (o : ℕ) (m : Parts) (w : List Bool) → IsWellFormed m → IsLaid v o m.max_var w → Agrees m w → AreSatisfied v (frame_at m o)
frame_satisfied v o m w well at agrees =
    All-cons (IsSatisfied v) (truth_clause m.max_var o) (flat_map (gate_clauses m.max_var o) m.gates) (unit-satisfied v _ (truth_true v o m.max_var w at))
    (All-flat_map (IsSatisfied v) (gate_clauses m.max_var o) m.gates
    (λ k d k_in. fired v o m.max_var w (get_or m.gates k d) at (gates_in_range m well k d k_in) (agrees.gates k d k_in)))

pub frame_agrees : (v : ℕ → Bool) (o : ℕ) (m : Parts) (w : List Bool) → IsWellFormed m → IsLaid v o m.max_var w → IsValuation m w → AreSatisfied v (frame_at m o) → Agrees m w
frame_agrees v o m w well at h all =
    let gates = All-unflat_map (IsSatisfied v) (gate_clauses m.max_var o) m.gates
    (All-tail (IsSatisfied v) (truth_clause m.max_var o) (flat_map (gate_clauses m.max_var o) m.gates) all) in
    record {
      valuation = h;
      gates = λ k d k_in. fires_if v o m.max_var w (get_or m.gates k d) at (gates_in_range m well k d k_in) (gates k d k_in);
    }

pub frame_law : (m : Parts) → IsWellFormed m → FrameLaw m
frame_law m well w h =
    let at = extension_laid m w h in
    (frame_satisfied (extension_of w) 0 m w well at, frame_agrees (extension_of w) 0 m w well at h)
