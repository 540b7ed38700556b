-- An evaluation over the values of the time before: each place that something defines is written anew.
use Rattle.std.proofs.Common.{◌≡◌, ℕ, ◌+◌, ◌<◌, ◌≢◌, ◌⊎◌, Bool, true, false, List, ◌++◌, length, map, get_or, refl, inl, inr, arith, All, Contains, ◌∙◌, sym}
use Rattle.std.proofs.lemmas.List.Elements.{Contains-append_left, Contains-append_right, All-contains}
use Rattle.std.proofs.lemmas.List.{get_or-map, length-map, ext_get_or}
use Rattle.graph.specs.declared.circuit.Lit.{Lit}
use Rattle.graph.specs.declared.circuit.Latch.{Latch}
use Rattle.graph.specs.declared.parts.Parts.{Parts}
use Rattle.graph.specs.Circuits.{place, variable, value_of, defined, state_of, inputs_of, Fires, Agrees}
use Rattle.graph.specs.WellFormed.{IsWellFormed}
use Rattle.graph.proofs.Blank.{blank_lit, blank_latch}
use Rattle.graph.proofs.Gates.{left, value_of-even}
use Rattle.graph.proofs.Evaluation.{held, IsOnce, once-left, once-across, Contains-map, kept-apart, latches_even, inputs_even, defined_nonzero, true_or_false}

-- the steps of an evaluation, from earlier values to the result
pub record Refilled (m : Parts) (st ins w0 w1 w2 w : List Bool) : Type 0 where
  pub places : length w ≡ m.max_var + 1
  pub defined_only : (v : ℕ) → place w0 v ≡ true → Contains (defined m) v
  pub inputs_written : (k : ℕ) (d : Lit) → k < length m.inputs → place w1 (variable (get_or m.inputs k d)) ≡ place ins k
  pub inputs_kept : (v : ℕ) → Contains (map variable m.inputs) v ⊎ (place w1 v ≡ place w0 v)
  pub latches_written : (k : ℕ) (d : Latch) → k < length m.latches → place w2 (held (get_or m.latches k d)) ≡ place st k
  pub latches_kept : (v : ℕ) → Contains (map held m.latches) v ⊎ (place w2 v ≡ place w1 v)
  pub gates_fire : All (Fires w) m.gates
  pub gates_kept : (v : ℕ) → Contains (map left m.gates) v ⊎ (place w v ≡ place w2 v)

Refilled-input : (m : Parts) (st ins w0 w1 w2 w : List Bool) → IsOnce (defined m) → Refilled m st ins w0 w1 w2 w → (k : ℕ) (d : Lit) → k < length m.inputs →
    place w (variable (get_or m.inputs k d)) ≡ place ins k
Refilled-input m st ins w0 w1 w2 w once h k d k_in =
    let v : ℕ = variable (get_or m.inputs k d) in
    let here : Contains (map variable m.inputs) v = Contains-map variable m.inputs k d k_in in
    kept-apart (map left m.gates) w2 w v (h.gates_kept v)
    (once-across (map variable m.inputs ++ map held m.latches) (map left m.gates) v once (Contains-append_left (map variable m.inputs) (map held m.latches) v here))
    ∙ kept-apart (map held m.latches) w1 w2 v (h.latches_kept v)
    (once-across (map variable m.inputs) (map held m.latches) v (once-left (map variable m.inputs ++ map held m.latches) (map left m.gates) once) here)
    ∙ h.inputs_written k d k_in

Refilled-latch : (m : Parts) (st ins w0 w1 w2 w : List Bool) → IsOnce (defined m) → Refilled m st ins w0 w1 w2 w → (k : ℕ) (d : Latch) → k < length m.latches →
    place w (held (get_or m.latches k d)) ≡ place st k
Refilled-latch m st ins w0 w1 w2 w once h k d k_in =
    let v : ℕ = held (get_or m.latches k d) in
    let here : Contains (map held m.latches) v = Contains-map held m.latches k d k_in in
    kept-apart (map left m.gates) w2 w v (h.gates_kept v)
    (once-across (map variable m.inputs ++ map held m.latches) (map left m.gates) v once (Contains-append_right (map variable m.inputs) (map held m.latches) v here))
    ∙ h.latches_written k d k_in

-- a place that is true is defined
Refilled-defined : (m : Parts) (st ins w0 w1 w2 w : List Bool) → Refilled m st ins w0 w1 w2 w → (v : ℕ) → place w v ≡ true → Contains (defined m) v
Refilled-defined m st ins w0 w1 w2 w h v on =
    elim (h.gates_kept v) [
      | inl found ↦ Contains-append_right (map variable m.inputs ++ map held m.latches) (map left m.gates) v found
      | inr g ↦ elim (h.latches_kept v) [
        | inl found ↦ Contains-append_left (map variable m.inputs ++ map held m.latches) (map left m.gates) v (Contains-append_right (map variable m.inputs) (map held m.latches) v found)
        | inr l ↦ elim (h.inputs_kept v) [
          | inl found ↦ Contains-append_left (map variable m.inputs ++ map held m.latches) (map left m.gates) v (Contains-append_left (map variable m.inputs) (map held m.latches) v found)
          | inr i ↦ h.defined_only v (sym (g ∙ l ∙ i) ∙ on)
        ]
      ]
    ]

pub Refilled-agrees : (m : Parts) (st ins w0 w1 w2 w : List Bool) → IsWellFormed m → Refilled m st ins w0 w1 w2 w → Agrees m w
Refilled-agrees m st ins w0 w1 w2 w well h = record {
  valuation = record {
    places = h.places;
    constant = elim (true_or_false (place w 0)) [ inl on ↦ absurd (All-contains (λ v. v ≢ 0) (defined m) 0 (defined_nonzero m well) (Refilled-defined m st ins w0 w1 w2 w h 0 on) refl) | inr off ↦ off ];
    defined_only = Refilled-defined m st ins w0 w1 w2 w h;
  };
  gates = h.gates_fire;
}

pub Refilled-state : (m : Parts) (st ins w0 w1 w2 w : List Bool) → IsWellFormed m → length st ≡ length m.latches → Refilled m st ins w0 w1 w2 w → state_of m w ≡ st
Refilled-state m st ins w0 w1 w2 w well len h =
    let read : Latch → Bool = λ l. value_of w l.lit in
    ext_get_or false (map read m.latches) st (length-map m.latches read ∙ sym len)
    (λ i i_in. let i_latch : i < length m.latches = omega (arith, length-map m.latches read) in
    let even = latches_even m well i blank_latch i_latch in
    get_or-map read m.latches i blank_latch false i_latch ∙ value_of-even w (get_or m.latches i blank_latch).lit even.1
    ∙ Refilled-latch m st ins w0 w1 w2 w well.defined_once h i blank_latch i_latch)

pub Refilled-inputs : (m : Parts) (st ins w0 w1 w2 w : List Bool) → IsWellFormed m → length ins ≡ length m.inputs → Refilled m st ins w0 w1 w2 w → inputs_of m w ≡ ins
Refilled-inputs m st ins w0 w1 w2 w well len h =
    ext_get_or false (map (value_of w) m.inputs) ins (length-map m.inputs (value_of w) ∙ sym len)
    (λ i i_in. let i_input : i < length m.inputs = omega (arith, length-map m.inputs (value_of w)) in
    let even = inputs_even m well i blank_lit i_input in
    get_or-map (value_of w) m.inputs i blank_lit false i_input ∙ value_of-even w (get_or m.inputs i blank_lit) even.1
    ∙ Refilled-input m st ins w0 w1 w2 w well.defined_once h i blank_lit i_input)
