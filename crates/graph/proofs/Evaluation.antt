-- One valuation agrees with a state and inputs: the one that the evaluation makes.
use Rattle.std.proofs.Common.{◌≡◌, ℕ, zero, suc, ◌+◌, ◌*◌, ◌%◌, ◌<◌, ◌≤◌, ◌≢◌, ◌⊎◌, Bool, true, false, List, ◌++◌, length, map, get_or, refl, inl, inr, arith, All, AllPairs, Contains, ◌∙◌, sym, ap, subst, length-append}
use Rattle.std.proofs.lemmas.List.Elements.{Contains-get_or, Contains-append_left, Contains-append_right, Contains-append_cases, All-append, All-map, All-contains}
use Rattle.std.proofs.lemmas.List.{get_or-map, length-map, get_or_default, ext_get_or, get_or-append-add}
use Rattle.std.proofs.Math.ListN.{get_or-append}
use Rattle.std.proofs.lemmas.Bool.{cases_lt}
use Rattle.graph.specs.declared.circuit.Lit.{Lit}
use Rattle.graph.specs.declared.circuit.Latch.{Latch}
use Rattle.graph.specs.declared.circuit.Gate.{Gate}
use Rattle.graph.specs.declared.parts.Parts.{Parts}
use Rattle.graph.specs.Circuits.{place, variable, value_of, defined, state_of, inputs_of, Fires, Agrees, justice_literals}
use Rattle.graph.specs.WellFormed.{gate_in, Reads, IsModel, IsWellFormed, used}
use Rattle.graph.proofs.Gates.{left, value_of-even}

pub true_or_false : (b : Bool) → (b ≡ true) ⊎ (b ≡ false)
true_or_false true = inl refl
true_or_false false = inr refl

-- the variable that a latch defines
abbrev pub held : Latch → ℕ
held l = variable l.lit

abbrev pub IsOnce : List ℕ → Type 0
IsOnce vs = AllPairs (λ u v. u ≢ v) vs

pub once-left : (xs ys : List ℕ) → IsOnce (xs ++ ys) → IsOnce xs
once-left xs ys h i j d i_j j_in e =
    h i j d i_j (omega (arith, length-append xs ys)) (get_or-append xs ys d i (omega arith) ∙ e ∙ sym (get_or-append xs ys d j j_in))

pub once-right : (xs ys : List ℕ) → IsOnce (xs ++ ys) → IsOnce ys
once-right xs ys h i j d i_j j_in e =
    h (length xs + i) (length xs + j) d (omega arith) (omega (arith, length-append xs ys)) (get_or-append-add xs ys i d ∙ e ∙ sym (get_or-append-add xs ys j d))

pub once-across : (xs ys : List ℕ) (v : ℕ) → IsOnce (xs ++ ys) → Contains xs v → Contains ys v → ⊥
once-across xs ys v h a b =
    h a.0 (length xs + b.0) v (omega (arith, a.1)) (omega (arith, b.1, length-append xs ys))
    (get_or-append xs ys v a.0 a.1 ∙ a.2 ∙ sym b.2 ∙ sym (get_or-append-add xs ys b.0 v))

pub Contains-map : {X : Type 0} (f : X → ℕ) (xs : List X) (k : ℕ) (d : X) → k < length xs → Contains (map f xs) (f (get_or xs k d))
Contains-map f xs k d k_in = subst (Contains (map f xs)) (get_or-map f xs k d 0 k_in) (Contains-get_or (map f xs) k 0 (omega (arith, length-map xs f)))

-- what is kept outside of some variables is kept at one that is not among them
pub kept-apart : (vars : List ℕ) (before w : List Bool) (v : ℕ) → Contains vars v ⊎ (place w v ≡ place before v) → (Contains vars v → ⊥) → place w v ≡ place before v
kept-apart vars before w v h apart = elim h [ inl found ↦ absurd (apart found) | inr same ↦ same ]

-- the steps of an evaluation, from all false to the result
pub record Filled (m : Parts) (st ins w0 w1 w2 w : List Bool) : Type 0 where
  pub places : length w ≡ m.max_var + 1
  pub cleared : (v : ℕ) → place w0 v ≡ false
  pub inputs_written : (k : ℕ) (d : Lit) → k < length m.inputs → place w1 (variable (get_or m.inputs k d)) ≡ place ins k
  pub inputs_kept : (v : ℕ) → Contains (map variable m.inputs) v ⊎ (place w1 v ≡ place w0 v)
  pub latches_written : (k : ℕ) (d : Latch) → k < length m.latches → place w2 (held (get_or m.latches k d)) ≡ place st k
  pub latches_kept : (v : ℕ) → Contains (map held m.latches) v ⊎ (place w2 v ≡ place w1 v)
  pub gates_fire : All (Fires w) m.gates
  pub gates_kept : (v : ℕ) → Contains (map left m.gates) v ⊎ (place w v ≡ place w2 v)

pub Filled-input : (m : Parts) (st ins w0 w1 w2 w : List Bool) → IsOnce (defined m) → Filled m st ins w0 w1 w2 w → (k : ℕ) (d : Lit) → k < length m.inputs →
    place w (variable (get_or m.inputs k d)) ≡ place ins k
Filled-input m st ins w0 w1 w2 w once h k d k_in =
    let v : ℕ = variable (get_or m.inputs k d) in
    let here : Contains (map variable m.inputs) v = Contains-map variable m.inputs k d k_in in
    kept-apart (map left m.gates) w2 w v (h.gates_kept v)
    (once-across (map variable m.inputs ++ map held m.latches) (map left m.gates) v once (Contains-append_left (map variable m.inputs) (map held m.latches) v here))
    ∙ kept-apart (map held m.latches) w1 w2 v (h.latches_kept v)
    (once-across (map variable m.inputs) (map held m.latches) v (once-left (map variable m.inputs ++ map held m.latches) (map left m.gates) once) here)
    ∙ h.inputs_written k d k_in

pub Filled-latch : (m : Parts) (st ins w0 w1 w2 w : List Bool) → IsOnce (defined m) → Filled m st ins w0 w1 w2 w → (k : ℕ) (d : Latch) → k < length m.latches →
    place w (held (get_or m.latches k d)) ≡ place st k
Filled-latch m st ins w0 w1 w2 w once h k d k_in =
    let v : ℕ = held (get_or m.latches k d) in
    let here : Contains (map held m.latches) v = Contains-map held m.latches k d k_in in
    kept-apart (map left m.gates) w2 w v (h.gates_kept v)
    (once-across (map variable m.inputs ++ map held m.latches) (map left m.gates) v once (Contains-append_right (map variable m.inputs) (map held m.latches) v here))
    ∙ h.latches_written k d k_in

-- a place outside of what is defined is false
pub Filled-defined : (m : Parts) (st ins w0 w1 w2 w : List Bool) → Filled m st ins w0 w1 w2 w → (v : ℕ) → Contains (defined m) v ⊎ (place w v ≡ false)
Filled-defined m st ins w0 w1 w2 w h v =
    elim (h.gates_kept v) [
      | inl found ↦ inl (Contains-append_right (map variable m.inputs ++ map held m.latches) (map left m.gates) v found)
      | inr g ↦ elim (h.latches_kept v) [
        | inl found ↦ inl (Contains-append_left (map variable m.inputs ++ map held m.latches) (map left m.gates) v (Contains-append_right (map variable m.inputs) (map held m.latches) v found))
        | inr l ↦ elim (h.inputs_kept v) [
          | inl found ↦ inl (Contains-append_left (map variable m.inputs ++ map held m.latches) (map left m.gates) v (Contains-append_left (map variable m.inputs) (map held m.latches) v found))
          | inr i ↦ inr (g ∙ l ∙ i ∙ h.cleared v)
        ]
      ]
    ]

pub All-left : {X : Type 0} (P : X → Type 0) (xs ys : List X) → All P (xs ++ ys) → All P xs
All-left P xs ys h k d k_in = subst P (get_or-append xs ys d k k_in) (h k d (omega (arith, length-append xs ys)))

pub All-right : {X : Type 0} (P : X → Type 0) (xs ys : List X) → All P (xs ++ ys) → All P ys
All-right P xs ys h k d k_in = subst P (get_or-append-add xs ys k d) (h (length xs + k) d (omega (arith, length-append xs ys)))

pub All-unmap : {X Y : Type 0} (P : Y → Type 0) (f : X → Y) (xs : List X) → All P (map f xs) → All (λ x. P (f x)) xs
All-unmap P f xs h k d k_in = subst P (get_or-map f xs k d (f d) k_in) (h k (f d) (omega (arith, length-map xs f)))

pub All-both : {X : Type 0} (P Q R : X → Type 0) (xs : List X) → ((x : X) → P x → Q x → R x) → All P xs → All Q xs → All R xs
All-both P Q R xs f p q k d k_in = f (get_or xs k d) (p k d k_in) (q k d k_in)

-- what the parts of a well-formed circuit keep, list by list
pub latches_in_range : (m : Parts) → IsWellFormed m → All (λ l. l.lit.0 ≤ 2 * m.max_var + 1) m.latches
latches_in_range m h = All-unmap (λ a. a.0 ≤ 2 * m.max_var + 1) (λ l. l.lit) m.latches
    (All-right (λ a. a.0 ≤ 2 * m.max_var + 1) m.inputs _ (All-left (λ a. a.0 ≤ 2 * m.max_var + 1) (m.inputs ++ map (λ l. l.lit) m.latches) (map (λ g. g.lhs) m.gates) h.defining_in_range))

pub lefts_in_range : (m : Parts) → IsWellFormed m → All (λ g. g.lhs.0 ≤ 2 * m.max_var + 1) m.gates
lefts_in_range m h = All-unmap (λ a. a.0 ≤ 2 * m.max_var + 1) (λ g. g.lhs) m.gates
    (All-right (λ a. a.0 ≤ 2 * m.max_var + 1) (m.inputs ++ map (λ l. l.lit) m.latches) (map (λ g. g.lhs) m.gates) h.defining_in_range)

pub inputs_even : (m : Parts) → IsWellFormed m → All (λ a. (2 ≤ a.0) × (a.0 % 2 ≡ 0)) m.inputs
inputs_even m h = All-left (λ a. (2 ≤ a.0) × (a.0 % 2 ≡ 0)) m.inputs (map (λ l. l.lit) m.latches)
    (All-left (λ a. (2 ≤ a.0) × (a.0 % 2 ≡ 0)) (m.inputs ++ map (λ l. l.lit) m.latches) (map (λ g. g.lhs) m.gates) h.defining_even)

pub latches_even : (m : Parts) → IsWellFormed m → All (λ l. (2 ≤ l.lit.0) × (l.lit.0 % 2 ≡ 0)) m.latches
latches_even m h = All-unmap (λ a. (2 ≤ a.0) × (a.0 % 2 ≡ 0)) (λ l. l.lit) m.latches (All-right (λ a. (2 ≤ a.0) × (a.0 % 2 ≡ 0)) m.inputs (map (λ l. l.lit) m.latches)
    (All-left (λ a. (2 ≤ a.0) × (a.0 % 2 ≡ 0)) (m.inputs ++ map (λ l. l.lit) m.latches) (map (λ g. g.lhs) m.gates) h.defining_even))

pub lefts_even : (m : Parts) → IsWellFormed m → All (λ g. (2 ≤ g.lhs.0) × (g.lhs.0 % 2 ≡ 0)) m.gates
lefts_even m h = All-unmap (λ a. (2 ≤ a.0) × (a.0 % 2 ≡ 0)) (λ g. g.lhs) m.gates
    (All-right (λ a. (2 ≤ a.0) × (a.0 % 2 ≡ 0)) (m.inputs ++ map (λ l. l.lit) m.latches) (map (λ g. g.lhs) m.gates) h.defining_even)

-- all that is used but the gates' right sides
abbrev pub used_outside : Parts → List Lit
used_outside m = map (λ l. l.next) m.latches ++ m.outputs ++ m.bad ++ m.constraints ++ justice_literals m.justice ++ m.fairness

pub rights0 : (P : Lit → Type 0) (m : Parts) → All P (used m) → All (λ g. P g.rhs0) m.gates
rights0 P m h = All-unmap P (λ g. g.rhs0) m.gates (All-right P (used_outside m) (map (λ g. g.rhs0) m.gates)
    (All-left P (used_outside m ++ map (λ g. g.rhs0) m.gates) (map (λ g. g.rhs1) m.gates) h))

pub rights1 : (P : Lit → Type 0) (m : Parts) → All P (used m) → All (λ g. P g.rhs1) m.gates
rights1 P m h = All-unmap P (λ g. g.rhs1) m.gates (All-right P (used_outside m ++ map (λ g. g.rhs0) m.gates) (map (λ g. g.rhs1) m.gates) h)

-- the constant is not defined
pub defined_nonzero : (m : Parts) → IsWellFormed m → All (λ v. v ≢ 0) (defined m)
defined_nonzero m h =
    All-append (λ v. v ≢ 0) (map variable m.inputs ++ map held m.latches) (map left m.gates)
    (All-append (λ v. v ≢ 0) (map variable m.inputs) (map held m.latches)
    (All-map (λ v. v ≢ 0) variable m.inputs (λ k d k_in e. let p = inputs_even m h k d k_in in omega (arith, p.0, e)))
    (All-map (λ v. v ≢ 0) held m.latches (λ k d k_in e. let p = latches_even m h k d k_in in omega (arith, p.0, e))))
    (All-map (λ v. v ≢ 0) left m.gates (λ k d k_in e. let p = lefts_even m h k d k_in in omega (arith, p.0, e)))

pub Filled-agrees : (m : Parts) (st ins w0 w1 w2 w : List Bool) → IsWellFormed m → Filled m st ins w0 w1 w2 w → Agrees m w
Filled-agrees m st ins w0 w1 w2 w well h = record {
  valuation = record {
    places = h.places;
    constant = elim (Filled-defined m st ins w0 w1 w2 w h 0) [ inl found ↦ absurd (All-contains (λ v. v ≢ 0) (defined m) 0 (defined_nonzero m well) found refl) | inr off ↦ off ];
    defined_only = λ v on. elim (Filled-defined m st ins w0 w1 w2 w h v) [ inl found ↦ found | inr off ↦ let no : ⊥ = cc (on, off) in absurd no ];
  };
  gates = h.gates_fire;
}

pub Filled-state : (m : Parts) (st ins w0 w1 w2 w : List Bool) → IsWellFormed m → length st ≡ length m.latches → Filled m st ins w0 w1 w2 w → state_of m w ≡ st
Filled-state m st ins w0 w1 w2 w well len h =
    let read : Latch → Bool = λ l. value_of w l.lit in
    let blank : Latch = record { lit = record { 0 = 0 }; next = record { 0 = 0 }; reset = record { 0 = 0 } } in
    ext_get_or false (map read m.latches) st (length-map m.latches read ∙ sym len)
    (λ i i_in. let i_latch : i < length m.latches = omega (arith, length-map m.latches read) in
    let even = latches_even m well i blank i_latch in
    get_or-map read m.latches i blank false i_latch ∙ value_of-even w (get_or m.latches i blank).lit even.1
    ∙ Filled-latch m st ins w0 w1 w2 w well.defined_once h i blank i_latch)

pub Filled-inputs : (m : Parts) (st ins w0 w1 w2 w : List Bool) → IsWellFormed m → length ins ≡ length m.inputs → Filled m st ins w0 w1 w2 w → inputs_of m w ≡ ins
Filled-inputs m st ins w0 w1 w2 w well len h =
    let blank : Lit = record { 0 = 0 } in
    ext_get_or false (map (value_of w) m.inputs) ins (length-map m.inputs (value_of w) ∙ sym len)
    (λ i i_in. let i_input : i < length m.inputs = omega (arith, length-map m.inputs (value_of w)) in
    let even = inputs_even m well i blank i_input in
    get_or-map (value_of w) m.inputs i blank false i_input ∙ value_of-even w (get_or m.inputs i blank) even.1
    ∙ Filled-input m st ins w0 w1 w2 w well.defined_once h i blank i_input)

-- two agreeing valuations of one state and the same inputs
pub record AreAlike (m : Parts) (w x : List Bool) : Type 0 where
  pub first : Agrees m w
  pub second : Agrees m x
  pub states : state_of m w ≡ state_of m x
  pub inputs_same : inputs_of m w ≡ inputs_of m x

pub same_at_inputs : (m : Parts) (w x : List Bool) → IsWellFormed m → AreAlike m w x → All (λ v. place w v ≡ place x v) (map variable m.inputs)
same_at_inputs m w x well h = All-map (λ v. place w v ≡ place x v) variable m.inputs (λ k d k_in.
    let even = inputs_even m well k d k_in in
    let a : Lit = get_or m.inputs k d in
    sym (value_of-even w a even.1) ∙ sym (get_or-map (value_of w) m.inputs k d false k_in) ∙ ap (λ q. get_or q k false) h.inputs_same
    ∙ get_or-map (value_of x) m.inputs k d false k_in ∙ value_of-even x a even.1)

pub same_at_latches : (m : Parts) (w x : List Bool) → IsWellFormed m → AreAlike m w x → All (λ v. place w v ≡ place x v) (map held m.latches)
same_at_latches m w x well h = All-map (λ v. place w v ≡ place x v) held m.latches (λ k d k_in.
    let even = latches_even m well k d k_in in
    let a : Lit = (get_or m.latches k d).lit in
    sym (value_of-even w a even.1) ∙ sym (get_or-map (λ l. value_of w l.lit) m.latches k d false k_in) ∙ ap (λ q. get_or q k false) h.states
    ∙ get_or-map (λ l. value_of x l.lit) m.latches k d false k_in ∙ value_of-even x a even.1)

pub value_of-same : (w x : List Bool) (a : Lit) → place w (variable a) ≡ place x (variable a) → value_of w a ≡ value_of x a
value_of-same w x a e = rw e refl

-- a literal that the gate at n reads has the same value_of, where the gates before have
pub same_at_read : (m : Parts) (order : List ℕ) (w x : List Bool) (n : ℕ) (d : Gate) (v : ℕ) → IsModel m order → AreAlike m w x → n < length order →
    ((k : ℕ) → k < n → place w (left (gate_in m.gates order k d)) ≡ place x (left (gate_in m.gates order k d))) →
    Reads (gate_in m.gates order n d) v → (v ≡ 0) ⊎ Contains (defined m) v → place w v ≡ place x v
same_at_read m order w x n d v model h n_in before reads known = elim known [
  | inl constant ↦ subst (λ q. place w q ≡ place x q) (sym constant) (h.first.valuation.constant ∙ sym h.second.valuation.constant)
  | inr found ↦ elim (Contains-append_cases (map variable m.inputs ++ map held m.latches) (map left m.gates) v found) [
    | inl outside ↦ elim (Contains-append_cases (map variable m.inputs) (map held m.latches) v outside) [
      | inl input ↦ All-contains (λ q. place w q ≡ place x q) (map variable m.inputs) v (same_at_inputs m w x model.well_formed h) input
      | inr latch ↦ All-contains (λ q. place w q ≡ place x q) (map held m.latches) v (same_at_latches m w x model.well_formed h) latch
    ]
    | inr gate ↦
        let i_in : gate.0 < length m.gates = omega (arith, gate.1, length-map m.gates left) in
        let at = model.ordered.each gate.0 i_in in
        let is_i : get_or order at.0 0 ≡ gate.0 = get_or_default order at.0 0 gate.0 at.1 ∙ at.2 in
        let is_v : left (gate_in m.gates order at.0 d) ≡ v = ap (λ q. left (get_or m.gates q d)) is_i ∙ sym (get_or-map left m.gates gate.0 d v i_in) ∙ gate.2 in
        let earlier : at.0 < n = model.ordered.after n at.0 d n_in at.1 (subst (Reads (gate_in m.gates order n d)) (sym is_v) reads) in
        subst (λ q. place w q ≡ place x q) is_v (before at.0 earlier)
  ]
]

pub same_at_gates : (m : Parts) (order : List ℕ) (w x : List Bool) (d : Gate) → IsModel m order → AreAlike m w x → (n : ℕ) → n ≤ length order →
    (k : ℕ) → k < n → place w (left (gate_in m.gates order k d)) ≡ place x (left (gate_in m.gates order k d))
same_at_gates m order w x d model h zero n_in k k_in = absurd (omega arith)
same_at_gates m order w x d model h (suc n) n_in k k_in =
    let before = same_at_gates m order w x d model h n (omega arith) in
    let at_n : n < length order = omega arith in
    let i_in : get_or order n 0 < length m.gates = model.ordered.in_range n 0 at_n in
    let g : Gate = gate_in m.gates order n d in
    let rhs0 : value_of w g.rhs0 ≡ value_of x g.rhs0 = value_of-same w x g.rhs0 (same_at_read m order w x n d (variable g.rhs0) model h at_n before (inl refl)
    (rights0 (λ a. (variable a ≡ 0) ⊎ Contains (defined m) (variable a)) m model.well_formed.used_defined (get_or order n 0) d i_in)) in
    let rhs1 : value_of w g.rhs1 ≡ value_of x g.rhs1 = value_of-same w x g.rhs1 (same_at_read m order w x n d (variable g.rhs1) model h at_n before (inr refl)
    (rights1 (λ a. (variable a ≡ 0) ⊎ Contains (defined m) (variable a)) m model.well_formed.used_defined (get_or order n 0) d i_in)) in
    let even = lefts_even m model.well_formed (get_or order n 0) d i_in in
    let here : place w (left g) ≡ place x (left g) =
    sym (value_of-even w g.lhs even.1) ∙ h.first.gates (get_or order n 0) d i_in ∙ (rw (rhs0, rhs1) refl) ∙ sym (h.second.gates (get_or order n 0) d i_in) ∙ value_of-even x g.lhs even.1 in
    elim (cases_lt k n) [ inl earlier ↦ before k earlier | inr last ↦ let is_n : k ≡ n = omega arith in subst (λ q. place w (left (gate_in m.gates order q d)) ≡ place x (left (gate_in m.gates order q d))) (sym is_n) here ]

pub same_at_defined : (m : Parts) (order : List ℕ) (w x : List Bool) (v : ℕ) → IsModel m order → AreAlike m w x → Contains (defined m) v → place w v ≡ place x v
same_at_defined m order w x v model h found =
    let blank : Gate = record { lhs = record { 0 = 0 }; rhs0 = record { 0 = 0 }; rhs1 = record { 0 = 0 } } in
    elim (Contains-append_cases (map variable m.inputs ++ map held m.latches) (map left m.gates) v found) [
      | inl outside ↦ elim (Contains-append_cases (map variable m.inputs) (map held m.latches) v outside) [
        | inl input ↦ All-contains (λ q. place w q ≡ place x q) (map variable m.inputs) v (same_at_inputs m w x model.well_formed h) input
        | inr latch ↦ All-contains (λ q. place w q ≡ place x q) (map held m.latches) v (same_at_latches m w x model.well_formed h) latch
      ]
      | inr gate ↦
          let i_in : gate.0 < length m.gates = omega (arith, gate.1, length-map m.gates left) in
          let at = model.ordered.each gate.0 i_in in
          let is_i : get_or order at.0 0 ≡ gate.0 = get_or_default order at.0 0 gate.0 at.1 ∙ at.2 in
          let is_v : left (gate_in m.gates order at.0 blank) ≡ v = ap (λ q. left (get_or m.gates q blank)) is_i ∙ sym (get_or-map left m.gates gate.0 blank v i_in) ∙ gate.2 in
          subst (λ q. place w q ≡ place x q) is_v (same_at_gates m order w x blank model h (length order) (omega arith) at.0 at.1)
    ]

-- at most one valuation agrees with a state and inputs
pub alike_same : (m : Parts) (order : List ℕ) (w x : List Bool) → IsModel m order → AreAlike m w x → w ≡ x
alike_same m order w x model h = ext_get_or false w x (h.first.valuation.places ∙ sym h.second.valuation.places) (λ v v_in.
    elim (true_or_false (place w v)) [
      | inl on ↦ same_at_defined m order w x v model h (h.first.valuation.defined_only v on)
      | inr off ↦ elim (true_or_false (place x v)) [
        | inl on ↦ same_at_defined m order w x v model h (h.second.valuation.defined_only v on)
        | inr also_off ↦ off ∙ sym also_off
      ]
    ])
