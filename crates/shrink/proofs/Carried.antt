-- One gate more is carried over.
use Rattle.std.proofs.Common.{◌≡◌, ◌≢◌, ℕ, ◌+◌, ◌-◌, ◌*◌, ◌%◌, ◌<◌, ◌≤◌, ◌&&◌, Bool, true, false, not, if◌then◌else◌, List, ◌++◌, map, set, length, get_or, All, Contains, ◌⊎◌, inl, inr, refl, sym, ◌∙◌, ap, subst, arith, length-append, get_or-set_same, get_or-set_other, length-set}
use Rattle.std.proofs.lemmas.Bool.{cases_eq, cases_lt, eq-eqb, ne_eqb}
use Rattle.std.proofs.lemmas.List.{get_or-map, length-map, get_or_default}
use Rattle.std.proofs.lemmas.List.Elements.{Contains-append_cases, Contains-get_or}
use Rattle.graph.specs.declared.circuit.Lit.{Lit}
use Rattle.graph.specs.declared.circuit.Gate.{Gate}
use Rattle.graph.specs.declared.parts.Parts.{Parts}
use Rattle.graph.specs.Circuits.{Valuation, variable, place, value_of, defined, Fires}
use Rattle.graph.specs.WellFormed.{IsModel, gate_in, Reads}
use Rattle.graph.proofs.Evaluation.{held, once-across, rights0, rights1, lefts_even, lefts_in_range, All-left}
use Rattle.graph.proofs.Gates.{left, value_of-even}
use Rattle.shrink.specs.Hashed.{turned, image_of, renamed, IsBase, no_gate, IsCarried, AreCarried}
use Rattle.shrink.specs.Making.{Follows, IsConjunction, Grows}

-- the position of the gate at n is one
gate_at : (m : Parts) (order : List ℕ) (n : ℕ) → IsModel m order → n < length order → get_or order n 0 < length m.gates
gate_at m order n model n_in = model.ordered.in_range n 0 n_in

-- what the gate at n reads was carried over
pub reads_carried : (m : Parts) (order : List ℕ) (n v : ℕ) → IsModel m order → n < length order → Reads (gate_in m.gates order n no_gate) v → (v ≡ 0) ⊎ Contains (defined m) v →
    IsCarried m order n v
reads_carried m order n v model n_in reads known = elim known [
  | inl constant ↦ inl (inl constant)
  | inr found ↦ elim (Contains-append_cases (map variable m.inputs ++ map held m.latches) (map left m.gates) v found) [
    | inl outside ↦ inl (inr outside)
    | inr gate ↦
        let i_in : gate.0 < length m.gates = omega (arith, gate.1, length-map m.gates left) in
        let at = model.ordered.each gate.0 i_in in
        let is_i : get_or order at.0 0 ≡ gate.0 = get_or_default order at.0 0 gate.0 at.1 ∙ at.2 in
        let is_v : left (gate_in m.gates order at.0 no_gate) ≡ v = ap (λ q. left (get_or m.gates q no_gate)) is_i ∙ sym (get_or-map left m.gates gate.0 no_gate v i_in) ∙ gate.2 in
        let earlier : at.0 < n = model.ordered.after n at.0 no_gate n_in at.1 (subst (Reads (gate_in m.gates order n no_gate)) (sym is_v) reads) in
        inr (at.0, earlier, is_v)
  ]
]

pub left_carried : (m : Parts) (order : List ℕ) (n : ℕ) → IsModel m order → n < length order → IsCarried m order n (variable (gate_in m.gates order n no_gate).rhs0)
left_carried m order n model n_in =
    reads_carried m order n (variable (gate_in m.gates order n no_gate).rhs0) model n_in (inl refl)
    (rights0 (λ a. (variable a ≡ 0) ⊎ Contains (defined m) (variable a)) m model.well_formed.used_defined (get_or order n 0) no_gate (gate_at m order n model n_in))

pub right_carried : (m : Parts) (order : List ℕ) (n : ℕ) → IsModel m order → n < length order → IsCarried m order n (variable (gate_in m.gates order n no_gate).rhs1)
right_carried m order n model n_in =
    reads_carried m order n (variable (gate_in m.gates order n no_gate).rhs1) model n_in (inr refl)
    (rights1 (λ a. (variable a ≡ 0) ⊎ Contains (defined m) (variable a)) m model.well_formed.used_defined (get_or order n 0) no_gate (gate_at m order n model n_in))

-- no base is a gate's left side
base_apart : (m : Parts) (order : List ℕ) (n v : ℕ) → IsModel m order → n < length order → IsBase m v → left (gate_in m.gates order n no_gate) ≢ v
base_apart m order n v model n_in base same =
    let i_in = gate_at m order n model n_in in
    let among : Contains (map left m.gates) v =
    subst (Contains (map left m.gates)) (get_or-map left m.gates (get_or order n 0) no_gate 0 i_in ∙ same) (Contains-get_or (map left m.gates) (get_or order n 0) 0 (omega (arith, length-map m.gates left))) in
    elim base [
      | inl constant ↦ let even = lefts_even m model.well_formed (get_or order n 0) no_gate i_in in let two = even.0 in omega arith
      | inr found ↦ once-across (map variable m.inputs ++ map held m.latches) (map left m.gates) v model.well_formed.defined_once found among
    ]

-- literals of one variable, one of them negated
flipped : (x : Valuation) (a b : Lit) → variable a ≡ variable b → a.0 % 2 ≡ 1 → b.0 % 2 ≢ 1 → value_of x a ≡ not (value_of x b)
flipped x a b same odd even =
    rw (eq-eqb (a.0 % 2) 1 odd, ne_eqb (b.0 % 2) 1 even) (ap (λ v. not (place x v)) same)

not_not : (b : Bool) → not (not b) ≡ b
not_not true = refl
not_not false = refl

-- a literal's negation has the other value
turned_value : (x : Valuation) (a : Lit) → value_of x (turned a) ≡ not (value_of x a)
turned_value x a = elim (cases_eq (a.0 % 2) 1) [
  | inl odd ↦
      let b : Lit = record { 0 = a.0 - 1 } in
      let even : b.0 % 2 ≢ 1 = λ e. omega arith in
      let same : variable a ≡ variable b = omega arith in
      let one : value_of x a ≡ not (value_of x b) = flipped x a b same odd even in
      ap (λ t. value_of x (if t then b else record { 0 = a.0 + 1 })) (eq-eqb (a.0 % 2) 1 odd) ∙ sym (not_not (value_of x b)) ∙ ap not (sym one)
  | inr even ↦
      let b : Lit = record { 0 = a.0 + 1 } in
      let odd : b.0 % 2 ≡ 1 = omega arith in
      let same : variable b ≡ variable a = omega arith in
      ap (λ t. value_of x (if t then record { 0 = a.0 - 1 } else b)) (ne_eqb (a.0 % 2) 1 even) ∙ flipped x b a same odd even
]

-- what a literal is carried to has its value
pub renamed_value : (w x : Valuation) (image : List Lit) (a : Lit) → place w (variable a) ≡ value_of x (image_of image (variable a)) → value_of w a ≡ value_of x (renamed image a)
renamed_value w x image a same = elim (cases_eq (a.0 % 2) 1) [
  | inl odd ↦ rw (eq-eqb (a.0 % 2) 1 odd) (ap not same ∙ sym (turned_value x (image_of image (variable a))))
  | inr even ↦ rw (ne_eqb (a.0 % 2) 1 even) same
]

turned_below : (n : ℕ) (a : Lit) → a.0 < 2 * n → (turned a).0 < 2 * n
turned_below n a below = elim (cases_eq (a.0 % 2) 1) [
  | inl odd ↦ rw (eq-eqb (a.0 % 2) 1 odd) (omega arith)
  | inr even ↦ rw (ne_eqb (a.0 % 2) 1 even) (omega arith)
]

pub renamed_below : (n : ℕ) (image : List Lit) (a : Lit) → (image_of image (variable a)).0 < 2 * n → (renamed image a).0 < 2 * n
renamed_below n image a below = elim (cases_eq (a.0 % 2) 1) [
  | inl odd ↦ rw (eq-eqb (a.0 % 2) 1 odd) (turned_below n (image_of image (variable a)) below)
  | inr even ↦ rw (ne_eqb (a.0 % 2) 1 even) below
]

-- what follows more gates follows the first of them
follows_less : (before after : List Gate) (x : Valuation) → Grows before after → Follows after x → Follows before x
follows_less before after x grows follows = record {
  constant = follows.constant;
  fires = All-left (Fires x) before grows.0 (subst (All (Fires x)) grows.1 follows.fires);
}

grown_long : (before after : List Gate) → Grows before after → (length before ≤ length after) × (length after ≤ length before + 1)
grown_long before after grows =
    let long : length after ≡ length before + length grows.0 = ap length grows.1 ∙ length-append before grows.0 in
    let one : length grows.0 ≤ 1 = grows.2 in
    (omega arith, omega arith)

-- a variable that is carried at n + 1 is the gate's at n, or was before
carried_cases : (m : Parts) (order : List ℕ) (n v : ℕ) → IsCarried m order (n + 1) v → (left (gate_in m.gates order n no_gate) ≡ v) ⊎ IsCarried m order n v
carried_cases m order n v (inl base) = inr (inl base)
carried_cases m order n v (inr (k, k_in, at)) = elim (cases_lt k n) [
  | inl earlier ↦ inr (inr (k, earlier, at))
  | inr last ↦ let is : k ≡ n = omega arith in inl (subst (λ q. left (gate_in m.gates order q no_gate) ≡ v) is at)
]

-- one gate more: its variable is carried to the conjunction of what its right sides are carried to
pub carried_more : (m : Parts) (order : List ℕ) (first : ℕ) (begin image : List Lit) (gs hs : List Gate) (n u : ℕ) (c : Lit) → IsModel m order → n < length order →
    AreCarried m order first begin gs image n → Grows gs hs → u ≡ left (gate_in m.gates order n no_gate) → c.0 < 2 * (first + length hs) →
    IsConjunction hs (renamed image (gate_in m.gates order n no_gate).rhs0) (renamed image (gate_in m.gates order n no_gate).rhs1) c →
    AreCarried m order first begin hs (set image u c) (n + 1)
carried_more m order first begin image gs hs n u c model n_in carried grows is_left below conjunction =
    let g : Gate = gate_in m.gates order n no_gate in
    let i_in = gate_at m order n model n_in in
    let long = grown_long gs hs grows in
    let u_in : u < length image = (let range = lefts_in_range m model.well_formed (get_or order n 0) no_gate i_in in let whole = carried.whole in omega (arith, is_left)) in
    let here : image_of (set image u c) u ≡ c = get_or-set_same image u c (record { 0 = 0 }) u_in in
    let other : (v : ℕ) → u ≢ v → image_of (set image u c) v ≡ image_of image v = λ v apart. get_or-set_other image u v c (record { 0 = 0 }) (λ e. apart (sym e)) in
    record {
      whole = length-set image u c ∙ carried.whole;
      kept = λ v base. other v (λ e. base_apart m order n v model n_in base (sym is_left ∙ e)) ∙ carried.kept v base;
      few = let few = carried.few in omega (arith, long.1);
      below = λ v is. elim (cases_eq u v) [
        | inl same ↦ subst (λ q. (image_of (set image u c) q).0 < 2 * (first + length hs)) same (rw here below)
        | inr apart ↦ elim (carried_cases m order n v is) [
          | inl last ↦ absurd (apart (is_left ∙ last))
          | inr before ↦ rw (other v apart) (let old = carried.below v before in omega (arith, long.0))
        ]
      ];
      same = λ w x agrees follows begins v is.
          let old : (v : ℕ) → IsCarried m order n v → place w v ≡ value_of x (image_of image v) = carried.same w x agrees (follows_less gs hs x grows follows) begins in
          elim (cases_eq u v) [
            | inl same ↦
                let even = lefts_even m model.well_formed (get_or order n 0) no_gate i_in in
                let fires : value_of w g.lhs ≡ (value_of w g.rhs0 && value_of w g.rhs1) = agrees.gates (get_or order n 0) no_gate i_in in
                let rhs0 = renamed_value w x image g.rhs0 (old (variable g.rhs0) (left_carried m order n model n_in)) in
                let rhs1 = renamed_value w x image g.rhs1 (old (variable g.rhs1) (right_carried m order n model n_in)) in
                let at_left : place w (left g) ≡ value_of x c =
                sym (value_of-even w g.lhs even.1) ∙ fires ∙ ap (λ b. b && value_of w g.rhs1) rhs0 ∙ ap (λ b. value_of x (renamed image g.rhs0) && b) rhs1 ∙ sym (conjunction x follows) in
                ap (place w) (sym same ∙ is_left) ∙ at_left ∙ ap (value_of x) (sym here ∙ ap (image_of (set image u c)) same)
            | inr apart ↦ elim (carried_cases m order n v is) [
              | inl last ↦ absurd (apart (is_left ∙ last))
              | inr before ↦ old v before ∙ ap (value_of x) (sym (other v apart))
            ]
          ];
    }
