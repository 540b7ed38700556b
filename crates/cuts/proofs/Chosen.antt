-- The cuts of the gates that were chosen so far.
use Rattle.std.proofs.Common.{◌≡◌, ℕ, ◌+◌, ◌++◌, ◌*◌, ◌<◌, ◌≤◌, ◌⊎◌, ◌&&◌, List, Option, Some, None, IfSome, map, length, set, get_or, inl, inr, refl, sym, ◌∙◌, ap, subst, arith, All, Contains, get_or-set_same, get_or-set_other}
use Rattle.std.proofs.lemmas.Bool.{cases_eq}
use Rattle.std.proofs.lemmas.List.{get_or_default, get_or-map, length-map, length-set}
use Rattle.std.proofs.lemmas.List.Elements.{Contains-append_cases}
use Rattle.graph.specs.declared.circuit.Lit.{Lit}
use Rattle.graph.specs.declared.circuit.Gate.{Gate}
use Rattle.graph.specs.declared.parts.Parts.{Parts}
use Rattle.graph.specs.Circuits.{Valuation, variable, place, value_of, defined, Agrees}
use Rattle.graph.specs.WellFormed.{IsWellFormed, IsOrder, Reads, gate_in}
use Rattle.graph.proofs.Evaluation.{Contains-map, held, once-right, lefts_even, rights0, rights1}
use Rattle.graph.proofs.Gates.{left, value_of-even, apart_at}
use Rattle.truth_tables.proofs.Tabled.{value_first}
use Rattle.cuts.specs.declared.cut.Cut.{Cut}
use Rattle.cuts.specs.Cuts.{AreCuts, IsBefore, IsCutOf, IsLeaf, cut_at, left_in, no_cut, no_gate}
use Rattle.cuts.proofs.Joined.{joined_inside}
use Rattle.cuts.specs.Joining.{IsChosen, IsInside, IsJoined, IsSide, side_of, trivial}

-- v is a gate's, and in each order of the gates u comes before it
abbrev pub Precedes : Parts → ℕ → ℕ → Type 0
Precedes m v u = Contains (map left m.gates) v × ((order : List ℕ) (n : ℕ) → IsOrder m.gates order → n < length order → left_in m order n ≡ v → IsBefore m order n u)

-- a cut of the variable, of which each leaf is the variable itself, the constant, or comes before it
pub record IsFine (m : Parts) (v : ℕ) (c : Cut) : Type 0 where
  pub cut : IsCutOf m v c
  pub range : (u : ℕ) → IsLeaf c u → u ≤ m.max_var
  pub leaves : (u : ℕ) → IsLeaf c u → (u ≡ v) ⊎ (u ≡ 0) ⊎ Precedes m v u

-- the first n gates of the order have cuts of which each leaf comes before them
pub record IsChosenTo (m : Parts) (order : List ℕ) (cuts : List Cut) (n : ℕ) : Type 0 where
  pub places : length cuts ≡ m.max_var + 1
  pub each : (v : ℕ) → v ≤ m.max_var → IsFine m v (cut_at cuts v)
  pub done : (k : ℕ) → k < n → (u : ℕ) → IsLeaf (cut_at cuts (left_in m order k)) u → Precedes m (left_in m order k) u

-- ---- the variable itself

pub trivial_leaf : (v u : ℕ) → IsLeaf (trivial v) u → (u ≡ v) ⊎ (u ≡ 0)
trivial_leaf v u (inl here) = inl (sym here)
trivial_leaf v u (inr (inl zero)) = inr (sym zero)
trivial_leaf v u (inr (inr (inl zero))) = inr (sym zero)
trivial_leaf v u (inr (inr (inr zero))) = inr (sym zero)

pub trivial_inside : (v n : ℕ) → v < n → IsInside n (trivial v)
trivial_inside v n v_in u leaf = elim (trivial_leaf v u leaf) [ inl here ↦ omega (arith, here, v_in) | inr zero ↦ omega (arith, zero, v_in) ]

trivial_fine : (m : Parts) (v : ℕ) → v ≤ m.max_var → IsFine m v (trivial v)
trivial_fine m v v_in = record {
  cut = λ w agrees. sym (value_first (place w v) (place w 0) (place w 0) (place w 0));
  range = λ u leaf. elim (trivial_leaf v u leaf) [ inl here ↦ omega (arith, here, v_in) | inr zero ↦ omega (arith, zero, v_in) ];
  leaves = λ u leaf. elim (trivial_leaf v u leaf) [ inl here ↦ inl here | inr zero ↦ inr (inl zero) ];
}

-- one variable more that has itself as its cut
pub trivial_more : (cuts : List Cut) (n v : ℕ) (c : Cut) → v < n → c ≡ trivial v → (length cuts ≡ n) × ((u : ℕ) → u < v → cut_at cuts u ≡ trivial u) →
    (length (set cuts v c) ≡ n) × ((u : ℕ) → u < v + 1 → cut_at (set cuts v c) u ≡ trivial u)
trivial_more cuts n v c v_in is h = (
  length-set cuts v c ∙ h.0,
  λ u u_in. elim (cases_eq u v) [
    | inl same ↦ subst (λ q. cut_at (set cuts v c) q ≡ trivial q) (sym same) (get_or-set_same cuts v c no_cut (omega (arith, v_in, h.0)) ∙ is)
    | inr apart ↦ get_or-set_other cuts v u c no_cut apart ∙ h.1 u (omega (arith, u_in, apart))
  ],
)

pub chosen_none : (m : Parts) (order : List ℕ) (cuts : List Cut) → length cuts ≡ m.max_var + 1 → ((v : ℕ) → v ≤ m.max_var → cut_at cuts v ≡ trivial v) → IsChosenTo m order cuts 0
chosen_none m order cuts places each = record {
  places = places;
  each = λ v v_in. subst (IsFine m v) (sym (each v v_in)) (trivial_fine m v v_in);
  done = λ k k_in. absurd (omega (arith, k_in));
}

-- ---- what comes before a gate

-- where a gate's variable stands in the order
order_place : (m : Parts) (order : List ℕ) (v : ℕ) → IsOrder m.gates order → Contains (map left m.gates) v → (k : ℕ) × (k < length order) × (left_in m order k ≡ v)
order_place m order v is_order gate =
    let i_in : gate.0 < length m.gates = omega (arith, gate.1, length-map m.gates left) in
    let at = is_order.each gate.0 i_in in
    let is_i : get_or order at.0 0 ≡ gate.0 = get_or_default order at.0 0 gate.0 at.1 ∙ at.2 in
    (at.0, at.1, ap (λ q. left (get_or m.gates q no_gate)) is_i ∙ sym (get_or-map left m.gates gate.0 no_gate v i_in) ∙ gate.2)

-- the gate that defines its variable is this one
the_gate : (m : Parts) (order : List ℕ) (i n : ℕ) → IsWellFormed m → IsOrder m.gates order → i < length m.gates → n < length order →
    left_in m order n ≡ left (get_or m.gates i no_gate) → gate_in m.gates order n no_gate ≡ get_or m.gates i no_gate
the_gate m order i n well is_order i_in n_in same = elim (cases_eq (get_or order n 0) i) [
  | inl is ↦ ap (λ q. get_or m.gates q no_gate) is
  | inr apart ↦ absurd (apart_at left m.gates (get_or order n 0) i no_gate (once-right (map variable m.inputs ++ map held m.latches) (map left m.gates) well.defined_once) (is_order.in_range n 0 n_in) i_in apart same)
]

-- a gate that is read stands before
place_before : (m : Parts) (order : List ℕ) (i n r : ℕ) → IsWellFormed m → IsOrder m.gates order → i < length m.gates → n < length order → left_in m order n ≡ left (get_or m.gates i no_gate) →
    Reads (get_or m.gates i no_gate) r → Contains (map left m.gates) r → (k : ℕ) × (k < n) × (k < length order) × (left_in m order k ≡ r)
place_before m order i n r well is_order i_in n_in same reads gate =
    let at = order_place m order r is_order gate in
    let reads_left : Reads (gate_in m.gates order n no_gate) (left_in m order at.0) =
    subst (λ g. Reads g (left_in m order at.0)) (sym (the_gate m order i n well is_order i_in n_in same)) (subst (Reads (get_or m.gates i no_gate)) (sym at.2) reads) in
    (at.0, is_order.after n at.0 no_gate n_in at.1 reads_left, at.1, at.2)

later : (m : Parts) (order : List ℕ) (k n u : ℕ) → k ≤ n → IsBefore m order k u → IsBefore m order n u
later m order k n u le (inl zero) = inl zero
later m order k n u le (inr (inl input)) = inr (inl input)
later m order k n u le (inr (inr (inl latch))) = inr (inr (inl latch))
later m order k n u le (inr (inr (inr (j, j_k, j_in, is)))) = inr (inr (inr (j, omega (arith, j_k, le), j_in, is)))

-- what is used is outside of the gates or a gate's
outside_or_gate : (m : Parts) (order : List ℕ) (n v : ℕ) → (v ≡ 0) ⊎ Contains (defined m) v → IsBefore m order n v ⊎ Contains (map left m.gates) v
outside_or_gate m order n v (inl zero) = inl (inl zero)
outside_or_gate m order n v (inr found) = elim (Contains-append_cases (map variable m.inputs ++ map held m.latches) (map left m.gates) v found) [
  | inl outside ↦ elim (Contains-append_cases (map variable m.inputs) (map held m.latches) v outside) [
    | inl input ↦ inl (inr (inl input))
    | inr latch ↦ inl (inr (inr (inl latch)))
  ]
  | inr gate ↦ inr gate
]

right_precedes : (m : Parts) (i r : ℕ) → IsWellFormed m → i < length m.gates → Reads (get_or m.gates i no_gate) r → (r ≡ 0) ⊎ Contains (defined m) r → Precedes m (left (get_or m.gates i no_gate)) r
right_precedes m i r well i_in reads known = (
  Contains-map left m.gates i no_gate i_in,
  λ order n is_order n_in same. elim (outside_or_gate m order n r known) [
    | inl outside ↦ outside
    | inr gate ↦ inr (inr (inr (place_before m order i n r well is_order i_in n_in same reads gate)))
  ],
)

leaf_precedes : (m : Parts) (i r u : ℕ) → IsWellFormed m → i < length m.gates → Reads (get_or m.gates i no_gate) r → Precedes m r u → Precedes m (left (get_or m.gates i no_gate)) u
leaf_precedes m i r u well i_in reads precedes = (
  Contains-map left m.gates i no_gate i_in,
  λ order n is_order n_in same.
      let at = place_before m order i n r well is_order i_in n_in same reads precedes.0 in
      later m order at.0 n u (omega (arith, at.1)) (precedes.1 order at.0 is_order at.2 at.3),
)

zero_precedes : (m : Parts) (i : ℕ) → i < length m.gates → Precedes m (left (get_or m.gates i no_gate)) 0
zero_precedes m i i_in = (Contains-map left m.gates i no_gate i_in, λ order n is_order n_in same. inl refl)

-- ---- a gate's cut

side_fine : (m : Parts) (cuts : List Cut) (r : ℕ) (c : Cut) → r ≤ m.max_var → IsFine m r (cut_at cuts r) → IsSide cuts r c → IsFine m r c
side_fine m cuts r c r_in fine (inl is) = subst (IsFine m r) (sym is) (trivial_fine m r r_in)
side_fine m cuts r c r_in fine (inr is) = subst (IsFine m r) (sym is) fine

side_leaf : (m : Parts) (i r u : ℕ) (c : Cut) → IsWellFormed m → i < length m.gates → Reads (get_or m.gates i no_gate) r → (r ≡ 0) ⊎ Contains (defined m) r →
    IsFine m r c → IsLeaf c u → Precedes m (left (get_or m.gates i no_gate)) u
side_leaf m i r u c well i_in reads known fine leaf = elim (fine.leaves u leaf) [
  | inl here ↦ subst (Precedes m (left (get_or m.gates i no_gate))) (sym here) (right_precedes m i r well i_in reads known)
  | inr rest ↦ elim rest [
    | inl zero ↦ subst (Precedes m (left (get_or m.gates i no_gate))) (sym zero) (zero_precedes m i i_in)
    | inr precedes ↦ leaf_precedes m i r u well i_in reads precedes
  ]
]

side_value : (m : Parts) (w : Valuation) (a : Lit) (c : Cut) → Agrees m w → IsFine m (variable a) c → value_of w a ≡ side_of w a c
side_value m w a c agrees fine = rw (fine.cut w agrees) refl

-- the chosen cut is one of the gate's variable, and each leaf comes before it
pub record IsGateCut (m : Parts) (v : ℕ) (c : Cut) : Type 0 where
  pub cut : IsCutOf m v c
  pub range : (u : ℕ) → IsLeaf c u → u ≤ m.max_var
  pub leaves : (u : ℕ) → IsLeaf c u → Precedes m v u

pub rights_in : (m : Parts) (i : ℕ) → IsWellFormed m → i < length m.gates → (variable (get_or m.gates i no_gate).rhs0 ≤ m.max_var) × (variable (get_or m.gates i no_gate).rhs1 ≤ m.max_var)
rights_in m i well i_in =
    let p = rights0 (λ a. a.0 ≤ 2 * m.max_var + 1) m well.used_in_range i no_gate i_in in
    let q = rights1 (λ a. a.0 ≤ 2 * m.max_var + 1) m well.used_in_range i no_gate i_in in
    (omega (arith, p), omega (arith, q))

chosen_fine : (m : Parts) (cuts : List Cut) (i : ℕ) (c : Cut) → IsWellFormed m → i < length m.gates → ((v : ℕ) → v ≤ m.max_var → IsFine m v (cut_at cuts v)) →
    IsChosen cuts (get_or m.gates i no_gate) c → IsGateCut m (left (get_or m.gates i no_gate)) c
chosen_fine m cuts i c well i_in each (one, other, first, second, joined) =
    let g : Gate = get_or m.gates i no_gate in
    let ranges = rights_in m i well i_in in
    let fine0 : IsFine m (variable g.rhs0) one = side_fine m cuts (variable g.rhs0) one ranges.0 (each (variable g.rhs0) ranges.0) first in
    let fine1 : IsFine m (variable g.rhs1) other = side_fine m cuts (variable g.rhs1) other ranges.1 (each (variable g.rhs1) ranges.1) second in
    let known0 = rights0 (λ a. (variable a ≡ 0) ⊎ Contains (defined m) (variable a)) m well.used_defined i no_gate i_in in
    let known1 = rights1 (λ a. (variable a ≡ 0) ⊎ Contains (defined m) (variable a)) m well.used_defined i no_gate i_in in
    let even = lefts_even m well i no_gate i_in in
    record {
      cut = λ w agrees.
          let both : (value_of w g.rhs0 && value_of w g.rhs1) ≡ (side_of w g.rhs0 one && side_of w g.rhs1 other) = rw (side_value m w g.rhs0 one agrees fine0, side_value m w g.rhs1 other agrees fine1) refl in
          sym (value_of-even w g.lhs even.1) ∙ agrees.gates i no_gate i_in ∙ both ∙ sym (joined.value w agrees.valuation.constant);
      range = λ u leaf. elim (joined.leaves u leaf) [
        | inl zero ↦ omega (arith, zero)
        | inr of_side ↦ elim of_side [ inl here ↦ fine0.range u here | inr here ↦ fine1.range u here ]
      ];
      leaves = λ u leaf. elim (joined.leaves u leaf) [
        | inl zero ↦ subst (Precedes m (left g)) (sym zero) (zero_precedes m i i_in)
        | inr of_side ↦ elim of_side [
          | inl here ↦ side_leaf m i (variable g.rhs0) u one well i_in (inl refl) known0 fine0 here
          | inr here ↦ side_leaf m i (variable g.rhs1) u other well i_in (inr refl) known1 fine1 here
        ]
      ];
    }

-- ---- the cuts of all

pub chosen_more : (m : Parts) (order : List ℕ) (cuts : List Cut) (n v : ℕ) (c : Cut) → IsWellFormed m → IsOrder m.gates order → n < length order → v < length cuts → left_in m order n ≡ v →
    IsChosen cuts (gate_in m.gates order n no_gate) c → IsChosenTo m order cuts n → IsChosenTo m order (set cuts v c) (n + 1)
chosen_more m order cuts n v c well is_order n_in v_in is_v chosen h =
    let i_in : get_or order n 0 < length m.gates = is_order.in_range n 0 n_in in
    let made : IsGateCut m v c = subst (λ q. IsGateCut m q c) is_v (chosen_fine m cuts (get_or order n 0) c well i_in h.each chosen) in
    let here : cut_at (set cuts v c) v ≡ c = get_or-set_same cuts v c no_cut v_in in
    let fine : IsFine m v c = record { cut = made.cut; range = made.range; leaves = λ u leaf. inr (inr (made.leaves u leaf)) } in
    record {
      places = length-set cuts v c ∙ h.places;
      each = λ u u_in. elim (cases_eq u v) [
        | inl is ↦ subst (λ q. IsFine m q (cut_at (set cuts v c) q)) (sym is) (subst (IsFine m v) (sym here) fine)
        | inr apart ↦ subst (IsFine m u) (sym (get_or-set_other cuts v u c no_cut apart)) (h.each u u_in)
      ];
      done = λ k k_in u leaf. elim (cases_eq (left_in m order k) v) [
        | inl is ↦
            let leaf_v : IsLeaf c u = subst (λ q. IsLeaf q u) here (subst (λ q. IsLeaf (cut_at (set cuts v c) q) u) is leaf) in
            subst (λ q. Precedes m q u) (sym is) (made.leaves u leaf_v)
        | inr apart ↦
            let below : k < n = elim (cases_eq k n) [ inl last ↦ absurd (apart (ap (left_in m order) last ∙ is_v)) | inr differ ↦ omega (arith, k_in, differ) ] in
            h.done k below u (subst (λ q. IsLeaf q u) (get_or-set_other cuts v (left_in m order k) c no_cut apart) leaf)
      ];
    }

pub chosen_all : (m : Parts) (order : List ℕ) (cuts : List Cut) (n : ℕ) → IsOrder m.gates order → length order ≤ n → IsChosenTo m order cuts n → AreCuts m cuts
chosen_all m order cuts n is_order past h = record {
  places = h.places;
  each = λ v v_in. (h.each v v_in).cut;
  range = λ v u v_in leaf. (h.each v v_in).range u leaf;
  before = λ other other_is k u k_in leaf.
      let there : Contains (map left m.gates) (left_in m other k) = Contains-map left m.gates (get_or other k 0) no_gate (other_is.in_range k 0 k_in) in
      let at = order_place m order (left_in m other k) is_order there in
      let leaf_at : IsLeaf (cut_at cuts (left_in m order at.0)) u = subst (λ q. IsLeaf (cut_at cuts q) u) (sym at.2) leaf in
      (h.done at.0 (omega (arith, at.1, past)) u leaf_at).1 other k other_is k_in (sym at.2);
}

-- ---- the loop's bounds

pub chosen_inside : (m : Parts) (order : List ℕ) (cuts : List Cut) (n places : ℕ) → places ≡ m.max_var + 1 → IsChosenTo m order cuts n → All (IsInside places) cuts
chosen_inside m order cuts n places is h k d k_in u leaf =
    let leaf_at : IsLeaf (cut_at cuts k) u = subst (λ q. IsLeaf q u) (get_or_default cuts k d no_cut k_in) leaf in
    let p = (h.each k (omega (arith, k_in, h.places))).range u leaf_at in
    omega (arith, p, is)

-- ---- the best of four

-- the right sides are in the table, and all leaves in it are below the bound
pub record IsTableFor (n : ℕ) (cuts : List Cut) (g : Gate) : Type 0 where
  pub places : length cuts ≡ n
  pub first : variable g.rhs0 < length cuts
  pub second : variable g.rhs1 < length cuts
  pub inside : All (IsInside n) cuts

side_inside : (n : ℕ) (cuts : List Cut) (r : ℕ) (c : Cut) → length cuts ≡ n → r < length cuts → All (IsInside n) cuts → IsSide cuts r c → IsInside n c
side_inside n cuts r c places r_in all (inl is) = subst (IsInside n) (sym is) (trivial_inside r n (omega (arith, r_in, places)))
side_inside n cuts r c places r_in all (inr is) = subst (IsInside n) (sym is) (all r no_cut r_in)

pub inside_joined : (n : ℕ) (cuts : List Cut) (g : Gate) (one other c : Cut) → IsTableFor n cuts g → IsSide cuts (variable g.rhs0) one → IsSide cuts (variable g.rhs1) other → IsJoined g one other c → IsInside n c
inside_joined n cuts g one other c table first second joined =
    joined_inside g one other c n (omega (arith, table.places, table.first)) joined
    (side_inside n cuts (variable g.rhs0) one table.places table.first table.inside first) (side_inside n cuts (variable g.rhs1) other table.places table.second table.inside second)

pub inside_some : (n : ℕ) (cuts : List Cut) (g : Gate) (one other : Cut) (o : Option Cut) → IsTableFor n cuts g → IsSide cuts (variable g.rhs0) one → IsSide cuts (variable g.rhs1) other →
    IfSome o (IsJoined g one other) → IfSome o (IsInside n)
inside_some n cuts g one other None table first second joined = tt
inside_some n cuts g one other (Some c) table first second joined = inside_joined n cuts g one other c table first second joined
