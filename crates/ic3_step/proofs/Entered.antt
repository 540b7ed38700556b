-- The table of the gates as a part has them.
use Rattle.std.proofs.Common.{◌≡◌, ◌≢◌, ℕ, ◌+◌, ◌<◌, Bool, List, [], ◌∷◌, length, map, set, get_or, Option, None, Some, inl, inr, arith, All, Contains, ◌∙◌, sym, subst, refl, below_more, get_or-set_same, get_or-set_other, length-set}
use Rattle.std.specs.Prelude.{filter_map}
use Rattle.std.specs.List.{cons_option}
use Rattle.std.proofs.lemmas.Bool.{cases_eq}
use Rattle.std.proofs.lemmas.List.{get_or_default}
use Rattle.std.proofs.lemmas.List.Elements.{Contains-get_or, All-contains, All-cons, All-nil}
use Rattle.graph.specs.declared.circuit.Gate.{Gate}
use Rattle.graph.specs.declared.parts.Parts.{Parts}
use Rattle.graph.proofs.Evaluation.{IsOnce, All-left, All-right}
use Rattle.graph.proofs.Gates.{left, apart_at}
use Rattle.cones.specs.Reach.{IsGateTable, gate_at, gates_in}
use Rattle.cones.proofs.Tabled.{blank}
use Rattle.solver.specs.declared.part.AndGate.{AndGate}
use Rattle.solver.specs.Parts.{IsAnd}
use Rattle.ic3_step.specs.Queries.{and_gate, IsSameAnd, and_at, ands_in, HasAnd, ArePartGates}

-- the first k gates are in the table
pub record AreEntered (gates : List Gate) (n : ℕ) (table : List (Option AndGate)) (k : ℕ) : Type 0 where
  pub places : length table ≡ n + 1
  pub so_far : (i : ℕ) → i < k → HasAnd n table (get_or gates i blank)
  pub only : (v : ℕ) (a : AndGate) → and_at table v ≡ Some a → (g : Gate) × Contains gates g × (left g ≡ v)

pub entered_more : (gates : List Gate) (n : ℕ) (table : List (Option AndGate)) (k : ℕ) (a : AndGate) → IsOnce (map left gates) → k < length gates → left (get_or gates k blank) < n + 1 →
    IsSameAnd a (and_gate n (get_or gates k blank)) → AreEntered gates n table k → AreEntered gates n (set table (left (get_or gates k blank)) (Some a)) (k + 1)
entered_more gates n table k a once k_in inside same h =
    let g : Gate = get_or gates k blank in
    let new : List (Option AndGate) = set table (left g) (Some a) in
    let v_in : left g < length table = omega (arith, inside, h.places) in
    let here : and_at new (left g) ≡ Some a = get_or-set_same table (left g) (Some a) None v_in in
    record {
      places = length-set table (left g) (Some a) ∙ h.places;
      so_far = below_more _ _
          (λ i i_in.
          let before : HasAnd n table (get_or gates i blank) = h.so_far i i_in in
          let apart : left (get_or gates i blank) ≢ left g = apart_at left gates i k blank once (omega arith) k_in (λ e. omega arith) in
          (before.0, get_or-set_other table (left g) (left (get_or gates i blank)) (Some a) None apart ∙ before.1, before.2))
          (a, here, same);
      only = λ v x e. elim (cases_eq v (left g)) [
        | inl is ↦ (g, Contains-get_or gates k blank k_in, sym is)
        | inr apart ↦ h.only v x (sym (get_or-set_other table (left g) v (Some a) None apart) ∙ e)
      ];
    }

pub entered_all : (m : Parts) (table : List (Option AndGate)) (k : ℕ) → k ≡ length m.gates → AreEntered m.gates m.max_var table k → ArePartGates m table
entered_all m table k is h = record {
  gates = λ i d i_in. subst (HasAnd m.max_var table) (get_or_default m.gates i blank d i_in) (h.so_far i (omega arith));
  only = h.only;
}

some_is : {Y : Type 0} (x y : Y) → Some x ≡ Some y → x ≡ y
some_is x y e = cc

none_is : {Y : Type 0} (y : Y) → None ≡ Some y → ⊥
none_is y e = cc

-- what holds of all that is found
found_first : {Y : Type 0} (P : Y → Type 0) (o : Option Y) (ys : List Y) → All P (cons_option o ys) → (y : Y) → o ≡ Some y → P y
found_first P None ys all y e = absurd (none_is y e)
found_first P (Some x) ys all y e = subst P (some_is x y e) (All-left P (x ∷ []) ys all 0 x (omega arith))

found_rest : {Y : Type 0} (P : Y → Type 0) (o : Option Y) (ys : List Y) → All P (cons_option o ys) → All P ys
found_rest P None ys all = all
found_rest P (Some x) ys all = All-right P (x ∷ []) ys all

found_both : {Y : Type 0} (P : Y → Type 0) (o : Option Y) (ys : List Y) → ((y : Y) → o ≡ Some y → P y) → All P ys → All P (cons_option o ys)
found_both P None ys first rest = rest
found_both P (Some x) ys first rest = All-cons P x ys (first x refl) rest

-- where each that the second finds has one of the first's that it follows from
each_found : {X Y Z : Type 0} (f : X → Option Y) (h : X → Option Z) (P : Y → Type 0) (Q : Z → Type 0) (xs : List X) → ((x : X) (z : Z) → h x ≡ Some z → (y : Y) × (f x ≡ Some y) × (P y → Q z)) →
    All P (filter_map f xs) → All Q (filter_map h xs)
each_found f h P Q [] law all = All-nil Q
each_found f h P Q (x ∷ xs) law all =
    found_both Q (h x) (filter_map h xs)
    (λ z e. let of = law x z e in of.2 (found_first P (f x) (filter_map f xs) all of.0 of.1))
    (each_found f h P Q xs law (found_rest P (f x) (filter_map f xs) all))

-- the one that a gate of the circuit has, at a variable that is the gate's
and_there : (m : Parts) (ands : List (Option AndGate)) (g : Gate) (x : ℕ) → ArePartGates m ands → Contains m.gates g → left g ≡ x →
    (a : AndGate) × (and_at ands x ≡ Some a) × IsSameAnd a (and_gate m.max_var g)
and_there m ands g x are at is =
    let has : HasAnd m.max_var ands g = All-contains (HasAnd m.max_var ands) m.gates g are.gates at in
    (has.0, subst (λ u. and_at ands u ≡ Some has.0) is has.1, has.2)

-- the listed gates have their values where those of the circuit have
pub ands_to : (m : Parts) (table : List (Option Gate)) (ands : List (Option AndGate)) (list : List ℕ) (v : ℕ → Bool) → IsGateTable m table → ArePartGates m ands →
    All (IsAnd v) (ands_in ands list) → All (λ g. IsAnd v (and_gate m.max_var g)) (gates_in table list)
ands_to m table ands list v is are all =
    each_found (and_at ands) (gate_at table) (IsAnd v) (λ (g : Gate). IsAnd v (and_gate m.max_var g)) list
    (λ x g e.
    let at = is.only x g e in
    let has = and_there m ands g x are at.0 at.1 in
    (has.0, has.1, has.2.gate v))
    all

pub ands_from : (m : Parts) (table : List (Option Gate)) (ands : List (Option AndGate)) (list : List ℕ) (v : ℕ → Bool) → IsGateTable m table → ArePartGates m ands →
    All (λ g. IsAnd v (and_gate m.max_var g)) (gates_in table list) → All (IsAnd v) (ands_in ands list)
ands_from m table ands list v is are all =
    each_found (gate_at table) (and_at ands) (λ (g : Gate). IsAnd v (and_gate m.max_var g)) (IsAnd v) list
    (λ x a e.
    let of = are.only x a e in
    let g : Gate = of.0 in
    let has = and_there m ands g x are of.1 of.2 in
    let here : gate_at table (left g) ≡ Some g = All-contains (λ (y : Gate). gate_at table (left y) ≡ Some y) m.gates g is.gates of.1 in
    let same : has.0 ≡ a = some_is has.0 a (sym has.1 ∙ e) in
    (g, subst (λ u. gate_at table u ≡ Some g) of.2 here, λ p. subst (IsAnd v) same (has.2.same v p)))
    all
