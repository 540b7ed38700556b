-- The circuit that all gates were carried over to.
use Rattle.std.proofs.Common.{◌≡◌, ◌≢◌, ℕ, zero, suc, ◌+◌, ◌*◌, ◌%◌, ◌<◌, ◌≤◌, ◌⊎◌, Bool, false, Option, List, [], ◌∷◌, ◌++◌, map, length, get_or, All, AllPairs, Contains, inl, inr, refl, sym, ◌∙◌, ap, subst, arith, length-append}
use Rattle.std.specs.Prelude.{fold, sum_by}
use Rattle.std.proofs.lemmas.Bool.{cases_eq, ne_eqb, lt-leb, eqb-true}
use Rattle.std.proofs.lemmas.Bool.Decides.{Decides-eqb}
use Rattle.std.proofs.lemmas.Simd.{map-map}
use Rattle.std.proofs.lemmas.List.{get_or-map, length-map, map-append, get_or_default, get_or-append-add}
use Rattle.std.proofs.lemmas.List.Elements.{All-cons, All-head, All-tail, All-append, All-map, All-weaker, All-contains, Contains-append_cases, Contains-append_left, Contains-append_right, Contains-get_or}
use Rattle.std.proofs.lemmas.Map.Made.{IsDistinct-from_AllPairs}
use Rattle.std.proofs.lemmas.Map.Steps.{length-le_from_distinct_below}
use Rattle.std.proofs.lemmas.Map.Views.{Contains-from_any}
use Rattle.std.proofs.lemmas.Option.{same_Some}
use Rattle.graph.specs.declared.circuit.Lit.{Lit}
use Rattle.graph.specs.declared.circuit.Gate.{Gate}
use Rattle.graph.specs.declared.circuit.Latch.{Latch}
use Rattle.graph.specs.declared.parts.Parts.{Parts}
use Rattle.graph.specs.Circuits.{Valuation, variable, place, value_of, defined, state_of, inputs_of, Agrees, IsOrdered, IsNumbered, IsDescending, HasReset, defining, justice_literals}
use Rattle.graph.specs.WellFormed.{IsWellFormed, IsModel, IsOrder, IsInLimits, used, gate_in}
use Rattle.graph.proofs.Evaluation.{held, once-left, Contains-map, All-left, All-right, All-unmap, used_outside, defined_nonzero, latches_even, latches_in_range}
use Rattle.graph.proofs.Gates.{left, value_of-even}
use Rattle.graph.proofs.Shape.{All-flat_map, All-unflat_map}
use Rattle.graph.specs.Symbols.{symbol_counts}
use Rattle.shrink.specs.Making.{AreMade, Follows, IsTable, sides}
use Rattle.shrink.specs.Hashed.{image_of, renamed, bases, AreNumbered, IsBase, IsCarried, BeginSame, AreCarried, carried_latch, carried_parts, no_gate}
use Rattle.shrink.specs.Carriable.{IsCarriable, AreCarriable}
use Rattle.shrink.specs.Shrunk.{AreApart, IsShrunk, ShowsSame, start_of}
use Rattle.shrink.proofs.Made.{blank}
use Rattle.shrink.proofs.Carried.{renamed_value, renamed_below}
use Rattle.graph.proofs.Numbered.{IsNumbered-append}
use Rattle.graph.proofs.Ordered.{numbered_even, numbered_in_range, numbered_once, numbered_all, defined_is, no_cycle_below}

-- the first variable of a gate
abbrev pub first_of : Parts → ℕ
first_of m = length (bases m) + 1

-- all gates are carried over
pub record IsDone (m : Parts) (order : List ℕ) (begin image : List Lit) (gs : List Gate) : Type 0 where
  pub model : IsModel m order
  pub numbered : AreNumbered (bases m) begin
  pub carried : AreCarried m order (first_of m) begin gs image (length order)
  pub made : AreMade (first_of m) gs
  pub apart : AllPairs AreApart gs

-- ---- inputs and latches

pub bases_vars : (m : Parts) → map variable (bases m) ≡ map variable m.inputs ++ map held m.latches
bases_vars m = map-append variable m.inputs (map (λ l. l.lit) m.latches) ∙ ap (λ vs. map variable m.inputs ++ vs) (map-map variable (λ (l : Latch). l.lit) m.latches)

base_at : (m : Parts) (k : ℕ) (d : Lit) → k < length (bases m) → IsBase m (variable (get_or (bases m) k d))
base_at m k d k_in = inr (subst (λ vs. Contains vs (variable (get_or (bases m) k d))) (bases_vars m) (Contains-map variable (bases m) k d k_in))

bases_even : (m : Parts) → IsWellFormed m → All (λ a. (2 ≤ a.0) × (a.0 % 2 ≡ 0)) (bases m)
bases_even m well = All-left (λ a. (2 ≤ a.0) × (a.0 % 2 ≡ 0)) (bases m) (map (λ g. g.lhs) m.gates) well.defining_even

image_base : (m : Parts) (order : List ℕ) (begin image : List Lit) (gs : List Gate) (k : ℕ) (d : Lit) → IsDone m order begin image gs → k < length (bases m) →
    image_of image (variable (get_or (bases m) k d)) ≡ record { 0 = 2 * (1 + k) }
image_base m order begin image gs k d done k_in = done.carried.kept (variable (get_or (bases m) k d)) (base_at m k d k_in) ∙ done.numbered.each k d k_in

-- an even literal is carried to what its variable is
renamed_even : (image : List Lit) (a : Lit) → a.0 % 2 ≡ 0 → renamed image a ≡ image_of image (variable a)
renamed_even image a even = rw (ne_eqb (a.0 % 2) 1 (λ e. omega arith)) refl

renamed_base : (m : Parts) (order : List ℕ) (begin image : List Lit) (gs : List Gate) (k : ℕ) (d : Lit) → IsDone m order begin image gs → k < length (bases m) →
    renamed image (get_or (bases m) k d) ≡ record { 0 = 2 * (1 + k) }
renamed_base m order begin image gs k d done k_in =
    renamed_even image (get_or (bases m) k d) ((bases_even m done.model.well_formed k d k_in).1) ∙ image_base m order begin image gs k d done k_in

bases_carried : (m : Parts) (image : List Lit) (gs : List Gate) → bases (carried_parts m image gs) ≡ map (renamed image) (bases m)
bases_carried m image gs =
    ap (λ ls. map (renamed image) m.inputs ++ ls) (map-map (λ (l : Latch). l.lit) (carried_latch image) m.latches ∙ sym (map-map (renamed image) (λ (l : Latch). l.lit) m.latches))
    ∙ sym (map-append (renamed image) m.inputs (map (λ l. l.lit) m.latches))

bases_length : (m : Parts) → length (bases m) ≡ length m.inputs + length m.latches
bases_length m = omega (arith, length-append m.inputs (map (λ (l : Latch). l.lit) m.latches), length-map m.latches (λ (l : Latch). l.lit))

-- ---- the numbering

bases_numbered : (m : Parts) (order : List ℕ) (begin image : List Lit) (gs : List Gate) → IsDone m order begin image gs → IsNumbered 1 (map (renamed image) (bases m))
bases_numbered m order begin image gs done k d k_in =
    let short : k < length (bases m) = omega (arith, length-map (bases m) (renamed image)) in
    ap (λ (a : Lit). a.0) (get_or-map (renamed image) (bases m) k (record { 0 = 0 }) d short ∙ renamed_base m order begin image gs k (record { 0 = 0 }) done short)

gates_numbered : (m : Parts) (gs : List Gate) → AreMade (first_of m) gs → IsNumbered (1 + length (bases m)) (map (λ g. g.lhs) gs)
gates_numbered m gs made k d k_in =
    let short : k < length gs = omega (arith, length-map gs (λ (g : Gate). g.lhs)) in
    ap (λ (a : Lit). a.0) (get_or-map (λ g. g.lhs) gs k blank d short) ∙ (made k blank short).numbered ∙ (omega arith)

pub all_numbered : (m : Parts) (order : List ℕ) (begin image : List Lit) (gs : List Gate) → IsDone m order begin image gs → IsNumbered 1 (defining (carried_parts m image gs))
all_numbered m order begin image gs done =
    let lhs : List Lit = map (λ g. g.lhs) gs in
    let here : IsNumbered 1 (map (renamed image) (bases m) ++ lhs) =
    IsNumbered-append 1 (map (renamed image) (bases m)) lhs (bases_numbered m order begin image gs done)
    (subst (λ n. IsNumbered (1 + n) lhs) (sym (length-map (bases m) (renamed image))) (gates_numbered m gs done.made)) in
    subst (λ (xs : List Lit). IsNumbered 1 (xs ++ lhs)) (sym (bases_carried m image gs)) here

pub defining_length : (m : Parts) (image : List Lit) (gs : List Gate) → length (defining (carried_parts m image gs)) ≡ length m.inputs + length m.latches + length gs
defining_length m image gs =
    let lhs : List Lit = map (λ g. g.lhs) gs in
    let b : List Lit = bases (carried_parts m image gs) in
    let whole : length (b ++ lhs) ≡ length b + length lhs = length-append b lhs in
    let many : length b ≡ length (bases m) = ap length (bases_carried m image gs) ∙ length-map (bases m) (renamed image) in
    omega (arith, whole, many, length-map gs (λ (g : Gate). g.lhs), bases_length m)

made_descending : (first : ℕ) (gs : List Gate) → AreMade first gs → All IsDescending gs
made_descending first gs made k d k_in = ((made k d k_in).below, (made k d k_in).descends)

pub is_ordered : (m : Parts) (order : List ℕ) (begin image : List Lit) (gs : List Gate) → IsDone m order begin image gs → IsOrdered (carried_parts m image gs)
is_ordered m order begin image gs done = record {
  all_defined = sym (defining_length m image gs);
  numbered = all_numbered m order begin image gs done;
  descending = made_descending (first_of m) gs done.made;
}

-- ---- what is used

-- what is defined was carried over at the end
all_carried : (m : Parts) (order : List ℕ) (v : ℕ) → IsModel m order → (v ≡ 0) ⊎ Contains (defined m) v → IsCarried m order (length order) v
all_carried m order v model known = elim known [
  | inl constant ↦ inl (inl constant)
  | inr found ↦ elim (Contains-append_cases (map variable m.inputs ++ map held m.latches) (map left m.gates) v found) [
    | inl outside ↦ inl (inr outside)
    | inr gate ↦
        let i_in : gate.0 < length m.gates = omega (arith, gate.1, length-map m.gates left) in
        let at = model.ordered.each gate.0 i_in in
        let is_i : get_or order at.0 0 ≡ gate.0 = get_or_default order at.0 0 gate.0 at.1 ∙ at.2 in
        let is_v : left (gate_in m.gates order at.0 no_gate) ≡ v = ap (λ q. left (get_or m.gates q no_gate)) is_i ∙ sym (get_or-map left m.gates gate.0 no_gate v i_in) ∙ gate.2 in
        inr (at.0, at.1, is_v)
  ]
]

-- the literals that are used, list by list
pub record UsedBy (P : Lit → Type 0) (m : Parts) : Type 0 where
  pub nexts : All (λ l. P l.next) m.latches
  pub outputs : All P m.outputs
  pub bad : All P m.bad
  pub constraints : All P m.constraints
  pub justice : All (All P) m.justice
  pub fairness : All P m.fairness

pub used_by : (P : Lit → Type 0) (m : Parts) → All P (used m) → UsedBy P m
used_by P m all =
    let nexts : List Lit = map (λ l. l.next) m.latches in
    let j : List Lit = justice_literals m.justice in
    let outside : All P (used_outside m) = All-left P (used_outside m) (map (λ g. g.rhs0) m.gates) (All-left P (used_outside m ++ map (λ g. g.rhs0) m.gates) (map (λ g. g.rhs1) m.gates) all) in
    let to_j : All P (nexts ++ m.outputs ++ m.bad ++ m.constraints ++ j) = All-left P (nexts ++ m.outputs ++ m.bad ++ m.constraints ++ j) m.fairness outside in
    let to_c : All P (nexts ++ m.outputs ++ m.bad ++ m.constraints) = All-left P (nexts ++ m.outputs ++ m.bad ++ m.constraints) j to_j in
    let to_b : All P (nexts ++ m.outputs ++ m.bad) = All-left P (nexts ++ m.outputs ++ m.bad) m.constraints to_c in
    let to_o : All P (nexts ++ m.outputs) = All-left P (nexts ++ m.outputs) m.bad to_b in
    record {
      nexts = All-unmap P (λ l. l.next) m.latches (All-left P nexts m.outputs to_o);
      outputs = All-right P nexts m.outputs to_o;
      bad = All-right P (nexts ++ m.outputs) m.bad to_b;
      constraints = All-right P (nexts ++ m.outputs ++ m.bad) m.constraints to_c;
      justice = All-unflat_map P (λ lits. lits) m.justice (All-right P (nexts ++ m.outputs ++ m.bad ++ m.constraints) j to_j);
      fairness = All-right P (nexts ++ m.outputs ++ m.bad ++ m.constraints ++ j) m.fairness outside;
    }

used_from : (P : Lit → Type 0) (m : Parts) → UsedBy P m → All (λ g. P g.rhs0) m.gates → All (λ g. P g.rhs1) m.gates → All P (used m)
used_from P m by first second =
    let nexts : List Lit = map (λ l. l.next) m.latches in
    let j : List Lit = justice_literals m.justice in
    let to_o : All P (nexts ++ m.outputs) = All-append P nexts m.outputs (All-map P (λ l. l.next) m.latches by.nexts) by.outputs in
    let to_b : All P (nexts ++ m.outputs ++ m.bad) = All-append P (nexts ++ m.outputs) m.bad to_o by.bad in
    let to_c : All P (nexts ++ m.outputs ++ m.bad ++ m.constraints) = All-append P (nexts ++ m.outputs ++ m.bad) m.constraints to_b by.constraints in
    let to_j : All P (nexts ++ m.outputs ++ m.bad ++ m.constraints ++ j) = All-append P (nexts ++ m.outputs ++ m.bad ++ m.constraints) j to_c (All-flat_map P (λ lits. lits) m.justice by.justice) in
    let outside : All P (used_outside m) = All-append P (nexts ++ m.outputs ++ m.bad ++ m.constraints ++ j) m.fairness to_j by.fairness in
    let to_0 : All P (used_outside m ++ map (λ g. g.rhs0) m.gates) = All-append P (used_outside m) (map (λ g. g.rhs0) m.gates) outside (All-map P (λ g. g.rhs0) m.gates first) in
    All-append P (used_outside m ++ map (λ g. g.rhs0) m.gates) (map (λ g. g.rhs1) m.gates) to_0 (All-map P (λ g. g.rhs1) m.gates second)

-- all that the circuit uses is carried over
pub used_carried : (m : Parts) (order : List ℕ) → IsModel m order → UsedBy (λ a. IsCarried m order (length order) (variable a)) m
used_carried m order model =
    used_by (λ a. IsCarried m order (length order) (variable a)) m
    (All-weaker (λ a. (variable a ≡ 0) ⊎ Contains (defined m) (variable a)) (λ a. IsCarried m order (length order) (variable a)) (λ a known. all_carried m order (variable a) model known) (used m) model.well_formed.used_defined)

-- ---- the carried circuit is well formed

top_is : (m : Parts) (gs : List Gate) → first_of m + length gs ≡ (length m.inputs + length m.latches + length gs) + 1
top_is m gs = omega (arith, bases_length m)

-- a literal that is carried over is in range
carried_range : (m : Parts) (order : List ℕ) (begin image : List Lit) (gs : List Gate) (a : Lit) → IsDone m order begin image gs → IsCarried m order (length order) (variable a) →
    (renamed image a).0 ≤ 2 * (length m.inputs + length m.latches + length gs) + 1
carried_range m order begin image gs a done is =
    let below : (renamed image a).0 < 2 * (first_of m + length gs) = renamed_below (first_of m + length gs) image a (done.carried.below (variable a) is) in
    omega (arith, below, top_is m gs)

abbrev InRange : ℕ → Lit → Type 0
InRange max a = a.0 ≤ 2 * max + 1

used_range : (m : Parts) (order : List ℕ) (begin image : List Lit) (gs : List Gate) → IsDone m order begin image gs →
    All (InRange (length m.inputs + length m.latches + length gs)) (used (carried_parts m image gs))
used_range m order begin image gs done =
    let max : ℕ = length m.inputs + length m.latches + length gs in
    let c = used_carried m order done.model in
    let one : (a : Lit) → IsCarried m order (length order) (variable a) → InRange max (renamed image a) = λ a is. carried_range m order begin image gs a done is in
    let list : (xs : List Lit) → All (λ a. IsCarried m order (length order) (variable a)) xs → All (InRange max) (map (renamed image) xs) =
    λ xs all. All-map (InRange max) (renamed image) xs (λ k d k_in. one (get_or xs k d) (all k d k_in)) in
    let gate0 : All (λ g. InRange max g.rhs0) gs = λ k d k_in. (let at = done.made k d k_in in let numbered = at.numbered in let below = at.below in omega (arith, top_is m gs)) in
    let gate1 : All (λ g. InRange max g.rhs1) gs = λ k d k_in. (let at = done.made k d k_in in let numbered = at.numbered in let below = at.below in let descends = at.descends in omega (arith, top_is m gs)) in
    used_from (InRange max) (carried_parts m image gs) (record {
      nexts = All-map (λ l. InRange max l.next) (carried_latch image) m.latches (λ k d k_in. one ((get_or m.latches k d).next) (c.nexts k d k_in));
      outputs = list m.outputs c.outputs;
      bad = list m.bad c.bad;
      constraints = list m.constraints c.constraints;
      justice = All-map (All (InRange max)) (map (renamed image)) m.justice (λ k d k_in. list (get_or m.justice k d) (c.justice k d k_in));
      fairness = list m.fairness c.fairness;
    }) gate0 gate1

used_known : (m : Parts) (order : List ℕ) (begin image : List Lit) (gs : List Gate) → IsDone m order begin image gs →
    All (λ a. (variable a ≡ 0) ⊎ Contains (defined (carried_parts m image gs)) (variable a)) (used (carried_parts m image gs))
used_known m order begin image gs done =
    let s : Parts = carried_parts m image gs in
    let max : ℕ = length m.inputs + length m.latches + length gs in
    All-weaker (InRange max) (λ a. (variable a ≡ 0) ⊎ Contains (defined s) (variable a))
    (λ a range. elim (cases_eq (variable a) 0) [
      | inl constant ↦ inl constant
      | inr other ↦ inr (subst (λ vs. Contains vs (variable a)) (sym (defined_is s)) (numbered_all (defining s) (variable a) (all_numbered m order begin image gs done) other (omega (arith, defining_length m image gs))))
    ]) (used s) (used_range m order begin image gs done)

-- ---- limits

-- distinct numbers below a limit are no more than it
few_below : (vs : List ℕ) (n : ℕ) → AllPairs (λ u v. u ≢ v) vs → All (λ v. v < n) vs → length vs ≤ n
few_below vs n apart below =
    length-le_from_distinct_below vs n (IsDistinct-from_AllPairs Decides-eqb vs apart)
    (λ q found. All-contains (λ v. v < n) vs q below (Contains-from_any eqb-true q vs found))

-- an order has no more positions than there are gates
pub order_few : (gs : List Gate) (order : List ℕ) → IsOrder gs order → length order ≤ length gs
order_few gs order ordered = few_below order (length gs) ordered.once ordered.in_range

with_zero : (vs : List ℕ) → AllPairs (λ u v. u ≢ v) vs → All (λ v. v ≢ 0) vs → AllPairs (λ u v. u ≢ v) (0 ∷ vs)
with_zero vs once positive zero zero d i_j j_in same = omega arith
with_zero vs once positive zero (suc j) d i_j j_in same = positive j d (omega arith) (sym same)
with_zero vs once positive (suc i) zero d i_j j_in same = omega arith
with_zero vs once positive (suc i) (suc j) d i_j j_in same = once i j d (omega arith) (omega arith) same

-- a defined variable is in range
defined_small : (m : Parts) → IsWellFormed m → All (λ v. v < m.max_var + 1) (defined m)
defined_small m well =
    subst (All (λ v. v < m.max_var + 1)) (sym (defined_is m)) (All-map (λ v. v < m.max_var + 1) variable (defining m) (λ k d k_in. let range = well.defining_in_range k d k_in in omega (arith, range)))

fold_lengths : (f : Lit → Lit) (a : ℕ) (xss : List (List Lit)) → fold (λ n xs. n + length xs) a (map (map f) xss) ≡ fold (λ n xs. n + length xs) a xss
fold_lengths f a [] = refl
fold_lengths f a (xs ∷ xss) =
    ap (λ n. fold (λ n (ys : List Lit). n + length ys) (a + n) (map (map f) xss)) (length-map xs f) ∙ fold_lengths f (a + length xs) xss

sum_lengths : (f : Lit → Lit) (xss : List (List Lit)) → sum_by length (map (map f) xss) ≡ sum_by length xss
sum_lengths f xss = fold_lengths f 0 xss

-- what is defined is no more than the variables
pub defined_few : (m : Parts) → IsWellFormed m → length m.inputs + length m.latches + length m.gates ≤ m.max_var
defined_few m well =
    let vs : List ℕ = defined m in
    let positive = defined_nonzero m well in
    let apart : AllPairs (λ u v. u ≢ v) (0 ∷ vs) = λ i j d i_j j_in. with_zero vs well.defined_once positive i j d i_j j_in in
    let small : All (λ v. v < m.max_var + 1) vs = defined_small m well in
    let all : length (0 ∷ vs) ≤ m.max_var + 1 = few_below (0 ∷ vs) (m.max_var + 1) apart (All-cons (λ v. v < m.max_var + 1) 0 vs (omega arith) small) in
    let long : length vs ≡ length m.inputs + length m.latches + length m.gates =
    omega (
      arith,
      length-append (map variable m.inputs ++ map held m.latches) (map left m.gates),
      length-append (map variable m.inputs) (map held m.latches),
      length-map m.inputs variable,
      length-map m.latches held,
      length-map m.gates left,
    ) in
    omega (arith, all, long)

-- the lists of the carried circuit are as long as those of the circuit
carried_limits : (m : Parts) (order : List ℕ) (begin image : List Lit) (gs : List Gate) → IsDone m order begin image gs → IsInLimits (carried_parts m image gs)
carried_limits m order begin image gs done =
    let limits = done.model.well_formed.limits in
    let few : length gs ≤ length m.gates = (let a = done.carried.few in let b = order_few m.gates order done.model.ordered in omega (arith, a, b)) in
    let all = defined_few m done.model.well_formed in
    let max = limits.max_var in
    let gates = limits.gates in
    record {
      max_var = omega (arith, few, all, max);
      inputs = subst (λ n. n ≤ 4194303) (sym (length-map m.inputs (renamed image))) limits.inputs;
      latches = subst (λ n. n ≤ 4194303) (sym (length-map m.latches (carried_latch image))) limits.latches;
      outputs = subst (λ n. n ≤ 4194303) (sym (length-map m.outputs (renamed image))) limits.outputs;
      gates = omega (arith, few, gates);
      bad = subst (λ n. n ≤ 4194303) (sym (length-map m.bad (renamed image))) limits.bad;
      constraints = subst (λ n. n ≤ 4194303) (sym (length-map m.constraints (renamed image))) limits.constraints;
      justice = subst (λ n. n ≤ 4194303) (sym (length-map m.justice (map (renamed image)))) limits.justice;
      fairness = subst (λ n. n ≤ 4194303) (sym (length-map m.fairness (renamed image))) limits.fairness;
      justice_sum = subst (λ n. n ≤ 4194303) (sym (sum_lengths (renamed image) m.justice)) limits.justice_sum;
    }

-- ---- resets

-- a latch's literal is carried to one of 2 or more
latch_carried : (m : Parts) (order : List ℕ) (begin image : List Lit) (gs : List Gate) (k : ℕ) (d : Latch) → IsDone m order begin image gs → k < length m.latches →
    2 ≤ (renamed image (get_or m.latches k d).lit).0
latch_carried m order begin image gs k d done k_in =
    let blank_lit : Lit = record { 0 = 0 } in
    let j : ℕ = length m.inputs + k in
    let j_in : j < length (bases m) = omega (arith, bases_length m) in
    let is : get_or (bases m) j blank_lit ≡ (get_or m.latches k d).lit =
    get_or-append-add m.inputs (map (λ l. l.lit) m.latches) k blank_lit ∙ get_or-map (λ l. l.lit) m.latches k d blank_lit k_in in
    let number : (renamed image (get_or m.latches k d).lit).0 ≡ 2 * (1 + j) =
    ap (λ (a : Lit). (renamed image a).0) (sym is) ∙ ap (λ (a : Lit). a.0) (renamed_base m order begin image gs j blank_lit done j_in) in
    omega (arith, number)

reset_carried : (image : List Lit) (l : Latch) → HasReset l → 2 ≤ l.lit.0 → 2 ≤ (renamed image l.lit).0 → HasReset (carried_latch image l) × (start_of (carried_latch image l) ≡ start_of l)
reset_carried image l (inl zero_) two two_ = rw zero_ (inl refl, refl)
reset_carried image l (inr (inl one)) two two_ = rw one (inr (inl refl), refl)
reset_carried image l (inr (inr own)) two two_ =
    let big : 2 ≤ l.reset.0 = omega arith in
    rw (lt-leb l.reset.0 1 (omega arith), ne_eqb l.reset.0 0 (λ e. omega arith), ne_eqb l.reset.0 1 (λ e. omega arith), ne_eqb (renamed image l.lit).0 0 (λ e. omega arith), ne_eqb (renamed image l.lit).0 1 (λ e. omega arith))
    (inr (inr refl), refl)

carried_resets : (m : Parts) (order : List ℕ) (begin image : List Lit) (gs : List Gate) → IsDone m order begin image gs →
    All (λ l. HasReset (carried_latch image l) × (start_of (carried_latch image l) ≡ start_of l)) m.latches
carried_resets m order begin image gs done k d k_in =
    let even = latches_even m done.model.well_formed k d k_in in
    reset_carried image (get_or m.latches k d) (done.model.well_formed.resets k d k_in) even.0 (latch_carried m order begin image gs k d done k_in)

pub well_formed : (m : Parts) (order : List ℕ) (begin image : List Lit) (gs : List Gate) → IsDone m order begin image gs → IsWellFormed (carried_parts m image gs)
well_formed m order begin image gs done =
    let s : Parts = carried_parts m image gs in
    let numbered = all_numbered m order begin image gs done in
    record {
      limits = carried_limits m order begin image gs done;
      defining_even = numbered_even (defining s) numbered;
      defining_in_range = numbered_in_range (defining s) s.max_var numbered (omega (arith, defining_length m image gs));
      used_in_range = used_range m order begin image gs done;
      resets = All-map HasReset (carried_latch image) m.latches (λ k d k_in. (carried_resets m order begin image gs done k d k_in).0);
      defined_once = subst (AllPairs (λ u v. u ≢ v)) (sym (defined_is s)) (numbered_once (defining s) numbered);
      used_defined = used_known m order begin image gs done;
      no_cycle = no_cycle_below gs (made_descending (first_of m) gs done.made) (λ k d k_in. let at = (done.made k d k_in).numbered in omega (arith, at));
    }

-- ---- what it shows

-- a valuation of the carried circuit follows its gates
follows_of : (m : Parts) (image : List Lit) (gs : List Gate) (x : Valuation) → Agrees (carried_parts m image gs) x → Follows gs x
follows_of m image gs x agrees = record { constant = agrees.valuation.constant; fires = agrees.gates }

bases_same : (m : Parts) (image : List Lit) (gs : List Gate) (w x : Valuation) → inputs_of (carried_parts m image gs) x ≡ inputs_of m w → state_of (carried_parts m image gs) x ≡ state_of m w →
    map (value_of x) (bases (carried_parts m image gs)) ≡ map (value_of w) (bases m)
bases_same m image gs w x inputs states =
    let s : Parts = carried_parts m image gs in
    map-append (value_of x) s.inputs (map (λ l. l.lit) s.latches)
    ∙ ap (λ bs. map (value_of x) s.inputs ++ bs) (map-map (value_of x) (λ (l : Latch). l.lit) s.latches ∙ states ∙ sym (map-map (value_of w) (λ (l : Latch). l.lit) m.latches))
    ∙ ap (λ bs. bs ++ map (value_of w) (map (λ l. l.lit) m.latches)) inputs
    ∙ sym (map-append (value_of w) m.inputs (map (λ l. l.lit) m.latches))

-- inputs and latches begin with the values of what they are carried to
begin_same : (m : Parts) (order : List ℕ) (begin image : List Lit) (gs : List Gate) (w x : Valuation) → IsDone m order begin image gs → Agrees m w → Agrees (carried_parts m image gs) x →
    inputs_of (carried_parts m image gs) x ≡ inputs_of m w → state_of (carried_parts m image gs) x ≡ state_of m w → BeginSame m begin w x
begin_same m order begin image gs w x done agrees follows inputs states v (inl constant) =
    let zero_image : image_of begin v ≡ record { 0 = 0 } = ap (image_of begin) constant ∙ done.numbered.constant in
    ap (place w) constant ∙ agrees.valuation.constant ∙ sym follows.valuation.constant ∙ ap (value_of x) (sym zero_image)
begin_same m order begin image gs w x done agrees follows inputs states v (inr found) =
    let k : ℕ = found.0 in
    let is_vars : map variable (bases m) ≡ map variable m.inputs ++ map held m.latches = bases_vars m in
    let short : k < length (bases m) = omega (arith, found.1, ap length is_vars, length-map (bases m) variable) in
    let blank_lit : Lit = record { 0 = 0 } in
    let a : Lit = get_or (bases m) k blank_lit in
    let is_v : variable a ≡ v = sym (get_or-map variable (bases m) k blank_lit v short) ∙ ap (λ vs. get_or vs k v) is_vars ∙ found.2 in
    let even = bases_even m done.model.well_formed k blank_lit short in
    let both : map (value_of x) (bases (carried_parts m image gs)) ≡ map (value_of w) (bases m) = bases_same m image gs w x inputs states in
    let values : value_of x (renamed image a) ≡ value_of w a =
    sym (get_or-map (λ b. value_of x (renamed image b)) (bases m) k blank_lit false short)
    ∙ ap (λ bs. get_or bs k false) (sym (map-map (value_of x) (renamed image) (bases m)) ∙ ap (map (value_of x)) (sym (bases_carried m image gs)) ∙ both)
    ∙ get_or-map (value_of w) (bases m) k blank_lit false short in
    let here : place w (variable a) ≡ value_of x (image_of begin (variable a)) =
    sym (value_of-even w a even.1) ∙ sym values ∙ ap (value_of x) (renamed_even image a even.1 ∙ done.carried.kept (variable a) (base_at m k blank_lit short)) in
    subst (λ u. place w u ≡ value_of x (image_of begin u)) is_v here

same_map : {X : Type 0} (f g : X → Bool) (xs : List X) → All (λ a. f a ≡ g a) xs → map f xs ≡ map g xs
same_map f g [] all = refl
same_map f g (a ∷ xs) all = ap (λ b. b ∷ map f xs) (All-head (λ c. f c ≡ g c) a xs all) ∙ ap (λ bs. g a ∷ bs) (same_map f g xs (All-tail (λ c. f c ≡ g c) a xs all))

same_maps : (f g : Lit → Bool) (xss : List (List Lit)) → All (All (λ a. f a ≡ g a)) xss → map (map f) xss ≡ map (map g) xss
same_maps f g [] all = refl
same_maps f g (xs ∷ xss) all =
    ap (λ bs. bs ∷ map (map f) xss) (same_map f g xs (All-head (All (λ c. f c ≡ g c)) xs xss all)) ∙ ap (λ bss. map g xs ∷ bss) (same_maps f g xss (All-tail (All (λ c. f c ≡ g c)) xs xss all))

lists_same : (f : Lit → Bool) (g : Lit → Lit) (xss : List (List Lit)) → map (λ xs. map f (map g xs)) xss ≡ map (map (λ a. f (g a))) xss
lists_same f g [] = refl
lists_same f g (xs ∷ xss) = ap (λ bs. bs ∷ map (λ ys. map f (map g ys)) xss) (map-map f g xs) ∙ ap (λ bss. map (λ a. f (g a)) xs ∷ bss) (lists_same f g xss)

same_starts : (image : List Lit) (ls : List Latch) → All (λ l. start_of (carried_latch image l) ≡ start_of l) ls → map (λ l. start_of (carried_latch image l)) ls ≡ map start_of ls
same_starts image [] all = refl
same_starts image (l ∷ ls) all =
    let P : Latch → Type 0 = λ k. start_of (carried_latch image k) ≡ start_of k in
    ap (λ b. b ∷ map (λ k. start_of (carried_latch image k)) ls) (All-head P l ls all) ∙ ap (λ bs. start_of l ∷ bs) (same_starts image ls (All-tail P l ls all))

shows : (m : Parts) (order : List ℕ) (begin image : List Lit) (gs : List Gate) (w x : Valuation) → IsDone m order begin image gs → Agrees m w → Agrees (carried_parts m image gs) x →
    inputs_of (carried_parts m image gs) x ≡ inputs_of m w → state_of (carried_parts m image gs) x ≡ state_of m w → ShowsSame m (carried_parts m image gs) w x
shows m order begin image gs w x done agrees follows inputs states =
    let c = used_carried m order done.model in
    let begins : BeginSame m begin w x = begin_same m order begin image gs w x done agrees follows inputs states in
    let one : (a : Lit) → IsCarried m order (length order) (variable a) → value_of x (renamed image a) ≡ value_of w a = λ a is.
    sym (renamed_value w x image a (done.carried.same w x agrees (follows_of m image gs x follows) begins (variable a) is)) in
    let list : (xs : List Lit) → All (λ a. IsCarried m order (length order) (variable a)) xs → map (value_of x) (map (renamed image) xs) ≡ map (value_of w) xs =
    λ xs all. map-map (value_of x) (renamed image) xs ∙ same_map (λ a. value_of x (renamed image a)) (value_of w) xs (λ k d k_in. one (get_or xs k d) (all k d k_in)) in
    record {
      nexts = map-map (λ (l : Latch). value_of x l.next) (carried_latch image) m.latches
          ∙ same_map (λ l. value_of x (renamed image l.next)) (λ l. value_of w l.next) m.latches (λ k d k_in. one ((get_or m.latches k d).next) (c.nexts k d k_in));
      outputs = list m.outputs c.outputs;
      bad = list m.bad c.bad;
      constraints = list m.constraints c.constraints;
      justice = map-map (map (value_of x)) (map (renamed image)) m.justice ∙ lists_same (value_of x) (renamed image) m.justice
          ∙ same_maps (λ a. value_of x (renamed image a)) (value_of w) m.justice (λ k d k_in j e j_in. one (get_or (get_or m.justice k d) j e) (c.justice k d k_in j e j_in));
      fairness = list m.fairness c.fairness;
    }

-- as many of each kind
same_counts : (m : Parts) (image : List Lit) (gs : List Gate) → symbol_counts (carried_parts m image gs) ≡ symbol_counts m
same_counts m image gs =
    rw (
      length-map m.inputs (renamed image),
      length-map m.latches (carried_latch image),
      length-map m.outputs (renamed image),
      length-map m.bad (renamed image),
      length-map m.constraints (renamed image),
      length-map m.justice (map (renamed image)),
      length-map m.fairness (renamed image),
    ) refl

pub is_shrunk : (m : Parts) (order : List ℕ) (begin image : List Lit) (gs : List Gate) → IsDone m order begin image gs → IsShrunk m (carried_parts m image gs)
is_shrunk m order begin image gs done = record {
  counts = same_counts m image gs;
  starts = map-map start_of (carried_latch image) m.latches ∙ same_starts image m.latches (λ k d k_in. (carried_resets m order begin image gs done k d k_in).1);
  shows = λ w x agrees follows inputs states. shows m order begin image gs w x done agrees follows inputs states;
  ordered = is_ordered m order begin image gs done;
  proper = λ k d k_in. (done.made k d k_in).proper;
  apart = done.apart;
  few = let a = done.carried.few in let b = order_few m.gates order done.model.ordered in omega (arith, a, b);
}

-- ---- what the code asks for

pub bases_in_range : (m : Parts) → IsWellFormed m → All (λ a. (2 ≤ a.0) × (a.0 ≤ 2 * m.max_var + 1)) (bases m)
bases_in_range m well k d k_in =
    let even = bases_even m well k d k_in in
    let range = All-left (λ (a : Lit). a.0 ≤ 2 * m.max_var + 1) (bases m) (map (λ g. g.lhs) m.gates) well.defining_in_range k d k_in in
    (even.0, range)

pub bases_once : (m : Parts) → IsWellFormed m → AllPairs (λ u v. u ≢ v) (map variable (bases m))
bases_once m well = subst (AllPairs (λ u v. u ≢ v)) (sym (bases_vars m)) (once-left (map variable m.inputs ++ map held m.latches) (map left m.gates) well.defined_once)

pub bases_few : (m : Parts) → IsWellFormed m → length (bases m) < 2147483647
bases_few m well = let inputs = well.limits.inputs in let latches = well.limits.latches in omega (arith, inputs, latches, bases_length m)

pub room_for : (m : Parts) (order : List ℕ) → IsModel m order → first_of m + length order ≤ 4194304
room_for m order model =
    let few = order_few m.gates order model.ordered in
    let all = defined_few m model.well_formed in
    let max = model.well_formed.limits.max_var in
    omega (arith, few, all, max, bases_length m)

begin_below : (m : Parts) (order : List ℕ) (image : List Lit) (v : ℕ) → AreNumbered (bases m) image → IsCarried m order 0 v → (image_of image v).0 < 2 * (first_of m + 0)
begin_below m order image v numbered (inl (inl constant)) = subst (λ u. (image_of image u).0 < 2 * (first_of m + 0)) (sym constant) (rw numbered.constant (omega arith))
begin_below m order image v numbered (inl (inr found)) =
    let k : ℕ = found.0 in
    let short : k < length (bases m) = omega (arith, found.1, ap length (bases_vars m), length-map (bases m) variable) in
    let blank_lit : Lit = record { 0 = 0 } in
    let is_v : variable (get_or (bases m) k blank_lit) ≡ v = sym (get_or-map variable (bases m) k blank_lit v short) ∙ ap (λ vs. get_or vs k v) (bases_vars m) ∙ found.2 in
    subst (λ u. (image_of image u).0 < 2 * (first_of m + 0)) is_v (rw (numbered.each k blank_lit short) (omega arith))
begin_below m order image v numbered (inr (k, k_in, at)) = absurd (omega arith)

begin_carried : (m : Parts) (order : List ℕ) (image : List Lit) (w x : Valuation) (v : ℕ) → BeginSame m image w x → IsCarried m order 0 v → place w v ≡ value_of x (image_of image v)
begin_carried m order image w x v begin (inl base) = begin v base
begin_carried m order image w x v begin (inr (k, k_in, at)) = absurd (omega arith)

latch_among : (m : Parts) (k : ℕ) (d : Latch) → k < length m.latches → Contains (map held m.latches) (held (get_or m.latches k d))
latch_among m k d k_in =
    subst (Contains (map held m.latches)) (get_or-map held m.latches k d 0 k_in) (Contains-get_or (map held m.latches) k 0 (omega (arith, length-map m.latches held)))

-- before the first gate
pub begins : (m : Parts) (order : List ℕ) (image : List Lit) → length image ≡ m.max_var + 1 → AreNumbered (bases m) image → AreCarried m order (first_of m) image [] image 0
begins m order image whole numbered = record {
  whole = whole;
  kept = λ v base. refl;
  few = omega arith;
  below = λ v is. begin_below m order image v numbered is;
  same = λ w x agrees follows begin v is. begin_carried m order image w x v begin is;
}

pub carriable : (m : Parts) (order : List ℕ) (begin image : List Lit) (gs : List Gate) → IsModel m order → AreCarried m order (first_of m) begin gs image (length order) → AreCarriable m image
carriable m order begin image gs model carried =
    let n : ℕ = length order in
    let c = used_carried m order model in
    let few = carried.few in
    let room = room_for m order model in
    let whole = carried.whole in
    let one : (a : Lit) → a.0 ≤ 2 * m.max_var + 1 → IsCarried m order n (variable a) → IsCarriable image a = λ a range is. record {
      in_range = omega arith;
      room = let below = carried.below (variable a) is in omega (arith, below, few, room);
    } in
    let r = used_by (λ a. a.0 ≤ 2 * m.max_var + 1) m model.well_formed.used_in_range in
    let list : (xs : List Lit) → All (λ a. a.0 ≤ 2 * m.max_var + 1) xs → All (λ a. IsCarried m order n (variable a)) xs → All (IsCarriable image) xs =
    λ xs range is k d k_in. one (get_or xs k d) (range k d k_in) (is k d k_in) in
    let outside : (a : Lit) → IsBase m (variable a) → a.0 ≤ 2 * m.max_var + 1 → IsCarriable image a = λ a base range. one a range (inl base) in
    record {
      inputs = λ k d k_in. outside (get_or m.inputs k d) (inr (Contains-append_left (map variable m.inputs) (map held m.latches) (variable (get_or m.inputs k d)) (Contains-map variable m.inputs k d k_in)))
          (All-left (λ (a : Lit). a.0 ≤ 2 * m.max_var + 1) m.inputs (map (λ l. l.lit) m.latches) (All-left (λ (a : Lit). a.0 ≤ 2 * m.max_var + 1) (bases m) (map (λ g. g.lhs) m.gates) model.well_formed.defining_in_range) k d k_in);
      latches = λ k d k_in. (
        outside (get_or m.latches k d).lit (inr (Contains-append_right (map variable m.inputs) (map held m.latches) (held (get_or m.latches k d)) (latch_among m k d k_in))) (latches_in_range m model.well_formed k d k_in),
        one (get_or m.latches k d).next (r.nexts k d k_in) (c.nexts k d k_in),
      );
      outputs = list m.outputs r.outputs c.outputs;
      bad = list m.bad r.bad c.bad;
      constraints = list m.constraints r.constraints c.constraints;
      justice = λ k d k_in. list (get_or m.justice k d) (r.justice k d k_in) (c.justice k d k_in);
      fairness = list m.fairness r.fairness c.fairness;
    }

-- no two gates of a table have the same right sides
pub apart_from : (first : ℕ) (gs : List Gate) (f : ℕ × ℕ → Option ℕ) → IsTable first gs f → AllPairs AreApart gs
apart_from first gs f table i j d i_j j_in left_same right_same =
    let i_at = table.found i d (omega arith) in
    let j_at = table.found j d j_in in
    let same : sides (get_or gs i d) ≡ sides (get_or gs j d) = λ k. ((left_same k).0, (right_same k).0) in
    let e : first + i ≡ first + j = same_Some (first + i) (first + j) (sym i_at ∙ ap f same ∙ j_at) in
    omega arith
