-- The reduced circuit is well formed.
use Rattle.std.proofs.Common.{◌≡◌, ◌≢◌, ℕ, zero, suc, ◌+◌, ◌-◌, ◌*◌, ◌/◌, ◌%◌, ◌<◌, ◌≤◌, ◌⊎◌, Bool, true, List, [], ◌∷◌, ◌++◌, map, filter, length, get_or, All, AllPairs, Any, Contains, inl, inr, refl, sym, ◌∙◌, ap, ap₂, subst, arith}
use Rattle.std.proofs.lemmas.Bool.{cases_Bool}
use Rattle.std.proofs.lemmas.List.{get_or-map, get_or_default, length-map, map-append}
use Rattle.std.proofs.lemmas.List.Kept.{AllPairs-filter}
use Rattle.std.proofs.lemmas.List.Elements.{All-nil, All-append, All-map, All-filter, filter-append, Contains-get_or}
use Rattle.graph.specs.declared.circuit.Lit.{Lit}
use Rattle.graph.specs.declared.circuit.Latch.{Latch}
use Rattle.graph.specs.declared.circuit.Gate.{Gate}
use Rattle.graph.specs.declared.parts.Parts.{Parts}
use Rattle.graph.specs.Circuits.{variable, place, defined, defining, HasReset}
use Rattle.graph.specs.WellFormed.{used, Reads, Needs, IsChain, HasNoCycle, IsInLimits, IsWellFormed}
use Rattle.graph.proofs.Evaluation.{held, inputs_even, latches_even, lefts_even}
use Rattle.graph.proofs.Gates.{left}
use Rattle.graph.proofs.Tabled.{HoldsOfUsed, holds_of_used}
use Rattle.cones.specs.Marks.{IsMarked}
use Rattle.live_safe.proofs.Ranges.{AreIn, are_in}
use Rattle.cnf.specs.Formulas.{bad_literal}
use Rattle.cnf.proofs.Formed.{defined_small}
use Rattle.engine.specs.Findings.{IsForBad}
use Rattle.sequential_cones.specs.Cones.{IsConeOf}
use Rattle.cone_of_influence.specs.declared.tables.Tables.{Tables}
use Rattle.cone_of_influence.specs.Numbers.{entry, renamed, IsSmall, AreNumbersTo}
use Rattle.cone_of_influence.specs.Reduced.{renamed_latch, renamed_gate, reduced_parts, latch_filler, input_filler, IsReduced, IsWhole}
use Rattle.cone_of_influence.proofs.Numbered.{zero_kept}
use Rattle.cone_of_influence.proofs.Kept.{few_kept}
use Rattle.cone_of_influence.proofs.Valued.{AreGiven, part, IsOf, some_kept, no_number, renamed_variable, renamed_parity, filtered, inputs_of_cone, latches_of_cone, gates_of_cone, constraints_of_cone, bad_of_cone, kept_defined, reset_to, numbered_apart}

-- what is kept of the variables below n is no more than n
at_least : (marks : List Bool) (kept numbers : List ℕ) (n k : ℕ) → AreNumbersTo marks kept numbers n → k < length kept → k ≤ entry kept k
at_least marks kept numbers n zero h k_in = omega arith
at_least marks kept numbers n (suc k) h k_in =
    let before = at_least marks kept numbers n k h (omega (arith, k_in)) in
    let less = h.increasing k (suc k) (omega arith) k_in in
    omega (arith, before, less)

pub few_numbers : (marks : List Bool) (kept numbers : List ℕ) (n : ℕ) → AreNumbersTo marks kept numbers n → 0 < length kept → length kept ≤ n
few_numbers marks kept numbers n h some =
    let last : length kept - 1 < length kept = omega (arith, some) in
    let at = at_least marks kept numbers n (length kept - 1) h last in
    let below = (h.back (length kept - 1) last).0 in
    omega (arith, at, below, some)

at_most : (marks : List Bool) (kept numbers : List ℕ) (n k j : ℕ) → AreNumbersTo marks kept numbers n → k + j + 1 ≡ length kept → entry kept k + j < n
at_most marks kept numbers n k zero h last = let below = (h.back k (omega (arith, last))).0 in omega (arith, below)
at_most marks kept numbers n k (suc j) h last =
    let later = at_most marks kept numbers n (suc k) j h (omega (arith, last)) in
    let less = h.increasing k (suc k) (omega arith) (omega (arith, last)) in
    omega (arith, later, less)

-- where all are kept, all are marked
pub all_marked : (marks : List Bool) (kept numbers : List ℕ) (n v : ℕ) → AreNumbersTo marks kept numbers n → length kept ≡ n → v < n → IsMarked marks v
all_marked marks kept numbers n v h long v_in =
    let inside : v < length kept = omega (arith, long, v_in) in
    let low = at_least marks kept numbers n v h inside in
    let high = at_most marks kept numbers n v (n - v - 1) h (omega (arith, long, v_in)) in
    let is : entry kept v ≡ v = omega (arith, low, high, v_in) in
    subst (IsMarked marks) is (h.back v inside).1

-- the number of a variable that is kept, there and back
there_and_back : (m : Parts) (marks : List Bool) (kept numbers : List ℕ) (a : Lit) → AreGiven m marks kept numbers → IsOf m marks a → entry kept (variable (renamed numbers a)) ≡ variable a
there_and_back m marks kept numbers a h of =
    let range = of.range in
    ap (entry kept) (renamed_variable numbers a) ∙ (h.numbered.there (variable a) (omega (arith, range)) of.marked).1

bads_of_cone : (m : Parts) (marks : List Bool) (kept numbers : List ℕ) → AreGiven m marks kept numbers → All (IsOf m marks) m.bad
bads_of_cone m marks kept numbers h k d k_in =
    let one : length m.bad ≡ 1 = ap length h.for_bad.one in
    let is : k ≡ 0 = omega (arith, k_in, one) in
    let same : get_or m.bad k d ≡ bad_literal m 0 = ap (λ i. get_or m.bad i d) is ∙ get_or_default m.bad 0 d (record { 0 = 0 }) (omega (arith, one)) in
    subst (IsOf m marks) (sym same) (bad_of_cone m marks kept numbers h)

-- a latch's reset is 0, 1 or its own literal again
reset_kept : (numbers : List ℕ) (l : Latch) → entry numbers 0 ≡ 0 → HasReset l → HasReset (renamed_latch numbers l)
reset_kept numbers l none (inl low) = inl ((reset_to numbers l none).0 low)
reset_kept numbers l none (inr (inl high)) = inr (inl ((reset_to numbers l none).1 high))
reset_kept numbers l none (inr (inr own)) = inr (inr (ap (λ r. 2 * entry numbers (r / 2) + r % 2) own))

-- ---- literals

range_to : (m : Parts) (marks : List Bool) (kept numbers : List ℕ) (a : Lit) → AreGiven m marks kept numbers → IsOf m marks a → (renamed numbers a).0 ≤ 2 * (length kept - 1) + 1
range_to m marks kept numbers a h of =
    let range = of.range in
    let inside = (h.numbered.there (variable a) (omega (arith, range)) of.marked).0 in
    let same : variable (renamed numbers a) ≡ entry numbers (variable a) = renamed_variable numbers a in
    omega (arith, inside, same)

even_to : (m : Parts) (marks : List Bool) (kept numbers : List ℕ) (a : Lit) → AreGiven m marks kept numbers → IsOf m marks a → (2 ≤ a.0) × (a.0 % 2 ≡ 0) →
    (2 ≤ (renamed numbers a).0) × ((renamed numbers a).0 % 2 ≡ 0)
even_to m marks kept numbers a h of even =
    let apart = numbered_apart m marks kept numbers a h of even.0 in
    let same : variable (renamed numbers a) ≡ entry numbers (variable a) = renamed_variable numbers a in
    let some : variable (renamed numbers a) ≢ 0 = λ e. apart (sym same ∙ e) in
    (omega (arith, some), renamed_parity numbers a ∙ even.1)

-- what holds of each literal that is kept holds of all that define something, and of all that is used
defining_to : (P : Lit → Type 0) (m : Parts) (marks : List Bool) (kept numbers : List ℕ) → AreGiven m marks kept numbers → ((a : Lit) → IsOf m marks a → (2 ≤ a.0) × (a.0 % 2 ≡ 0) → P (renamed numbers a)) →
    All P (defining (part m marks kept numbers))
defining_to P m marks kept numbers h each =
    let s : Parts = part m marks kept numbers in
    let ins : Lit → Bool = λ a. place marks (variable a) in
    let lats : Latch → Bool = λ l. place marks (variable l.lit) in
    let gats : Gate → Bool = λ g. place marks (variable g.lhs) in
    All-append P (s.inputs ++ map (λ l. l.lit) s.latches) (map (λ g. g.lhs) s.gates)
    (All-append P s.inputs (map (λ l. l.lit) s.latches)
    (All-map P (renamed numbers) (filter ins m.inputs) (λ k d k_in. each (get_or (filter ins m.inputs) k d) (inputs_of_cone m marks kept numbers h k d k_in)
    (All-filter ins (λ a. (2 ≤ a.0) × (a.0 % 2 ≡ 0)) m.inputs (inputs_even m h.well) k d k_in)))
    (All-map P (λ l. l.lit) s.latches (All-map (λ l. P l.lit) (renamed_latch numbers) (filter lats m.latches) (λ k d k_in. each (get_or (filter lats m.latches) k d).lit (latches_of_cone m marks kept numbers h k d k_in).0
    (All-filter lats (λ l. (2 ≤ l.lit.0) × (l.lit.0 % 2 ≡ 0)) m.latches (latches_even m h.well) k d k_in)))))
    (All-map P (λ g. g.lhs) s.gates (All-map (λ g. P g.lhs) (renamed_gate numbers) (filter gats m.gates) (λ k d k_in. each (get_or (filter gats m.gates) k d).lhs (gates_of_cone m marks kept numbers h k d k_in).0
    (All-filter gats (λ g. (2 ≤ g.lhs.0) × (g.lhs.0 % 2 ≡ 0)) m.gates (lefts_even m h.well) k d k_in))))

used_to : (P Q : Lit → Type 0) (m : Parts) (marks : List Bool) (kept numbers : List ℕ) → AreGiven m marks kept numbers → All Q (used m) → ((a : Lit) → IsOf m marks a → Q a → P (renamed numbers a)) →
    All P (used (part m marks kept numbers))
used_to P Q m marks kept numbers h all each =
    let s : Parts = part m marks kept numbers in
    let u : HoldsOfUsed Q m = holds_of_used Q m all in
    let lats : Latch → Bool = λ l. place marks (variable l.lit) in
    let gats : Gate → Bool = λ g. place marks (variable g.lhs) in
    let nexts : All (λ l. P l.next) s.latches =
    All-map (λ l. P l.next) (renamed_latch numbers) (filter lats m.latches)
    (λ k d k_in. each (get_or (filter lats m.latches) k d).next (latches_of_cone m marks kept numbers h k d k_in).1 (All-filter lats (λ l. Q l.next) m.latches u.next k d k_in)) in
    let bads : All P s.bad = All-map P (renamed numbers) m.bad (λ k d k_in. each (get_or m.bad k d) (bads_of_cone m marks kept numbers h k d k_in) (u.bad k d k_in)) in
    let constraints : All P s.constraints =
    All-map P (renamed numbers) m.constraints (λ k d k_in. each (get_or m.constraints k d) (constraints_of_cone m marks kept numbers h k d k_in) (u.constraints k d k_in)) in
    let rights0 : All (λ g. P g.rhs0) s.gates =
    All-map (λ g. P g.rhs0) (renamed_gate numbers) (filter gats m.gates)
    (λ k d k_in. each (get_or (filter gats m.gates) k d).rhs0 (gates_of_cone m marks kept numbers h k d k_in).1 (All-filter gats (λ g. Q g.rhs0) m.gates u.left k d k_in)) in
    let rights1 : All (λ g. P g.rhs1) s.gates =
    All-map (λ g. P g.rhs1) (renamed_gate numbers) (filter gats m.gates)
    (λ k d k_in. each (get_or (filter gats m.gates) k d).rhs1 (gates_of_cone m marks kept numbers h k d k_in).2 (All-filter gats (λ g. Q g.rhs1) m.gates u.right k d k_in)) in
    All-append P _ (map (λ g. g.rhs1) s.gates)
    (All-append P _ (map (λ g. g.rhs0) s.gates)
    (All-append P _ []
    (All-append P _ []
    (All-append P _ s.constraints
    (All-append P _ s.bad (All-append P (map (λ l. l.next) s.latches) [] (All-map P (λ l. l.next) s.latches nexts) (All-nil P)) bads)
    constraints)
    (All-nil P))
    (All-nil P))
    (All-map P (λ g. g.rhs0) s.gates rights0))
    (All-map P (λ g. g.rhs1) s.gates rights1)

-- ---- each variable is defined once

map_filter_on : {X Y : Type 0} (f : X → ℕ) (g : Y → ℕ) (r : X → Y) (n : ℕ → ℕ) (marks : List Bool) → ((x : X) → g (r x) ≡ n (f x)) → (xs : List X) →
    map g (map r (filter (λ x. place marks (f x)) xs)) ≡ map n (filter (place marks) (map f xs))
map_filter_on f g r n marks same [] = refl
map_filter_on f g r n marks same (x ∷ xs) = elim (cases_Bool (place marks (f x))) [
  | inl on ↦ rw on (ap₂ (λ y ys. y ∷ ys) (same x) (map_filter_on f g r n marks same xs))
  | inr off ↦ rw off (map_filter_on f g r n marks same xs)
]

defined_are : (m : Parts) (marks : List Bool) (kept numbers : List ℕ) → defined (part m marks kept numbers) ≡ map (entry numbers) (filter (place marks) (defined m))
defined_are m marks kept numbers =
    let n : ℕ → ℕ = entry numbers in
    let ins : List ℕ = map variable m.inputs in
    let lats : List ℕ = map held m.latches in
    let gats : List ℕ = map left m.gates in
    let p : ℕ → Bool = place marks in
    ap₂ (λ xs ys. xs ++ ys)
    (ap₂ (λ xs ys. xs ++ ys) (map_filter_on variable variable (renamed numbers) n marks (renamed_variable numbers) m.inputs)
    (map_filter_on held held (renamed_latch numbers) n marks (λ l. renamed_variable numbers l.lit) m.latches))
    (map_filter_on left left (renamed_gate numbers) n marks (λ g. renamed_variable numbers g.lhs) m.gates)
    ∙ ap (λ xs. xs ++ map n (filter p gats)) (sym (map-append n (filter p ins) (filter p lats)) ∙ ap (map n) (sym (filter-append p ins lats)))
    ∙ sym (map-append n (filter p (ins ++ lats)) (filter p gats))
    ∙ ap (map n) (sym (filter-append p (ins ++ lats) gats))

once_mapped : (n : ℕ → ℕ) (back : ℕ → ℕ) (vs : List ℕ) → All (λ v. back (n v) ≡ v) vs → AllPairs (λ u v. u ≢ v) vs → AllPairs (λ u v. u ≢ v) (map n vs)
once_mapped n back vs known apart = λ i j d before j_in e.
    let last : j < length vs = omega (arith, j_in, length-map vs n) in
    let first : i < length vs = omega (arith, before, last) in
    let u : ℕ = get_or vs i d in
    let v : ℕ = get_or vs j d in
    let same : n u ≡ n v = sym (get_or-map n vs i d d first) ∙ e ∙ get_or-map n vs j d d last in
    apart i j d before last (sym (known i d first) ∙ ap back same ∙ known j d last)

defined_once : (m : Parts) (marks : List Bool) (kept numbers : List ℕ) → AreGiven m marks kept numbers → AllPairs (λ u v. u ≢ v) (defined (part m marks kept numbers))
defined_once m marks kept numbers h =
    let p : ℕ → Bool = place marks in
    let vs : List ℕ = defined m in
    let known : All (λ v. entry kept (entry numbers v) ≡ v) (filter p vs) =
    filtered p (λ v. entry kept (entry numbers v) ≡ v) vs (λ k d k_in on.
    let v : ℕ = get_or vs k d in
    let small = defined_small m v h.well (Contains-get_or vs k d k_in) in
    (h.numbered.there v (omega (arith, small)) on).1) in
    subst (AllPairs (λ u v. u ≢ v)) (sym (defined_are m marks kept numbers))
    (once_mapped (entry numbers) (entry kept) (filter p vs) known (AllPairs-filter (λ u v. u ≢ v) p vs h.well.defined_once))

-- ---- no variable is led back to

any_cases : {X : Type 0} (P : X → Type 0) (x : X) (xs : List X) → Any P (x ∷ xs) → P x ⊎ Any P xs
any_cases P x xs (zero, y, lt, at, p) = inl (subst P (sym at) p)
any_cases P x xs (suc k, y, lt, at, p) = inr (k, y, omega arith, at, p)

any_later : {X : Type 0} (P : X → Type 0) (x : X) (xs : List X) → Any P xs → Any P (x ∷ xs)
any_later P x xs (k, y, lt, at, p) = (suc k, y, omega arith, at, p)

-- the gate's variables, there and back
record IsBack (kept numbers : List ℕ) (g : Gate) : Type 0 where
  lhs : entry kept (variable (renamed numbers g.lhs)) ≡ variable g.lhs
  rhs0 : entry kept (variable (renamed numbers g.rhs0)) ≡ variable g.rhs0
  rhs1 : entry kept (variable (renamed numbers g.rhs1)) ≡ variable g.rhs1

reads_back : (kept numbers : List ℕ) (g : Gate) (v : ℕ) → IsBack kept numbers g → Reads (renamed_gate numbers g) v → Reads g (entry kept v)
reads_back kept numbers g v back (inl e) = inl (sym back.rhs0 ∙ ap (entry kept) e)
reads_back kept numbers g v back (inr e) = inr (sym back.rhs1 ∙ ap (entry kept) e)

needs_back : (kept numbers : List ℕ) (p : Gate → Bool) (gs : List Gate) (u v : ℕ) → All (λ g. p g ≡ true → IsBack kept numbers g) gs → Needs (map (renamed_gate numbers) (filter p gs)) u v →
    Needs gs (entry kept u) (entry kept v)
needs_back kept numbers p [] u v facts needs = absurd (omega (arith, needs.2))
needs_back kept numbers p (g ∷ gs) u v facts needs =
    let P : Gate → Type 0 = λ h. (variable h.lhs ≡ u) × Reads h v in
    let Q : Gate → Type 0 = λ h. (variable h.lhs ≡ entry kept u) × Reads h (entry kept v) in
    let rest : All (λ h. p h ≡ true → IsBack kept numbers h) gs = λ k d k_in. facts (suc k) d (omega (arith, k_in)) in
    elim (cases_Bool (p g)) [
      | inl on ↦
          let more : Any P (renamed_gate numbers g ∷ map (renamed_gate numbers) (filter p gs)) = rw on at needs in
          let back : IsBack kept numbers g = facts 0 g (omega arith) on in
          elim (any_cases P (renamed_gate numbers g) (map (renamed_gate numbers) (filter p gs)) more) [
            | inl here ↦ (0, g, omega arith, refl, (sym back.lhs ∙ ap (entry kept) here.0, reads_back kept numbers g v back here.1))
            | inr later ↦ any_later Q g gs (needs_back kept numbers p gs u v rest later)
          ]
      | inr off ↦ any_later Q g gs (needs_back kept numbers p gs u v rest (rw off at needs))
    ]

chain_back : (kept numbers : List ℕ) (p : Gate → Bool) (gs : List Gate) (u v : ℕ) (vs : List ℕ) → All (λ g. p g ≡ true → IsBack kept numbers g) gs →
    IsChain (map (renamed_gate numbers) (filter p gs)) (u ∷ vs ++ v ∷ []) → IsChain gs (entry kept u ∷ map (entry kept) vs ++ entry kept v ∷ [])
chain_back kept numbers p gs u v [] facts chain = (needs_back kept numbers p gs u v facts chain.0, tt)
chain_back kept numbers p gs u v (w ∷ vs) facts chain = (needs_back kept numbers p gs u w facts chain.0, chain_back kept numbers p gs w v vs facts chain.1)

no_cycle_to : (m : Parts) (marks : List Bool) (kept numbers : List ℕ) → AreGiven m marks kept numbers → HasNoCycle (part m marks kept numbers).gates
no_cycle_to m marks kept numbers h v (vs, chain) =
    let p : Gate → Bool = λ g. place marks (variable g.lhs) in
    let known : AreIn m 0 = are_in m 0 h.well in
    let facts : All (λ g. p g ≡ true → IsBack kept numbers g) m.gates = λ k d k_in on.
    let g : Gate = get_or m.gates k d in
    let sides = h.cone.gates k d k_in on in
    record {
      lhs = there_and_back m marks kept numbers g.lhs h (record { range = known.lefts k d k_in; marked = on });
      rhs0 = there_and_back m marks kept numbers g.rhs0 h (record { range = known.rights0 k d k_in; marked = sides.0 });
      rhs1 = there_and_back m marks kept numbers g.rhs1 h (record { range = known.rights1 k d k_in; marked = sides.1 });
    } in
    h.well.no_cycle (entry kept v) (map (entry kept) vs, chain_back kept numbers p m.gates v v vs facts chain)

-- ---- all of it

resets_to : (m : Parts) (marks : List Bool) (kept numbers : List ℕ) → AreGiven m marks kept numbers → All HasReset (part m marks kept numbers).latches
resets_to m marks kept numbers h =
    let p : Latch → Bool = λ l. place marks (variable l.lit) in
    let none = no_number m marks kept numbers h in
    All-map HasReset (renamed_latch numbers) (filter p m.latches) (λ k d k_in.
    let l : Latch = get_or (filter p m.latches) k d in
    reset_kept numbers l none (All-filter p HasReset m.latches h.well.resets k d k_in))

pub part_well_formed : (m : Parts) (marks : List Bool) (kept numbers : List ℕ) → AreGiven m marks kept numbers → IsWellFormed (part m marks kept numbers)
part_well_formed m marks kept numbers h =
    let s : Parts = part m marks kept numbers in
    let R : Lit → Type 0 = λ a. a.0 ≤ 2 * (length kept - 1) + 1 in
    let K : Lit → Type 0 = λ a. (variable a ≡ 0) ⊎ Contains (defined m) (variable a) in
    let ins : Lit → Bool = λ a. place marks (variable a) in
    let lats : Latch → Bool = λ l. place marks (variable l.lit) in
    let gats : Gate → Bool = λ g. place marks (variable g.lhs) in
    let none = no_number m marks kept numbers h in
    record {
      limits = let l : IsInLimits m = h.well.limits in record {
        max_var = (let few = few_numbers marks kept numbers (m.max_var + 1) h.numbered (some_kept m marks kept numbers h).0 in let most = l.max_var in omega (arith, few, most));
        inputs = omega (arith, l.inputs, length-map (filter ins m.inputs) (renamed numbers), few_kept ins m.inputs);
        latches = omega (arith, l.latches, length-map (filter lats m.latches) (renamed_latch numbers), few_kept lats m.latches);
        outputs = omega arith;
        gates = omega (arith, l.gates, length-map (filter gats m.gates) (renamed_gate numbers), few_kept gats m.gates);
        bad = omega (arith, l.bad, length-map m.bad (renamed numbers));
        constraints = omega (arith, l.constraints, length-map m.constraints (renamed numbers));
        justice = omega arith;
        fairness = omega arith;
        justice_sum = omega arith;
      };
      defining_even = defining_to (λ a. (2 ≤ a.0) × (a.0 % 2 ≡ 0)) m marks kept numbers h (λ a of even. even_to m marks kept numbers a h of even);
      defining_in_range = defining_to R m marks kept numbers h (λ a of even. range_to m marks kept numbers a h of);
      used_in_range = used_to R (λ a. a.0 ≤ 2 * m.max_var + 1) m marks kept numbers h h.well.used_in_range (λ a of range. range_to m marks kept numbers a h of);
      resets = resets_to m marks kept numbers h;
      defined_once = defined_once m marks kept numbers h;
      used_defined = used_to (λ a. (variable a ≡ 0) ⊎ Contains (defined s) (variable a)) K m marks kept numbers h h.well.used_defined (λ a of known. elim known [
        | inl zero_is ↦ inl (renamed_variable numbers a ∙ ap (entry numbers) zero_is ∙ none)
        | inr found ↦ inr (subst (Contains (defined s)) (sym (renamed_variable numbers a)) (kept_defined m marks kept numbers (variable a) found of.marked))
      ]);
      no_cycle = no_cycle_to m marks kept numbers h;
    }

-- ---- by a table of marks and numbers

-- what is marked has numbers
pub some_marked : (m : Parts) (a : Lit) (marks : List Bool) (kept numbers : List ℕ) (n : ℕ) → IsConeOf m a marks → AreNumbersTo marks kept numbers n → 0 < n → 0 < length kept
some_marked m a marks kept numbers n cone numbered some = (zero_kept marks kept numbers n numbered some cone.constant).0

pub formed_by : (m : Parts) (marks : List Bool) (kept numbers : List ℕ) (n greatest : ℕ) → IsWellFormed m → IsForBad m → IsConeOf m (bad_literal m 0) marks → AreNumbersTo marks kept numbers n → n ≡ m.max_var + 1 →
    greatest ≡ length kept - 1 → IsWellFormed (reduced_parts m marks numbers greatest)
formed_by m marks kept numbers n greatest well for_bad cone numbered count is =
    subst (λ g. IsWellFormed (reduced_parts m marks numbers g)) (sym is)
    (part_well_formed m marks kept numbers (record { well = well; for_bad = for_bad; cone = cone; numbered = subst (AreNumbersTo marks kept numbers) count numbered }))

pub all_marked_below : (m : Parts) (marks : List Bool) (kept numbers : List ℕ) (n v : ℕ) → AreNumbersTo marks kept numbers n → n ≡ m.max_var + 1 → length kept ≡ n → v ≤ m.max_var → IsMarked marks v
all_marked_below m marks kept numbers n v numbered count long below = all_marked marks kept numbers n v numbered long (omega (arith, count, below))

pub reduced_by : (m s : Parts) (t : Tables) (marks : List Bool) (kept numbers : List ℕ) (n greatest : ℕ) → IsConeOf m (bad_literal m 0) marks → AreNumbersTo marks kept numbers n → n ≡ m.max_var + 1 → IsSmall kept →
    greatest ≡ length kept - 1 → t ≡ record { kept = kept; latches = map (latch_filler marks) m.latches; inputs = map (input_filler marks) m.inputs } → s ≡ reduced_parts m marks numbers greatest → IsReduced m s t
reduced_by m s t marks kept numbers n greatest cone numbered count small last tables is =
    subst (IsReduced m s) (sym tables) (record {
      marks = marks;
      numbers = numbers;
      cone = cone;
      numbered = subst (AreNumbersTo marks kept numbers) count numbered;
      small = small;
      latches = refl;
      inputs = refl;
      only = is ∙ ap (reduced_parts m marks numbers) last;
    })

pub whole_by : (m : Parts) (marks : List Bool) → IsConeOf m (bad_literal m 0) marks → ((v : ℕ) → v ≤ m.max_var → IsMarked marks v) → IsWhole m
whole_by m marks cone all = record { marks = marks; cone = cone; all = all }
