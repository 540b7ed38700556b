-- A valuation, and its values at the variables that are kept.
use Rattle.std.proofs.Common.{◌≡◌, ◌≢◌, ℕ, zero, suc, ◌+◌, ◌-◌, ◌/◌, ◌%◌, ◌<◌, ◌≤◌, ◌==◌, if◌then◌else◌, Bool, true, false, not, ◌&&◌, List, [], ◌∷◌, ◌++◌, map, filter, length, get_or, All, Contains, inl, inr, refl, sym, ◌∙◌, ap, ap₂, subst, arith}
use Rattle.std.proofs.lemmas.Bool.{cases_Bool, cases_lt, false≢true}
use Rattle.std.proofs.lemmas.List.{get_or-map, get_or_past, length-map}
use Rattle.std.proofs.lemmas.List.Elements.{All-head, All-tail, All-map, All-filter, filter_passes, Contains-append_left, Contains-append_right, Contains-append_cases}
use Rattle.graph.specs.declared.circuit.Lit.{Lit}
use Rattle.graph.specs.declared.circuit.Latch.{Latch}
use Rattle.graph.specs.declared.circuit.Gate.{Gate}
use Rattle.graph.specs.declared.parts.Parts.{Parts}
use Rattle.graph.specs.Circuits.{Valuation, variable, place, value_of, defined, state_of, inputs_of, next_state, IsValuation, Fires, Agrees, IsReset, IsInitial, IsStep, HasReset}
use Rattle.graph.specs.WellFormed.{IsWellFormed}
use Rattle.graph.proofs.Evaluation.{held, latches_even, All-unmap}
use Rattle.graph.proofs.Gates.{left}
use Rattle.stimulus.proofs.Ranges.{bad_in_range}
use Rattle.live_safe.proofs.Ranges.{AreIn, are_in}
use Rattle.live_safe.proofs.Forced.{all_from_map, map_from_all}
use Rattle.cnf.specs.Formulas.{bad_literal}
use Rattle.cnf.specs.Meaning.{KeepsNow}
use Rattle.cones.specs.Marks.{IsMarked}
use Rattle.engine.specs.Findings.{IsForBad}
use Rattle.sequential_cones.specs.Cones.{IsConeOf}
use Rattle.cone_of_influence.specs.Numbers.{entry, renamed, AreNumbersTo}
use Rattle.cone_of_influence.specs.Reduced.{renamed_latch, renamed_gate, reduced_parts}
use Rattle.cone_of_influence.specs.Laws.{restricted}
use Rattle.cone_of_influence.proofs.Numbered.{zero_number, zero_kept}

-- what is given of the marks and the numbers
pub record AreGiven (m : Parts) (marks : List Bool) (kept numbers : List ℕ) : Type 0 where
  pub well : IsWellFormed m
  pub for_bad : IsForBad m
  pub cone : IsConeOf m (bad_literal m 0) marks
  pub numbered : AreNumbersTo marks kept numbers (m.max_var + 1)

-- the reduced circuit
abbrev pub part : Parts → List Bool → List ℕ → List ℕ → Parts
part m marks kept numbers = reduced_parts m marks numbers (length kept - 1)

-- the literal is of a variable that is kept
pub record IsOf (m : Parts) (marks : List Bool) (a : Lit) : Type 0 where
  pub range : variable a ≤ m.max_var
  pub marked : IsMarked marks (variable a)

pub some_kept : (m : Parts) (marks : List Bool) (kept numbers : List ℕ) → AreGiven m marks kept numbers → (0 < length kept) × (entry kept 0 ≡ 0)
some_kept m marks kept numbers h = zero_kept marks kept numbers (m.max_var + 1) h.numbered (omega arith) h.cone.constant

pub no_number : (m : Parts) (marks : List Bool) (kept numbers : List ℕ) → AreGiven m marks kept numbers → entry numbers 0 ≡ 0
no_number m marks kept numbers h = zero_number marks kept numbers (m.max_var + 1) h.numbered (omega arith) h.cone.constant

-- ---- values of literals

pub renamed_variable : (table : List ℕ) (a : Lit) → variable (renamed table a) ≡ entry table (variable a)
renamed_variable table a = omega arith

pub renamed_parity : (table : List ℕ) (a : Lit) → (renamed table a).0 % 2 ≡ a.0 % 2
renamed_parity table a = omega arith

value_by : (w x : List Bool) (a b : Lit) → a.0 % 2 ≡ b.0 % 2 → place w (variable a) ≡ place x (variable b) → value_of w a ≡ value_of x b
value_by w x a b parity same = ap₂ (λ (r : ℕ) (p : Bool). if r == 1 then not p else p) parity same

place_restricted : (kept : List ℕ) (w : Valuation) (k : ℕ) → k < length kept → place (restricted kept w) k ≡ place w (entry kept k)
place_restricted kept w k k_in = get_or-map (place w) kept k 0 false k_in

pub same_value : (m : Parts) (marks : List Bool) (kept numbers : List ℕ) (w : Valuation) (a : Lit) → AreGiven m marks kept numbers → IsOf m marks a →
    value_of (restricted kept w) (renamed numbers a) ≡ value_of w a
same_value m marks kept numbers w a h of =
    let range = of.range in
    let t = h.numbered.there (variable a) (omega (arith, range)) of.marked in
    value_by (restricted kept w) w (renamed numbers a) a (renamed_parity numbers a)
    (ap (place (restricted kept w)) (renamed_variable numbers a) ∙ place_restricted kept w (entry numbers (variable a)) t.0 ∙ ap (place w) t.1)

place_back : (kept : List ℕ) (w : Valuation) (k : ℕ) → place w 0 ≡ false → place w (entry kept k) ≡ place (restricted kept w) k
place_back kept w k off = elim (cases_lt k (length kept)) [
  | inl k_in ↦ sym (place_restricted kept w k k_in)
  | inr past ↦ ap (place w) (get_or_past kept k 0 past) ∙ off ∙ sym (get_or_past (restricted kept w) k false (omega (arith, length-map kept (place w), past)))
]

pub back_value : (kept : List ℕ) (w : Valuation) (a : Lit) → place w 0 ≡ false → value_of w (renamed kept a) ≡ value_of (restricted kept w) a
back_value kept w a off =
    value_by w (restricted kept w) (renamed kept a) a (renamed_parity kept a) (ap (place w) (renamed_variable kept a) ∙ place_back kept w (variable a) off)

-- ---- lists of which what is marked is kept

pub map_on : {X Y Z : Type 0} (f : Y → Z) (r : X → Y) (g : X → Z) (xs : List X) → All (λ x. f (r x) ≡ g x) xs → map f (map r xs) ≡ map g xs
map_on f r g [] all = refl
map_on f r g (x ∷ xs) all = ap₂ (λ y ys. y ∷ ys) (All-head (λ x. f (r x) ≡ g x) x xs all) (map_on f r g xs (All-tail (λ x. f (r x) ≡ g x) x xs all))

pub filtered : {X : Type 0} (p : X → Bool) (P : X → Type 0) (xs : List X) → All (λ x. p x ≡ true → P x) xs → All P (filter p xs)
filtered p P xs all k d k_in = All-filter p (λ x. p x ≡ true → P x) xs all k d k_in (filter_passes p xs k d k_in)

pub map_filter : {X : Type 0} (p : X → Bool) (f g : X → Bool) (xs : List X) → map f xs ≡ map g xs → map f (filter p xs) ≡ map g (filter p xs)
map_filter p f g xs same = map_from_all f g (filter p xs) (All-filter p (λ x. f x ≡ g x) xs (all_from_map f g xs same))

contains_kept : {X Y : Type 0} (f : X → ℕ) (g : Y → ℕ) (r : X → Y) (n : ℕ → ℕ) (marks : List Bool) → ((x : X) → g (r x) ≡ n (f x)) → (xs : List X) (v : ℕ) → Contains (map f xs) v → IsMarked marks v →
    Contains (map g (map r (filter (λ x. place marks (f x)) xs))) (n v)
contains_kept f g r n marks same [] v found on = absurd (omega (arith, found.1))
contains_kept f g r n marks same (x ∷ xs) v (zero, k_in, is) on = rw (ap (place marks) is ∙ on) (0, omega arith, same x ∙ ap n is)
contains_kept f g r n marks same (x ∷ xs) v (suc k, k_in, is) on =
    let later = contains_kept f g r n marks same xs v (k, omega arith, is) on in
    elim (cases_Bool (place marks (f x))) [
      | inl taken ↦ rw taken (Contains-append_right (g (r x) ∷ []) (map g (map r (filter (λ y. place marks (f y)) xs))) (n v) later)
      | inr gone ↦ rw gone later
    ]

-- ---- what the circuit has of each kind

pub inputs_of_cone : (m : Parts) (marks : List Bool) (kept numbers : List ℕ) → AreGiven m marks kept numbers → All (IsOf m marks) (filter (λ a. place marks (variable a)) m.inputs)
inputs_of_cone m marks kept numbers h =
    let known : AreIn m 0 = are_in m 0 h.well in
    filtered (λ a. place marks (variable a)) (IsOf m marks) m.inputs (λ k d k_in on. record { range = known.inputs k d k_in; marked = on })

pub latches_of_cone : (m : Parts) (marks : List Bool) (kept numbers : List ℕ) → AreGiven m marks kept numbers →
    All (λ l. IsOf m marks l.lit × IsOf m marks l.next) (filter (λ l. place marks (variable l.lit)) m.latches)
latches_of_cone m marks kept numbers h =
    let known : AreIn m 0 = are_in m 0 h.well in
    filtered (λ l. place marks (variable l.lit)) (λ l. IsOf m marks l.lit × IsOf m marks l.next) m.latches
    (λ k d k_in on. (record { range = known.latches k d k_in; marked = on }, record { range = known.nexts k d k_in; marked = h.cone.latches k d k_in on }))

pub gates_of_cone : (m : Parts) (marks : List Bool) (kept numbers : List ℕ) → AreGiven m marks kept numbers →
    All (λ g. IsOf m marks g.lhs × IsOf m marks g.rhs0 × IsOf m marks g.rhs1) (filter (λ g. place marks (variable g.lhs)) m.gates)
gates_of_cone m marks kept numbers h =
    let known : AreIn m 0 = are_in m 0 h.well in
    filtered (λ g. place marks (variable g.lhs)) (λ g. IsOf m marks g.lhs × IsOf m marks g.rhs0 × IsOf m marks g.rhs1) m.gates
    (λ k d k_in on. let sides = h.cone.gates k d k_in on in
    (record { range = known.lefts k d k_in; marked = on }, record { range = known.rights0 k d k_in; marked = sides.0 }, record { range = known.rights1 k d k_in; marked = sides.1 }))

pub constraints_of_cone : (m : Parts) (marks : List Bool) (kept numbers : List ℕ) → AreGiven m marks kept numbers → All (IsOf m marks) m.constraints
constraints_of_cone m marks kept numbers h k d k_in = record { range = (are_in m 0 h.well).constraints k d k_in; marked = h.cone.constraints k d k_in }

pub bad_of_cone : (m : Parts) (marks : List Bool) (kept numbers : List ℕ) → AreGiven m marks kept numbers → IsOf m marks (bad_literal m 0)
bad_of_cone m marks kept numbers h =
    let one : length m.bad ≡ 1 = ap length h.for_bad.one in
    record { range = bad_in_range m h.well 0 (record { 0 = 0 }) (omega (arith, one)); marked = h.cone.root }

-- ---- a valuation of the circuit is one of the reduced circuit

pub kept_defined : (m : Parts) (marks : List Bool) (kept numbers : List ℕ) (v : ℕ) → Contains (defined m) v → IsMarked marks v → Contains (defined (part m marks kept numbers)) (entry numbers v)
kept_defined m marks kept numbers v found on =
    let s : Parts = part m marks kept numbers in
    elim (Contains-append_cases (map variable m.inputs ++ map held m.latches) (map left m.gates) v found) [
      | inl outside ↦ Contains-append_left (map variable s.inputs ++ map held s.latches) (map left s.gates) (entry numbers v)
          (elim (Contains-append_cases (map variable m.inputs) (map held m.latches) v outside) [
            | inl input ↦ Contains-append_left (map variable s.inputs) (map held s.latches) (entry numbers v)
                (contains_kept variable variable (renamed numbers) (entry numbers) marks (renamed_variable numbers) m.inputs v input on)
            | inr latch ↦ Contains-append_right (map variable s.inputs) (map held s.latches) (entry numbers v)
                (contains_kept held held (renamed_latch numbers) (entry numbers) marks (λ l. renamed_variable numbers l.lit) m.latches v latch on)
          ])
      | inr gate ↦ Contains-append_right (map variable s.inputs ++ map held s.latches) (map left s.gates) (entry numbers v)
          (contains_kept left left (renamed_gate numbers) (entry numbers) marks (λ g. renamed_variable numbers g.lhs) m.gates v gate on)
    ]

pub valuation_to : (m : Parts) (marks : List Bool) (kept numbers : List ℕ) (w : Valuation) → AreGiven m marks kept numbers → IsValuation m w → IsValuation (part m marks kept numbers) (restricted kept w)
valuation_to m marks kept numbers w h is =
    let s : Parts = part m marks kept numbers in
    let first = some_kept m marks kept numbers h in
    let some = first.0 in
    record {
      places = omega (arith, length-map kept (place w), some);
      constant = place_restricted kept w 0 first.0 ∙ ap (place w) first.1 ∙ is.constant;
      defined_only = λ k on. elim (cases_lt k (length kept)) [
        | inl k_in ↦
            let b = h.numbered.back k k_in in
            subst (Contains (defined s)) b.2 (kept_defined m marks kept numbers (entry kept k) (is.defined_only (entry kept k) (sym (place_restricted kept w k k_in) ∙ on)) b.1)
        | inr past ↦ absurd (false≢true (sym (get_or_past (restricted kept w) k false (omega (arith, length-map kept (place w), past))) ∙ on))
      ];
    }

pub agrees_to : (m : Parts) (marks : List Bool) (kept numbers : List ℕ) (w : Valuation) → AreGiven m marks kept numbers → Agrees m w → Agrees (part m marks kept numbers) (restricted kept w)
agrees_to m marks kept numbers w h agrees =
    let x : Valuation = restricted kept w in
    let passes : Gate → Bool = λ g. place marks (variable g.lhs) in
    record {
      valuation = valuation_to m marks kept numbers w h agrees.valuation;
      gates = All-map (Fires x) (renamed_gate numbers) (filter passes m.gates) (λ k d k_in.
          let g : Gate = get_or (filter passes m.gates) k d in
          let of = gates_of_cone m marks kept numbers h k d k_in in
          let fires : Fires w g = All-filter passes (Fires w) m.gates agrees.gates k d k_in in
          same_value m marks kept numbers w g.lhs h of.0 ∙ fires
          ∙ sym (ap₂ (λ p q. p && q) (same_value m marks kept numbers w g.rhs0 h of.1) (same_value m marks kept numbers w g.rhs1 h of.2)));
    }

-- ---- states, inputs, steps

pub states_to : (m : Parts) (marks : List Bool) (kept numbers : List ℕ) (w : Valuation) → AreGiven m marks kept numbers →
    state_of (part m marks kept numbers) (restricted kept w) ≡ map (λ l. value_of w l.lit) (filter (λ l. place marks (variable l.lit)) m.latches)
states_to m marks kept numbers w h =
    let ls : List Latch = filter (λ l. place marks (variable l.lit)) m.latches in
    map_on (λ l. value_of (restricted kept w) l.lit) (renamed_latch numbers) (λ l. value_of w l.lit) ls
    (λ k d k_in. same_value m marks kept numbers w (get_or ls k d).lit h (latches_of_cone m marks kept numbers h k d k_in).0)

pub nexts_to : (m : Parts) (marks : List Bool) (kept numbers : List ℕ) (w : Valuation) → AreGiven m marks kept numbers →
    next_state (part m marks kept numbers) (restricted kept w) ≡ map (λ l. value_of w l.next) (filter (λ l. place marks (variable l.lit)) m.latches)
nexts_to m marks kept numbers w h =
    let ls : List Latch = filter (λ l. place marks (variable l.lit)) m.latches in
    map_on (λ l. value_of (restricted kept w) l.next) (renamed_latch numbers) (λ l. value_of w l.next) ls
    (λ k d k_in. same_value m marks kept numbers w (get_or ls k d).next h (latches_of_cone m marks kept numbers h k d k_in).1)

pub inputs_to : (m : Parts) (marks : List Bool) (kept numbers : List ℕ) (w : Valuation) → AreGiven m marks kept numbers →
    inputs_of (part m marks kept numbers) (restricted kept w) ≡ map (value_of w) (filter (λ a. place marks (variable a)) m.inputs)
inputs_to m marks kept numbers w h =
    let ins : List Lit = filter (λ a. place marks (variable a)) m.inputs in
    map_on (value_of (restricted kept w)) (renamed numbers) (value_of w) ins
    (λ k d k_in. same_value m marks kept numbers w (get_or ins k d) h (inputs_of_cone m marks kept numbers h k d k_in))

pub step_to : (m : Parts) (marks : List Bool) (kept numbers : List ℕ) (w x : Valuation) → AreGiven m marks kept numbers → IsStep m w x →
    IsStep (part m marks kept numbers) (restricted kept w) (restricted kept x)
step_to m marks kept numbers w x h step =
    states_to m marks kept numbers x h
    ∙ map_filter (λ l. place marks (variable l.lit)) (λ l. value_of x l.lit) (λ l. value_of w l.next) m.latches step
    ∙ sym (nexts_to m marks kept numbers w h)

pub keeps_to : (m : Parts) (marks : List Bool) (kept numbers : List ℕ) (w : Valuation) → AreGiven m marks kept numbers → KeepsNow m w → KeepsNow (part m marks kept numbers) (restricted kept w)
keeps_to m marks kept numbers w h keeps =
    All-map (λ a. value_of (restricted kept w) a ≡ true) (renamed numbers) m.constraints
    (λ k d k_in. same_value m marks kept numbers w (get_or m.constraints k d) h (constraints_of_cone m marks kept numbers h k d k_in) ∙ keeps k d k_in)

pub keeps_from : (m : Parts) (marks : List Bool) (kept numbers : List ℕ) (w : Valuation) → AreGiven m marks kept numbers → KeepsNow (part m marks kept numbers) (restricted kept w) → KeepsNow m w
keeps_from m marks kept numbers w h keeps k d k_in =
    sym (same_value m marks kept numbers w (get_or m.constraints k d) h (constraints_of_cone m marks kept numbers h k d k_in))
    ∙ All-unmap (λ a. value_of (restricted kept w) a ≡ true) (renamed numbers) m.constraints keeps k d k_in

-- ---- resets

-- a latch begins with the same, renamed
reset_from : (numbers : List ℕ) (l : Latch) → entry numbers 0 ≡ 0 → HasReset l → (2 ≤ l.lit.0) × (l.lit.0 % 2 ≡ 0) → entry numbers (variable l.lit) ≢ 0 →
    ((renamed numbers l.reset).0 ≡ 0 → l.reset.0 ≡ 0) × ((renamed numbers l.reset).0 ≡ 1 → l.reset.0 ≡ 1)
reset_from numbers l none (inl low) even apart = (λ e. low, λ e. absurd (let at : entry numbers (l.reset.0 / 2) ≡ 0 = ap (λ r. entry numbers (r / 2)) low ∙ none in omega (arith, e, at, low)))
reset_from numbers l none (inr (inl high)) even apart = (λ e. absurd (let at : entry numbers (l.reset.0 / 2) ≡ 0 = ap (λ r. entry numbers (r / 2)) high ∙ none in omega (arith, e, at, high)), λ e. high)
reset_from numbers l none (inr (inr own)) even apart =
    let at : entry numbers (l.reset.0 / 2) ≡ entry numbers (variable l.lit) = ap (λ r. entry numbers (r / 2)) own in (
      λ e. absurd (apart (omega (arith, e, at))),
      λ e. absurd (apart (omega (arith, e, at))),
    )

pub reset_to : (numbers : List ℕ) (l : Latch) → entry numbers 0 ≡ 0 → (l.reset.0 ≡ 0 → (renamed numbers l.reset).0 ≡ 0) × (l.reset.0 ≡ 1 → (renamed numbers l.reset).0 ≡ 1)
reset_to numbers l none = (
  λ e. let at : entry numbers (l.reset.0 / 2) ≡ 0 = ap (λ r. entry numbers (r / 2)) e ∙ none in omega (arith, e, at),
  λ e. let at : entry numbers (l.reset.0 / 2) ≡ 0 = ap (λ r. entry numbers (r / 2)) e ∙ none in omega (arith, e, at),
)

-- the variable of a latch that is kept has a number
pub numbered_apart : (m : Parts) (marks : List Bool) (kept numbers : List ℕ) (a : Lit) → AreGiven m marks kept numbers → IsOf m marks a → 2 ≤ a.0 → entry numbers (variable a) ≢ 0
numbered_apart m marks kept numbers a h of low none =
    let range = of.range in
    let t = h.numbered.there (variable a) (omega (arith, range)) of.marked in
    let zero_is : variable a ≡ 0 = sym t.1 ∙ ap (entry kept) none ∙ (some_kept m marks kept numbers h).1 in
    omega (arith, zero_is, low)

pub initial_to : (m : Parts) (marks : List Bool) (kept numbers : List ℕ) (w : Valuation) → AreGiven m marks kept numbers → IsInitial m w → IsInitial (part m marks kept numbers) (restricted kept w)
initial_to m marks kept numbers w h initial =
    let passes : Latch → Bool = λ l. place marks (variable l.lit) in
    let ls : List Latch = filter passes m.latches in
    All-map (IsReset (restricted kept w)) (renamed_latch numbers) ls (λ k d k_in.
    let l : Latch = get_or ls k d in
    let of = (latches_of_cone m marks kept numbers h k d k_in).0 in
    let even = All-filter passes (λ l. (2 ≤ l.lit.0) × (l.lit.0 % 2 ≡ 0)) m.latches (latches_even m h.well) k d k_in in
    let has : HasReset l = All-filter passes HasReset m.latches h.well.resets k d k_in in
    let reset : IsReset w l = All-filter passes (IsReset w) m.latches initial k d k_in in
    let from = reset_from numbers l (no_number m marks kept numbers h) has even (numbered_apart m marks kept numbers l.lit h of even.0) in
    let same = same_value m marks kept numbers w l.lit h of in
    record { low = λ e. same ∙ reset.low (from.0 e); high = λ e. same ∙ reset.high (from.1 e) })
