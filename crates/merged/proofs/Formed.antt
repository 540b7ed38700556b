-- The merged circuit is well formed.
use Rattle.std.proofs.Common.{◌≡◌, ◌≢◌, ◌∙◌, ℕ, zero, suc, ◌+◌, ◌*◌, ◌%◌, ◌≤◌, Bool, true, false, ◌⊎◌, inl, inr, List, [], ◌∷◌, ◌++◌, map, get_or, All, AllPairs, Any, Contains, Option, None, Some, refl, sym, ap, subst, arith}
use Rattle.std.proofs.lemmas.Bool.{cases_eq, eq-eqb, ne_eqb}
use Rattle.std.proofs.lemmas.List.{length-map}
use Rattle.std.proofs.lemmas.List.Elements.{All-nil, All-head, All-tail, All-append, All-map, All-contains, Contains-append_left, Contains-append_right}
use Rattle.graph.specs.declared.circuit.Lit.{Lit}
use Rattle.graph.specs.declared.circuit.Gate.{Gate}
use Rattle.graph.specs.declared.parts.Parts.{Parts}
use Rattle.graph.specs.Circuits.{variable, defined, defining, HasReset}
use Rattle.graph.specs.WellFormed.{used, Reads, Needs, IsChain, HasNoCycle, IsInLimits, IsWellFormed}
use Rattle.graph.proofs.Evaluation.{held, once-across, defined_nonzero}
use Rattle.graph.proofs.Gates.{left}
use Rattle.graph.proofs.Tabled.{HoldsOfUsed, holds_of_used}
use Rattle.cnf.specs.Clauses.{along, is_negated}
use Rattle.cnf.specs.Formulas.{clause_at, IsOverLatches}
use Rattle.cnf.proofs.CaseLaws.{clause_range}
use Rattle.merged.specs.Reading.{read_by, entry, read_as, opposite_of, SaysConstant, SaysEqual, SaysAt, IsTable}
use Rattle.merged.specs.Merged.{merged_latch, merged_gate, merged_parts}
use Rattle.merged.proofs.Read.{map_same}
use Rattle.merged.proofs.Valued.{lefts_same, defined_same}

-- negating keeps the variable, and the range
pub along_variable : (b : Bool) (a : Lit) → variable (along b a) ≡ variable a
along_variable false a = refl
along_variable true a = elim (cases_eq (a.0 % 2) 1) [
  | inl odd ↦ rw (eq-eqb (a.0 % 2) 1 odd) (omega arith)
  | inr even ↦ rw (ne_eqb (a.0 % 2) 1 even) (omega arith)
]

pub along_in : (n : ℕ) (b : Bool) (a : Lit) → a.0 ≤ 2 * n + 1 → (along b a).0 ≤ 2 * n + 1
along_in n false a range = range
along_in n true a range = elim (cases_eq (a.0 % 2) 1) [
  | inl odd ↦ rw (eq-eqb (a.0 % 2) 1 odd) (omega arith)
  | inr even ↦ rw (ne_eqb (a.0 % 2) 1 even) (omega arith)
]

-- the variable of the constant or of a latch, in range
pub record IsSource (m : Parts) (b : Lit) : Type 0 where
  pub known : (variable b ≡ 0) ⊎ Contains (map held m.latches) (variable b)
  pub range : b.0 ≤ 2 * m.max_var + 1

source_constant : (m : Parts) (c : List Lit) (v : ℕ) (b : Lit) → SaysConstant c v b → IsSource m b
source_constant m c v b said = subst (IsSource m) (sym said.value_is) (record {
  known = inl (along_variable (is_negated said.lit) (record { 0 = 1 }));
  range = along_in m.max_var (is_negated said.lit) (record { 0 = 1 }) (omega arith);
})

second_in : (P : Lit → Type 0) (c : List Lit) (a b : Lit) → c ≡ a ∷ b ∷ [] → All P c → P b
second_in P c a b e all = let here : All P (a ∷ b ∷ []) = subst (All P) e all in All-head P b [] (All-tail P a (b ∷ []) here)

source_equal : (m : Parts) (c d : List Lit) (v : ℕ) (b : Lit) → IsWellFormed m → IsOverLatches m c → SaysEqual c d v b → IsSource m b
source_equal m c d v b well over said =
    let y : Lit = said.other in
    let same : variable (opposite_of said.one y) ≡ variable y = along_variable (is_negated said.one) (along true y) ∙ along_variable true y in
    subst (IsSource m) (sym said.value_is) (record {
      known = inr (subst (Contains (map held m.latches)) (sym same) (second_in (λ a. Contains (map held m.latches) (variable a)) c said.one y said.here over));
      range = along_in m.max_var (is_negated said.one) (along true y) (along_in m.max_var true y (second_in (λ a. a.0 ≤ 2 * m.max_var + 1) c said.one y said.here (clause_range m c well over)));
    })

-- a clause at a place is over the latches
over_at : (m : Parts) (cs : List (List Lit)) (k : ℕ) → All (IsOverLatches m) cs → IsOverLatches m (clause_at cs k)
over_at m [] k overs = All-nil (λ a. Contains (map held m.latches) (variable a))
over_at m (c ∷ cs) zero overs = All-head (IsOverLatches m) c cs overs
over_at m (c ∷ cs) (suc k) overs = over_at m cs k (All-tail (IsOverLatches m) c cs overs)

source_at : (m : Parts) (cs : List (List Lit)) (k v : ℕ) (b : Lit) → IsWellFormed m → All (IsOverLatches m) cs → SaysAt cs k v b → IsSource m b
source_at m cs k v b well overs (inl said) = source_constant m (clause_at cs k) v b said
source_at m cs k v b well overs (inr said) = source_equal m (clause_at cs k) (clause_at cs (k + 1)) v b well (over_at m cs k overs) said

-- what variables are read as
abbrev pub AreSources : Parts → List (Option Lit) → Type 0
AreSources m t = (v : ℕ) (b : Lit) → entry t v ≡ Some b → IsSource m b

pub sources : (m : Parts) (cs : List (List Lit)) (t : List (Option Lit)) → IsWellFormed m → All (IsOverLatches m) cs → IsTable cs t → AreSources m t
sources m cs t well overs is_table v b is = let said = is_table.said v b is in source_at m cs said.0 v b well overs said.1

-- what is kept where a literal is itself or is read as one of these
read_by_keeps : (P : Lit → Type 0) (m : Parts) (o : Option Lit) (a : Lit) → ((b : Lit) → o ≡ Some b → IsSource m b) → P a → ((b : Lit) (neg : Bool) → IsSource m b → P (along neg b)) → P (read_by o a)
read_by_keeps P m None a are p each = p
read_by_keeps P m (Some b) a are p each = each b (is_negated a) (are b refl)

read_keeps : (P : Lit → Type 0) (m : Parts) (t : List (Option Lit)) (a : Lit) → AreSources m t → P a → ((b : Lit) (neg : Bool) → IsSource m b → P (along neg b)) → P (read_as t a)
read_keeps P m t a are p each = read_by_keeps P m (entry t (variable a)) a (are (variable a)) p each

-- all that the merged circuit uses
used_keeps : (P : Lit → Type 0) (m : Parts) (t : List (Option Lit)) → ((a : Lit) → P a → P (read_as t a)) → All P (used m) → All P (used (merged_parts m t))
used_keeps P m t keeps all =
    let u : HoldsOfUsed P m = holds_of_used P m all in
    let s : Parts = merged_parts m t in
    let nexts : All (λ l. P l.next) s.latches = All-map (λ l. P l.next) (merged_latch t) m.latches (λ k d k_in. keeps (get_or m.latches k d).next (u.next k d k_in)) in
    let rights0 : All (λ g. P g.rhs0) s.gates = All-map (λ g. P g.rhs0) (merged_gate t) m.gates (λ k d k_in. keeps (get_or m.gates k d).rhs0 (u.left k d k_in)) in
    let rights1 : All (λ g. P g.rhs1) s.gates = All-map (λ g. P g.rhs1) (merged_gate t) m.gates (λ k d k_in. keeps (get_or m.gates k d).rhs1 (u.right k d k_in)) in
    All-append P _ (map (λ g. g.rhs1) s.gates)
    (All-append P _ (map (λ g. g.rhs0) s.gates)
    (All-append P _ []
    (All-append P _ []
    (All-append P _ s.constraints
    (All-append P _ s.bad
    (All-append P (map (λ l. l.next) s.latches) [] (All-map P (λ l. l.next) s.latches nexts) (All-nil P))
    (All-map P (read_as t) m.bad (λ k d k_in. keeps (get_or m.bad k d) (u.bad k d k_in))))
    (All-map P (read_as t) m.constraints (λ k d k_in. keeps (get_or m.constraints k d) (u.constraints k d k_in))))
    (All-nil P))
    (All-nil P))
    (All-map P (λ g. g.rhs0) s.gates rights0))
    (All-map P (λ g. g.rhs1) s.gates rights1)

defining_same : (m : Parts) (t : List (Option Lit)) → defining (merged_parts m t) ≡ defining m
defining_same m t =
    ap (λ xs. m.inputs ++ xs ++ map (λ g. g.lhs) (map (merged_gate t) m.gates)) (map_same (λ l. l.lit) (merged_latch t) (λ l. l.lit) m.latches (λ l. refl))
    ∙ ap (λ xs. m.inputs ++ map (λ l. l.lit) m.latches ++ xs) (map_same (λ g. g.lhs) (merged_gate t) (λ g. g.lhs) m.gates (λ g. refl))

-- a gate's variable is not read through a latch
gate_apart : (m : Parts) (b : Lit) (v : ℕ) → IsWellFormed m → IsSource m b → variable b ≡ v → Contains (map left m.gates) v → ⊥
gate_apart m b v well source is gate = elim source.known [
  | inl none ↦ All-contains (λ u. u ≢ 0) (defined m) v (defined_nonzero m well) (Contains-append_right (map variable m.inputs ++ map held m.latches) (map left m.gates) v gate) (sym is ∙ none)
  | inr latch ↦ once-across (map variable m.inputs ++ map held m.latches) (map left m.gates) v well.defined_once
      (Contains-append_right (map variable m.inputs) (map held m.latches) v (subst (Contains (map held m.latches)) is latch)) gate
]

side_from : (m : Parts) (t : List (Option Lit)) (a : Lit) (v : ℕ) → IsWellFormed m → AreSources m t → Contains (map left m.gates) v → variable (read_as t a) ≡ v → variable a ≡ v
side_from m t a v well are gate is =
    let P : Lit → Type 0 = λ b. variable b ≡ v → variable a ≡ v in
    read_keeps P m t a are (λ e. e) (λ b neg source e. absurd (gate_apart m b v well source (sym (along_variable neg b) ∙ e) gate)) is

reads_from : (m : Parts) (t : List (Option Lit)) (g : Gate) (v : ℕ) → IsWellFormed m → AreSources m t → Contains (map left m.gates) v → Reads (merged_gate t g) v → Reads g v
reads_from m t g v well are gate (inl e) = inl (side_from m t g.rhs0 v well are gate e)
reads_from m t g v well are gate (inr e) = inr (side_from m t g.rhs1 v well are gate e)

any_unmap : {X Y : Type 0} (P : Y → Type 0) (Q : X → Type 0) (f : X → Y) (xs : List X) → ((x : X) → P (f x) → Q x) → Any P (map f xs) → Any Q xs
any_unmap P Q f [] each (k, y, lt, at, p) = absurd (omega arith)
any_unmap P Q f (x ∷ xs) each (zero, y, lt, at, p) = (0, x, omega arith, refl, each x (subst P (sym at) p))
any_unmap P Q f (x ∷ xs) each (suc k, y, lt, at, p) = let rest = any_unmap P Q f xs each (k, y, omega arith, at, p) in (suc rest.0, rest.1, omega (arith, rest.2), rest.3, rest.4)

needs_from : (m : Parts) (t : List (Option Lit)) (u v : ℕ) → IsWellFormed m → AreSources m t → Contains (map left m.gates) v → Needs (map (merged_gate t) m.gates) u v → Needs m.gates u v
needs_from m t u v well are gate needs =
    any_unmap (λ g. (variable g.lhs ≡ u) × Reads g v) (λ g. (variable g.lhs ≡ u) × Reads g v) (merged_gate t) m.gates (λ g p. (p.0, reads_from m t g v well are gate p.1)) needs

-- what needs a variable is a gate's
gate_of : (gs : List Gate) (u v : ℕ) → Needs gs u v → Contains (map left gs) u
gate_of [] u v (k, g, lt, at, p) = absurd (omega arith)
gate_of (h ∷ gs) u v (zero, g, lt, at, p) = (0, omega arith, ap left at ∙ p.0)
gate_of (h ∷ gs) u v (suc k, g, lt, at, p) = Contains-append_right (left h ∷ []) (map left gs) u (gate_of gs u v (k, g, omega arith, at, p))

gate_of_merged : (m : Parts) (t : List (Option Lit)) (u v : ℕ) → Needs (map (merged_gate t) m.gates) u v → Contains (map left m.gates) u
gate_of_merged m t u v needs = subst (λ vs. Contains vs u) (lefts_same t m.gates) (gate_of (map (merged_gate t) m.gates) u v needs)

first_gate : (m : Parts) (t : List (Option Lit)) (u v : ℕ) (vs : List ℕ) → IsChain (map (merged_gate t) m.gates) (u ∷ vs ++ v ∷ []) → Contains (map left m.gates) u
first_gate m t u v [] chain = gate_of_merged m t u v chain.0
first_gate m t u v (w ∷ vs) chain = gate_of_merged m t u w chain.0

chain_from : (m : Parts) (t : List (Option Lit)) (u v : ℕ) (vs : List ℕ) → IsWellFormed m → AreSources m t → Contains (map left m.gates) v →
    IsChain (map (merged_gate t) m.gates) (u ∷ vs ++ v ∷ []) → IsChain m.gates (u ∷ vs ++ v ∷ [])
chain_from m t u v [] well are gate chain = (needs_from m t u v well are gate chain.0, chain.1)
chain_from m t u v (w ∷ vs) well are gate chain =
    (needs_from m t u w well are (first_gate m t w v vs chain.1) chain.0, chain_from m t w v vs well are gate chain.1)

no_cycle_from : (m : Parts) (t : List (Option Lit)) → IsWellFormed m → AreSources m t → HasNoCycle (map (merged_gate t) m.gates)
no_cycle_from m t well are v (vs, chain) = well.no_cycle v (vs, chain_from m t v v vs well are (first_gate m t v v vs chain) chain)

pub merged_well_formed : (m : Parts) (t : List (Option Lit)) → IsWellFormed m → AreSources m t → IsWellFormed (merged_parts m t)
merged_well_formed m t well are =
    let R : Lit → Type 0 = λ a. a.0 ≤ 2 * m.max_var + 1 in
    let K : Lit → Type 0 = λ a. (variable a ≡ 0) ⊎ Contains (defined m) (variable a) in
    let known : (b : Lit) (neg : Bool) → IsSource m b → K (along neg b) = λ b neg source. elim source.known [
      | inl none ↦ inl (along_variable neg b ∙ none)
      | inr latch ↦ inr (subst (Contains (defined m)) (sym (along_variable neg b))
          (Contains-append_left (map variable m.inputs ++ map held m.latches) (map left m.gates) (variable b) (Contains-append_right (map variable m.inputs) (map held m.latches) (variable b) latch)))
    ] in
    record {
      limits = let l : IsInLimits m = well.limits in record {
        max_var = l.max_var;
        inputs = l.inputs;
        latches = omega (arith, l.latches, length-map m.latches (merged_latch t));
        outputs = omega arith;
        gates = omega (arith, l.gates, length-map m.gates (merged_gate t));
        bad = omega (arith, l.bad, length-map m.bad (read_as t));
        constraints = omega (arith, l.constraints, length-map m.constraints (read_as t));
        justice = omega arith;
        fairness = omega arith;
        justice_sum = omega arith;
      };
      defining_even = subst (All (λ a. (2 ≤ a.0) × (a.0 % 2 ≡ 0))) (sym (defining_same m t)) well.defining_even;
      defining_in_range = subst (All R) (sym (defining_same m t)) well.defining_in_range;
      used_in_range = used_keeps R m t (λ a p. read_keeps R m t a are p (λ b neg source. along_in m.max_var neg b source.range)) well.used_in_range;
      resets = All-map HasReset (merged_latch t) m.latches well.resets;
      defined_once = subst (AllPairs (λ u v. u ≢ v)) (sym (defined_same m t)) well.defined_once;
      used_defined = subst (λ vs. All (λ a. (variable a ≡ 0) ⊎ Contains vs (variable a)) (used (merged_parts m t))) (sym (defined_same m t)) (used_keeps K m t (λ a p. read_keeps K m t a are p known) well.used_defined);
      no_cycle = no_cycle_from m t well are;
    }
