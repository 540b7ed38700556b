-- Circuits whose defining literals are numbered 2, 4, 6 and so on.
use Rattle.std.proofs.Common.{◌≡◌, ◌≢◌, ℕ, ◌+◌, ◌-◌, ◌*◌, ◌%◌, ◌<◌, ◌≤◌, ◌⊎◌, List, [], ◌∷◌, ◌++◌, map, length, get_or, All, AllPairs, Contains, inl, inr, refl, sym, ◌∙◌, ap, subst, arith}
use Rattle.std.specs.List.{range_with_len}
use Rattle.std.proofs.lemmas.Simd.{map-map}
use Rattle.std.proofs.lemmas.List.{map-append, map-id, get_or-map, length-map}
use Rattle.std.proofs.lemmas.List.FromFn.{length-range_with_len, get_or-range_with_len, map-range_with_len_more}
use Rattle.graph.specs.declared.circuit.Lit.{Lit}
use Rattle.graph.specs.declared.circuit.Gate.{Gate}
use Rattle.graph.specs.declared.circuit.Latch.{Latch}
use Rattle.graph.specs.declared.parts.Parts.{Parts}
use Rattle.graph.specs.Circuits.{variable, defined, defining, IsNumbered, IsDescending, IsOrdered}
use Rattle.graph.specs.WellFormed.{used, Needs, Reads, IsChain, HasNoCycle, gate_in, IsOrder, IsModel}
use Rattle.graph.specs.Faults.{HasFineLiterals, HasDefined}
use Rattle.graph.proofs.Blank.{blank_lit}
use Rattle.graph.proofs.Filled.{same_or_not}
use Rattle.graph.proofs.Numbered.{IsNumbered-third}
use Rattle.graph.proofs.Shape.{fine_lists, well_formed_from}

-- what is numbered from 1 is even and not the constant, in range, and has each variable once
pub numbered_even : (xs : List Lit) → IsNumbered 1 xs → All (λ a. (2 ≤ a.0) × (a.0 % 2 ≡ 0)) xs
numbered_even xs numbered k d k_in = let e = numbered k d k_in in (omega (arith, e), omega (arith, e))

pub numbered_in_range : (xs : List Lit) (max : ℕ) → IsNumbered 1 xs → length xs ≤ max → All (λ a. a.0 ≤ 2 * max + 1) xs
numbered_in_range xs max numbered few k d k_in = let e = numbered k d k_in in omega (arith, e)

variable_at : (xs : List Lit) (k : ℕ) (d : Lit) → IsNumbered 1 xs → k < length xs → variable (get_or xs k d) ≡ k + 1
variable_at xs k d numbered k_in = let e = numbered k d k_in in omega (arith, e)

pub numbered_once : (xs : List Lit) → IsNumbered 1 xs → AllPairs (λ u v. u ≢ v) (map variable xs)
numbered_once xs numbered i j d i_j j_in same =
    let blank : Lit = blank_lit in
    let j_short : j < length xs = omega (arith, length-map xs variable) in
    let at_i : get_or (map variable xs) i d ≡ i + 1 = get_or-map variable xs i blank d (omega arith) ∙ variable_at xs i blank numbered (omega arith) in
    let at_j : get_or (map variable xs) j d ≡ j + 1 = get_or-map variable xs j blank d j_short ∙ variable_at xs j blank numbered j_short in
    omega (arith, at_i, at_j, same)

-- every variable up to their number is one of theirs
pub numbered_all : (xs : List Lit) (v : ℕ) → IsNumbered 1 xs → v ≢ 0 → v ≤ length xs → Contains (map variable xs) v
numbered_all xs v numbered positive v_in =
    let blank : Lit = blank_lit in
    let k : ℕ = v - 1 in
    let k_in : k < length xs = omega arith in
    (k, omega (arith, length-map xs variable), get_or-map variable xs k blank v k_in ∙ variable_at xs k blank numbered k_in ∙ (omega arith))

-- the variables that are defined are those of the defining literals
pub defined_is : (m : Parts) → defined m ≡ map variable (defining m)
defined_is m =
    sym (map-append variable (m.inputs ++ map (λ l. l.lit) m.latches) (map (λ g. g.lhs) m.gates)
    ∙ ap (λ vs. vs ++ map variable (map (λ (g : Gate). g.lhs) m.gates)) (map-append variable m.inputs (map (λ l. l.lit) m.latches))
    ∙ ap (λ vs. map variable m.inputs ++ vs ++ map variable (map (λ (g : Gate). g.lhs) m.gates)) (map-map variable (λ (l : Latch). l.lit) m.latches)
    ∙ ap (λ vs. map variable m.inputs ++ map (λ (l : Latch). variable l.lit) m.latches ++ vs) (map-map variable (λ (g : Gate). g.lhs) m.gates))

-- ---- no cycle among gates whose right sides are below the left

Needs-below : (gs : List Gate) (u v : ℕ) → All IsDescending gs → All (λ g. g.lhs.0 % 2 ≡ 0) gs → Needs gs u v → v < u
Needs-below gs u v descending even (k, g, k_in, at, (left, reads)) =
    let down : IsDescending g = subst IsDescending at (descending k g k_in) in
    let is_even : g.lhs.0 % 2 ≡ 0 = subst (λ (h : Gate). h.lhs.0 % 2 ≡ 0) at (even k g k_in) in
    elim reads [
      | inl first ↦ omega (arith, down.0, down.1, is_even, left, first)
      | inr second ↦ omega (arith, down.0, down.1, is_even, left, second)
    ]

chain_below : (gs : List Gate) (us : List ℕ) (u v : ℕ) → All IsDescending gs → All (λ g. g.lhs.0 % 2 ≡ 0) gs → IsChain gs (u ∷ us ++ v ∷ []) → v < u
chain_below gs [] u v descending even chain = Needs-below gs u v descending even chain.0
chain_below gs (w ∷ us) u v descending even chain =
    let one = Needs-below gs u w descending even chain.0 in
    let rest = chain_below gs us w v descending even chain.1 in
    omega arith

pub no_cycle_below : (gs : List Gate) → All IsDescending gs → All (λ g. g.lhs.0 % 2 ≡ 0) gs → HasNoCycle gs
no_cycle_below gs descending even v leads = let below = chain_below gs leads.0 v v descending even leads.1 in omega arith

-- ---- ordered circuits

-- a literal in range is the constant's or defined
pub is_defined : (m : Parts) → IsOrdered m → (a : Lit) → a.0 ≤ 2 * m.max_var + 1 → (variable a ≡ 0) ⊎ Contains (defined m) (variable a)
is_defined m o a within = elim (same_or_not (variable a) 0) [
  | inl constant ↦ inl constant
  | inr proper ↦ inr (subst (λ vs. Contains vs (variable a)) (sym (defined_is m)) (numbered_all (defining m) (variable a) o.numbered proper (omega (arith, within, o.all_defined))))
]

pub defined_once : (m : Parts) → IsOrdered m → AllPairs (λ u v. u ≢ v) (defined m)
defined_once m o = subst (AllPairs (λ u v. u ≢ v)) (sym (defined_is m)) (numbered_once (defining m) o.numbered)

-- the variable before the first gate's
abbrev before_gates : Parts → ℕ
before_gates m = 1 + length m.inputs + length (map (λ (l : Latch). l.lit) m.latches)

left_at : (m : Parts) → IsOrdered m → (k : ℕ) (d : Gate) → k < length m.gates → (get_or m.gates k d).lhs.0 ≡ 2 * (before_gates m + k)
left_at m o k d k_in =
    let third : IsNumbered (before_gates m) (map (λ (g : Gate). g.lhs) m.gates) = IsNumbered-third m.inputs (map (λ (l : Latch). l.lit) m.latches) (map (λ (g : Gate). g.lhs) m.gates) (length m.inputs) (length (map (λ (l : Latch). l.lit) m.latches)) refl refl o.numbered in
    ap (λ (a : Lit). a.0) (sym (get_or-map (λ (g : Gate). g.lhs) m.gates k d blank_lit k_in)) ∙ third k blank_lit (omega (arith, k_in, length-map m.gates (λ (g : Gate). g.lhs)))

lefts_even : (m : Parts) → IsOrdered m → All (λ g. g.lhs.0 % 2 ≡ 0) m.gates
lefts_even m o k d k_in = let e = left_at m o k d k_in in omega (arith, e)

-- a gate that reads another stands behind it
stands_behind : (g h : Gate) (base j k : ℕ) → g.lhs.0 ≡ 2 * (base + j) → h.lhs.0 ≡ 2 * (base + k) → IsDescending g → Reads g (variable h.lhs) → k < j
stands_behind g h base j k g_at h_at down (inl first) = omega (arith, g_at, h_at, down.0, down.1, first)
stands_behind g h base j k g_at h_at down (inr second) = omega (arith, g_at, h_at, down.0, down.1, second)

-- the gates can be evaluated as they stand
order_as_it_stands : (m : Parts) → IsOrdered m → IsOrder m.gates (range_with_len 0 (length m.gates))
order_as_it_stands m o =
    let n = length m.gates in
    let order = range_with_len 0 n in
    let long : length order ≡ n = length-range_with_len 0 n in
    let at : (k d : ℕ) → k < n → get_or order k d ≡ k = λ k d k_in. let e : 0 + k ≡ k = omega arith in get_or-range_with_len 0 n k d k_in ∙ e in
    record {
      in_range = λ k d k_in. let short : k < n = omega (arith, k_in, long) in let e = at k d short in omega (arith, e, short);
      once = λ i j d i_j j_in same. let e = at i d (omega (arith, i_j, j_in, long)) in let f = at j d (omega (arith, j_in, long)) in omega (arith, e, f, same, i_j);
      each = λ i i_in. (i, omega (arith, i_in, long), at i i i_in);
      after = λ j k d j_in k_in reads.
          let j_short : j < n = omega (arith, j_in, long) in
          let k_short : k < n = omega (arith, k_in, long) in
          let one : Reads (get_or m.gates j d) (variable (gate_in m.gates order k d).lhs) = subst (λ i. Reads (get_or m.gates i d) (variable (gate_in m.gates order k d).lhs)) (at j 0 j_short) reads in
          let two : Reads (get_or m.gates j d) (variable (get_or m.gates k d).lhs) = subst (λ i. Reads (get_or m.gates j d) (variable (get_or m.gates i d).lhs)) (at k 0 k_short) one in
          stands_behind (get_or m.gates j d) (get_or m.gates k d) (before_gates m) j k (left_at m o j d j_short) (left_at m o k d k_short) (o.descending j d j_short) two;
    }

-- what is ordered and has fine literals is well formed, and its gates can be evaluated as they stand
pub ordered_model : (m : Parts) (order : List ℕ) → HasFineLiterals m → IsOrdered m → order ≡ range_with_len 0 (length m.gates) → IsModel m order
ordered_model m order fine o same =
    let checked : HasDefined m = record {
      distinct = record { literals = fine; once = defined_once m o };
      used_defined = λ k d k_in. is_defined m o (get_or (used m) k d) ((fine_lists m fine.fine).mentions k d k_in);
    } in
    subst (IsModel m) (sym same)
    (record { well_formed = well_formed_from m checked (no_cycle_below m.gates o.descending (lefts_even m o)); ordered = order_as_it_stands m o })

-- one more place
pub range_more : (n : ℕ) → range_with_len 0 n ++ n ∷ [] ≡ range_with_len 0 (n + 1)
range_more n =
    let more = map-range_with_len_more (λ (i : ℕ). i) 0 n n (omega arith) in
    sym (sym (map-id (range_with_len 0 (n + 1))) ∙ more ∙ ap (λ (t : List ℕ). t ++ n ∷ []) (map-id (range_with_len 0 n)))
