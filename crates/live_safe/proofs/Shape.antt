-- The shadow circuit is well formed.
use Rattle.std.proofs.Common.{◌≡◌, ℕ, zero, suc, ◌+◌, ◌-◌, ◌*◌, ◌%◌, ◌<◌, ◌≤◌, ◌≢◌, ◌⊎◌, List, [], ◌∷◌, ◌++◌, length, map, get_or, refl, inl, inr, arith, All, Contains, ◌∙◌, sym, ap, subst, length-append}
use Rattle.std.proofs.lemmas.Bool.{cases_lt}
use Rattle.std.proofs.lemmas.List.{map-append, length-map, get_or_append_left, get_or-append-add}
use Rattle.std.proofs.lemmas.List.Elements.{All-append, All-nil, All-cons, All-map, All-weaker, All-contains, All-contains_itself, Contains-append_cases, Contains-append_left, Contains-append_right, Contains-get_or}
use Rattle.graph.specs.declared.circuit.Lit.{Lit}
use Rattle.graph.specs.declared.circuit.Latch.{Latch}
use Rattle.graph.specs.declared.circuit.Gate.{Gate}
use Rattle.graph.specs.declared.parts.Parts.{Parts}
use Rattle.graph.specs.Circuits.{variable, defined, HasReset, defining, justice_literals, wanted_of}
use Rattle.graph.specs.WellFormed.{IsWellFormed, used}
use Rattle.graph.proofs.Evaluation.{held, IsOnce, once-left, once-right, once-across, All-left, All-right, All-unmap, rights0, rights1, Contains-map, defined_nonzero}
use Rattle.graph.proofs.Gates.{left}
use Rattle.live_safe.specs.Shadow.{positive, save_of, saved_of, start_of, new_latches, new_gates, closing_literal, shadow_of}
use Rattle.live_safe.proofs.Extension.{AreNext}
use Rattle.live_safe.proofs.Ranges.{AreIn, are_in, one_property}
use Rattle.live_safe.proofs.Extended.{AreCleared, cleared_new, next_new, length-new_latches, length-new_gates, defined_new, defined_stays, defined_old, of_latches, cleared_low, next_low}
use Rattle.live_safe.proofs.Carried.{cleared_resets}
use Rattle.live_safe.proofs.Pigeons.{collision}
use Rattle.live_safe.proofs.Known.{NewKnow, new_know, shadow_no_cycle}

-- nothing is defined twice
once-append : (xs ys : List ℕ) → IsOnce xs → IsOnce ys → ((v : ℕ) → Contains xs v → Contains ys v → ⊥) → IsOnce (xs ++ ys)
once-append xs ys xs_once ys_once apart i k d i_k k_in same =
    let n : ℕ = length xs in
    elim (cases_lt k n) [
      | inl k_left ↦ xs_once i k d i_k k_left (sym (get_or_append_left xs ys d i (omega arith)) ∙ same ∙ get_or_append_left xs ys d k k_left)
      | inr k_right ↦
          let b : ℕ = k - n in
          let k_is : k ≡ n + b = omega arith in
          let b_in : b < length ys = omega (arith, k_in, length-append xs ys) in
          let at_k : get_or (xs ++ ys) k d ≡ get_or ys b d = ap (λ q. get_or (xs ++ ys) q d) k_is ∙ get_or-append-add xs ys b d in
          elim (cases_lt i n) [
            | inl i_left ↦ apart (get_or xs i d) (Contains-get_or xs i d i_left)
                (subst (Contains ys) (sym at_k ∙ sym same ∙ get_or_append_left xs ys d i i_left) (Contains-get_or ys b d b_in))
            | inr i_right ↦
                let a : ℕ = i - n in
                let i_is : i ≡ n + a = omega arith in
                ys_once a b d (omega arith) b_in (sym (ap (λ q. get_or (xs ++ ys) q d) i_is ∙ get_or-append-add xs ys a d) ∙ same ∙ at_k)
          ]
    ]

once_one : (v : ℕ) → IsOnce (v ∷ [])
once_one v i k d i_k k_in = absurd (omega arith)

once-cons : (v : ℕ) (vs : List ℕ) → (Contains vs v → ⊥) → IsOnce vs → IsOnce (v ∷ vs)
once-cons v vs apart once zero zero d i_k k_in same = omega arith
once-cons v vs apart once zero (suc k) d i_k k_in same = apart (subst (Contains vs) (sym same) (Contains-get_or vs k d (omega arith)))
once-cons v vs apart once (suc i) zero d i_k k_in same = omega arith
once-cons v vs apart once (suc i) (suc k) d i_k k_in same = once i k d (omega arith) (omega arith) same

cleared_once : (ls : List Latch) (n : ℕ) → AreCleared ls n → IsOnce (map held ls)
cleared_once [] n h = λ i k d i_k k_in. absurd (omega arith)
cleared_once (l ∷ ls) n (here, rest) =
    let e : held l ≡ n = (let q = ap variable here.defines in omega (arith, q)) in
    once-cons (held l) (map held ls) (λ found. let p = cleared_low ls (n + 1) found.0 (held l) rest found.1 in let q = found.2 in omega (arith, p, q, e)) (cleared_once ls (n + 1) rest)

next_once : (gs : List Gate) (n : ℕ) → AreNext gs n → IsOnce (map left gs)
next_once [] n h = λ i k d i_k k_in. absurd (omega arith)
next_once (g ∷ gs) n (here, rest) =
    let e : left g ≡ n = (let q = here.defines in omega (arith, q)) in
    once-cons (left g) (map left gs) (λ found. let p = next_low gs (n + 1) found.0 (left g) rest found.1 in let q = found.2 in omega (arith, p, q, e)) (next_once gs (n + 1) rest)

cleared_high : (ls : List Latch) (n k d : ℕ) → AreCleared ls n → k < length (map held ls) → get_or (map held ls) k d < n + length ls
cleared_high [] n k d h k_in = absurd (omega arith)
cleared_high (l ∷ ls) n zero d (here, rest) k_in = let e : held l ≡ n = (let q = ap variable here.defines in omega (arith, q)) in omega (arith, e)
cleared_high (l ∷ ls) n (suc k) d (here, rest) k_in = let p = cleared_high ls (n + 1) k d rest (omega arith) in omega (arith, p)

next_high : (gs : List Gate) (n k d : ℕ) → AreNext gs n → k < length (map left gs) → get_or (map left gs) k d < n + length gs
next_high [] n k d h k_in = absurd (omega arith)
next_high (g ∷ gs) n zero d (here, rest) k_in = let e : left g ≡ n = (let q = here.defines in omega (arith, q)) in omega (arith, e)
next_high (g ∷ gs) n (suc k) d (here, rest) k_in = let p = next_high gs (n + 1) k d rest (omega arith) in omega (arith, p)

-- where a defined variable comes from
old_input : (m : Parts) (j v : ℕ) → AreIn m j → Contains (map variable m.inputs) v → v ≤ m.max_var
old_input m j v h found = let p = All-map (λ q. q ≤ m.max_var) variable m.inputs h.inputs found.0 v found.1 in let q = found.2 in omega (arith, p, q)

old_latch : (m : Parts) (j v : ℕ) → AreIn m j → Contains (map held m.latches) v → v ≤ m.max_var
old_latch m j v h found = let p = All-map (λ q. q ≤ m.max_var) held m.latches h.latches found.0 v found.1 in let q = found.2 in omega (arith, p, q)

old_gate : (m : Parts) (j v : ℕ) → AreIn m j → Contains (map left m.gates) v → v ≤ m.max_var
old_gate m j v h found = let p = All-map (λ q. q ≤ m.max_var) left m.gates h.lefts found.0 v found.1 in let q = found.2 in omega (arith, p, q)

input_cases : (m : Parts) (j v : ℕ) → Contains (map variable (m.inputs ++ positive (save_of m) ∷ [])) v → Contains (map variable m.inputs) v ⊎ (v ≡ save_of m)
input_cases m j v h = elim (Contains-append_cases (map variable m.inputs) (map variable (positive (save_of m) ∷ [])) v (rw (map-append variable m.inputs (positive (save_of m) ∷ [])) at h)) [
  | inl found ↦ inl found
  | inr new ↦ let first : new.0 ≡ 0 = (let p = new.1 in omega arith) in let is_save : variable (positive (save_of m)) ≡ v = rw first at new.2 in inr (omega (arith, is_save))
]

latch_cases : (m : Parts) (j v : ℕ) → Contains (map held (m.latches ++ new_latches m j)) v → Contains (map held m.latches) v ⊎ ((saved_of m ≤ v) × (v < start_of m j))
latch_cases m j v h = elim (Contains-append_cases (map held m.latches) (map held (new_latches m j)) v (rw (map-append held m.latches (new_latches m j)) at h)) [
  | inl found ↦ inl found
  | inr new ↦
      let low = cleared_low (new_latches m j) (saved_of m) new.0 v (cleared_new m j) new.1 in
      let high = cleared_high (new_latches m j) (saved_of m) new.0 v (cleared_new m j) new.1 in
      let e = new.2 in inr (omega (arith, low, e), omega (arith, high, e, length-new_latches m j))
]

gate_cases : (m : Parts) (j v : ℕ) → AreIn m j → Contains (map left (m.gates ++ new_gates m j)) v → Contains (map left m.gates) v ⊎ ((start_of m j ≤ v) × (v ≤ (shadow_of m j).max_var))
gate_cases m j v known h = elim (Contains-append_cases (map left m.gates) (map left (new_gates m j)) v (rw (map-append left m.gates (new_gates m j)) at h)) [
  | inl found ↦ inl found
  | inr new ↦
      let low = next_low (new_gates m j) (start_of m j) new.0 v (next_new m j known) new.1 in
      let high = next_high (new_gates m j) (start_of m j) new.0 v (next_new m j known) new.1 in
      let e = new.2 in inr (omega (arith, low, e), omega (arith, high, e, length-new_gates m j))
]

pub shadow_once : (m : Parts) (j : ℕ) → AreIn m j → IsOnce (defined m) → IsOnce (defined (shadow_of m j))
shadow_once m j known once =
    let is : List ℕ = map variable m.inputs in
    let ls : List ℕ = map held m.latches in
    let gs : List ℕ = map left m.gates in
    let front : IsOnce (is ++ ls) = once-left (is ++ ls) gs once in
    let inputs : IsOnce (map variable (m.inputs ++ positive (save_of m) ∷ [])) = rw (map-append variable m.inputs (positive (save_of m) ∷ []))
    (once-append is (map variable (positive (save_of m) ∷ [])) (once-left is ls front) (once_one (variable (positive (save_of m)))) (λ v a b.
    let low = old_input m j v known a in
    let first : b.0 ≡ 0 = (let p = b.1 in omega arith) in let is_save : variable (positive (save_of m)) ≡ v = rw first at b.2 in omega (arith, low, is_save))) in
    let latches : IsOnce (map held (m.latches ++ new_latches m j)) = rw (map-append held m.latches (new_latches m j))
    (once-append ls (map held (new_latches m j)) (once-right is ls front) (cleared_once (new_latches m j) (saved_of m) (cleared_new m j)) (λ v a b.
    let low = old_latch m j v known a in let high = cleared_low (new_latches m j) (saved_of m) b.0 v (cleared_new m j) b.1 in let e = b.2 in omega (arith, low, high, e))) in
    let gates : IsOnce (map left (m.gates ++ new_gates m j)) = rw (map-append left m.gates (new_gates m j))
    (once-append gs (map left (new_gates m j)) (once-right (is ++ ls) gs once) (next_once (new_gates m j) (start_of m j) (next_new m j known)) (λ v a b.
    let low = old_gate m j v known a in let high = next_low (new_gates m j) (start_of m j) b.0 v (next_new m j known) b.1 in let e = b.2 in omega (arith, low, high, e))) in
    let all_inputs : List ℕ = map variable (m.inputs ++ positive (save_of m) ∷ []) in
    let all_latches : List ℕ = map held (m.latches ++ new_latches m j) in
    let all_gates : List ℕ = map left (m.gates ++ new_gates m j) in
    once-append (all_inputs ++ all_latches) all_gates
    (once-append all_inputs all_latches inputs latches (λ v a b. elim (input_cases m j v a) [
      | inl a_old ↦ elim (latch_cases m j v b) [
        | inl b_old ↦ once-across is ls v front a_old b_old
        | inr b_new ↦ let low = old_input m j v known a_old in let p = b_new.0 in omega (arith, low, p)
      ]
      | inr a_new ↦ elim (latch_cases m j v b) [
        | inl b_old ↦ let low = old_latch m j v known b_old in omega (arith, low, a_new)
        | inr b_new ↦ let p = b_new.0 in omega (arith, a_new, p)
      ]
    ]))
    gates
    (λ v a b. elim (gate_cases m j v known b) [
      | inl b_old ↦ let low = old_gate m j v known b_old in elim (Contains-append_cases all_inputs all_latches v a) [
        | inl input ↦ elim (input_cases m j v input) [
          | inl a_old ↦ once-across (is ++ ls) gs v once (Contains-append_left is ls v a_old) b_old
          | inr a_new ↦ omega (arith, low, a_new)
        ]
        | inr latch ↦ elim (latch_cases m j v latch) [
          | inl a_old ↦ once-across (is ++ ls) gs v once (Contains-append_right is ls v a_old) b_old
          | inr a_new ↦ let p = a_new.0 in omega (arith, low, p)
        ]
      ]
      | inr b_new ↦ let high = b_new.0 in elim (Contains-append_cases all_inputs all_latches v a) [
        | inl input ↦ elim (input_cases m j v input) [
          | inl a_old ↦ let low = old_input m j v known a_old in omega (arith, low, high)
          | inr a_new ↦ omega (arith, a_new, high)
        ]
        | inr latch ↦ elim (latch_cases m j v latch) [
          | inl a_old ↦ let low = old_latch m j v known a_old in omega (arith, low, high)
          | inr a_new ↦ let p = a_new.1 in omega (arith, p, high)
        ]
      ]
    ])

-- as many distinct numbers as there is room for
few_distinct : (vs : List ℕ) (n : ℕ) → IsOnce vs → All (λ v. v < n) vs → length vs ≤ n
few_distinct vs n once small = elim (cases_lt n (length vs)) [
  | inr few ↦ few
  | inl many ↦ let c = collision (λ k. get_or vs k 0) n (length vs) many (λ k k_in. small k 0 k_in) in absurd (once c.low c.high 0 c.ordered c.below c.same)
]

-- every defined variable is in range, and none is the constant
defined_in : (m : Parts) (j v : ℕ) → AreIn m j → Contains (defined (shadow_of m j)) v → v ≤ (shadow_of m j).max_var
defined_in m j v known h =
    let all_inputs : List ℕ = map variable (m.inputs ++ positive (save_of m) ∷ []) in
    let all_latches : List ℕ = map held (m.latches ++ new_latches m j) in
    let all_gates : List ℕ = map left (m.gates ++ new_gates m j) in
    elim (Contains-append_cases (all_inputs ++ all_latches) all_gates v h) [
      | inl outside ↦ elim (Contains-append_cases all_inputs all_latches v outside) [
        | inl input ↦ elim (input_cases m j v input) [ inl old ↦ let p = old_input m j v known old in omega (arith, p) | inr new ↦ omega (arith, new) ]
        | inr latch ↦ elim (latch_cases m j v latch) [ inl old ↦ let p = old_latch m j v known old in omega (arith, p) | inr new ↦ let p = new.1 in omega (arith, p) ]
      ]
      | inr gate ↦ elim (gate_cases m j v known gate) [ inl old ↦ let p = old_gate m j v known old in omega (arith, p) | inr new ↦ new.1 ]
    ]

pub few_defined : (m : Parts) (j : ℕ) → AreIn m j → IsWellFormed m → length (defined (shadow_of m j)) ≤ (shadow_of m j).max_var
few_defined m j known well =
    let vs : List ℕ = defined (shadow_of m j) in
    let no_zero : Contains vs 0 → ⊥ = λ found. All-contains (λ v. v ≢ 0) (defined m) 0 (defined_nonzero m well) (defined_old m j 0 known (omega arith) found) refl in
    let room = few_distinct (0 ∷ vs) ((shadow_of m j).max_var + 1) (once-cons 0 vs no_zero (shadow_once m j known well.defined_once))
    (All-cons (λ v. v < (shadow_of m j).max_var + 1) 0 vs (omega arith)
    (All-weaker (Contains vs) (λ v. v < (shadow_of m j).max_var + 1) (λ v found. let p = defined_in m j v known found in omega (arith, p)) vs (All-contains_itself vs))) in
    omega (arith, room)

-- what holds of the literals that define something
cleared_all : (Q : ℕ → Type 0) (ls : List Latch) (n : ℕ) → AreCleared ls n → ((v : ℕ) → n ≤ v → v < n + length ls → Q (2 * v)) → All (λ l. Q l.lit.0) ls
cleared_all Q [] n h each = All-nil (λ l. Q l.lit.0)
cleared_all Q (l ∷ ls) n (here, rest) each = All-cons (λ q. Q q.lit.0) l ls (subst Q (sym (ap (λ a. a.0) here.defines)) (each n (omega arith) (omega arith)))
    (cleared_all Q ls (n + 1) rest (λ v low high. each v (omega arith) (omega arith)))

next_all : (Q : ℕ → Type 0) (gs : List Gate) (n : ℕ) → AreNext gs n → ((v : ℕ) → n ≤ v → v < n + length gs → Q (2 * v)) → All (λ g. Q g.lhs.0) gs
next_all Q [] n h each = All-nil (λ g. Q g.lhs.0)
next_all Q (g ∷ gs) n (here, rest) each = All-cons (λ q. Q q.lhs.0) g gs (subst Q (sym here.defines) (each n (omega arith) (omega arith)))
    (next_all Q gs (n + 1) rest (λ v low high. each v (omega arith) (omega arith)))

defining_all : (Q : ℕ → Type 0) (m : Parts) (j : ℕ) → AreIn m j → All (λ a. Q a.0) (defining m) → ((v : ℕ) → m.max_var < v → v ≤ (shadow_of m j).max_var → Q (2 * v)) → All (λ a. Q a.0) (defining (shadow_of m j))
defining_all Q m j known old new =
    let P : Lit → Type 0 = λ a. Q a.0 in
    let lits : List Lit = map (λ l. l.lit) m.latches in
    let lefts : List Lit = map (λ g. g.lhs) m.gates in
    let front : All P (m.inputs ++ lits) = All-left P (m.inputs ++ lits) lefts old in
    All-append P ((m.inputs ++ positive (save_of m) ∷ []) ++ map (λ l. l.lit) (m.latches ++ new_latches m j)) (map (λ g. g.lhs) (m.gates ++ new_gates m j))
    (All-append P (m.inputs ++ positive (save_of m) ∷ []) (map (λ l. l.lit) (m.latches ++ new_latches m j))
    (All-append P m.inputs (positive (save_of m) ∷ []) (All-left P m.inputs lits front) (All-cons P (positive (save_of m)) [] (new (save_of m) (omega arith) (omega arith)) (All-nil P)))
    (All-map P (λ l. l.lit) (m.latches ++ new_latches m j) (All-append (λ l. P l.lit) m.latches (new_latches m j)
    (All-unmap P (λ l. l.lit) m.latches (All-right P m.inputs lits front))
    (cleared_all Q (new_latches m j) (saved_of m) (cleared_new m j) (λ v low high. new v (omega arith) (omega (arith, high, length-new_latches m j)))))))
    (All-map P (λ g. g.lhs) (m.gates ++ new_gates m j) (All-append (λ g. P g.lhs) m.gates (new_gates m j)
    (All-unmap P (λ g. g.lhs) m.gates (All-right P (m.inputs ++ lits) lefts old))
    (next_all Q (new_gates m j) (start_of m j) (next_new m j known) (λ v low high. new v (omega arith) (omega (arith, high, length-new_gates m j))))))

-- what holds of the variables that are used
pub record UsedKnow (K : ℕ → Type 0) (m : Parts) (j : ℕ) : Type 0 where
  pub nexts : All (λ l. K (variable l.next)) m.latches
  pub constraints : All (λ a. K (variable a)) m.constraints
  pub wanted : All (λ a. K (variable a)) (wanted_of m j)
  pub rhs0 : All (λ g. K (variable g.rhs0)) m.gates
  pub rhs1 : All (λ g. K (variable g.rhs1)) m.gates

used_parts : (K : ℕ → Type 0) (m : Parts) (j : ℕ) → All (λ a. K (variable a)) (used m) → UsedKnow K m j
used_parts K m j used_know =
    let P : Lit → Type 0 = λ a. K (variable a) in
    let nexts : List Lit = map (λ l. l.next) m.latches in
    let before_gates : All P (nexts ++ m.outputs ++ m.bad ++ m.constraints ++ justice_literals m.justice ++ m.fairness) =
    All-left P _ (map (λ g. g.rhs0) m.gates) (All-left P _ (map (λ g. g.rhs1) m.gates) used_know) in
    let to_justice : All P (nexts ++ m.outputs ++ m.bad ++ m.constraints ++ justice_literals m.justice) = All-left P _ m.fairness before_gates in
    let to_constraints : All P (nexts ++ m.outputs ++ m.bad ++ m.constraints) = All-left P _ (justice_literals m.justice) to_justice in
    record {
      nexts = All-unmap P (λ l. l.next) m.latches (All-left P nexts m.outputs (All-left P (nexts ++ m.outputs) m.bad (All-left P (nexts ++ m.outputs ++ m.bad) m.constraints to_constraints)));
      constraints = All-right P (nexts ++ m.outputs ++ m.bad) m.constraints to_constraints;
      wanted = All-append P (get_or m.justice j []) m.fairness
          (one_property P m.justice j (All-right P (nexts ++ m.outputs ++ m.bad ++ m.constraints) (justice_literals m.justice) to_justice))
          (All-right P (nexts ++ m.outputs ++ m.bad ++ m.constraints ++ justice_literals m.justice) m.fairness before_gates);
      rhs0 = rights0 P m used_know;
      rhs1 = rights1 P m used_know;
    }

used_all : (K : ℕ → Type 0) (m : Parts) (j : ℕ) → UsedKnow K m j → NewKnow K m j → All (λ a. K (variable a)) (used (shadow_of m j))
used_all K m j old new =
    let P : Lit → Type 0 = λ a. K (variable a) in
    let nexts : List Lit = map (λ l. l.next) (m.latches ++ new_latches m j) in
    let none : List Lit = [] in
    let bad : List Lit = closing_literal m j ∷ [] in
    let gates : List Gate = m.gates ++ new_gates m j in
    All-append P (nexts ++ none ++ bad ++ m.constraints ++ none ++ none ++ map (λ g. g.rhs0) gates) (map (λ g. g.rhs1) gates)
    (All-append P (nexts ++ none ++ bad ++ m.constraints ++ none ++ none) (map (λ g. g.rhs0) gates)
    (All-append P (nexts ++ none ++ bad ++ m.constraints ++ none) none
    (All-append P (nexts ++ none ++ bad ++ m.constraints) none
    (All-append P (nexts ++ none ++ bad) m.constraints
    (All-append P (nexts ++ none) bad
    (All-append P nexts none (All-map P (λ l. l.next) (m.latches ++ new_latches m j) (All-append (λ l. P l.next) m.latches (new_latches m j) old.nexts new.nexts)) (All-nil P))
    (All-cons P (closing_literal m j) none new.bad (All-nil P)))
    old.constraints)
    (All-nil P))
    (All-nil P))
    (All-map P (λ g. g.rhs0) gates (All-append (λ g. P g.rhs0) m.gates (new_gates m j) old.rhs0 (λ k d k_in. (new.rights k d k_in).0))))
    (All-map P (λ g. g.rhs1) gates (All-append (λ g. P g.rhs1) m.gates (new_gates m j) old.rhs1 (λ k d k_in. (new.rights k d k_in).1)))

-- the shadow circuit of a well-formed circuit is well formed, where its variables are within the limit
pub shadow_well_formed : (m : Parts) (j : ℕ) → IsWellFormed m → (shadow_of m j).max_var ≤ 4194303 → IsWellFormed (shadow_of m j)
shadow_well_formed m j well limit =
    let known : AreIn m j = are_in m j well in
    let high : ℕ = (shadow_of m j).max_var in
    let InRange : ℕ → Type 0 = λ v. v ≤ high in
    let IsKnown : ℕ → Type 0 = λ v. (v ≡ 0) ⊎ Contains (defined (shadow_of m j)) v in
    let stays : (v : ℕ) → (v ≡ 0) ⊎ Contains (defined m) v → IsKnown v = λ v h. elim h [ inl constant ↦ inl constant | inr found ↦ inr (defined_stays m j v found) ] in
    let known_used : All (λ a. IsKnown (variable a)) (used m) = λ k d k_in. stays (variable (get_or (used m) k d)) (well.used_defined k d k_in) in
    let range_used : All (λ a. InRange (variable a)) (used m) = λ k d k_in. let p = well.used_in_range k d k_in in omega (arith, p) in
    let known_parts = used_parts IsKnown m j known_used in
    let range_parts = used_parts InRange m j range_used in
    let known_new : NewKnow IsKnown m j = new_know IsKnown m j (record { fresh = λ v low v_high. inr (defined_new m j v known (omega arith) v_high) })
    (λ k d k_in. inr (defined_stays m j (held (get_or m.latches k d)) (of_latches m (held (get_or m.latches k d)) (Contains-map held m.latches k d k_in)))) known_parts.wanted in
    let range_new : NewKnow InRange m j = new_know InRange m j (record { fresh = λ v low v_high. v_high }) (λ k d k_in. let p = known.latches k d k_in in omega (arith, p)) range_parts.wanted in
    let in_range = used_all InRange m j range_parts range_new in
    let few = few_defined m j known well in
    let long_inputs = length-map (m.inputs ++ positive (save_of m) ∷ []) variable in
    let long_latches = length-map (m.latches ++ new_latches m j) held in
    let long_gates = length-map (m.gates ++ new_gates m j) left in
    let long_front = length-append (map variable (m.inputs ++ positive (save_of m) ∷ [])) (map held (m.latches ++ new_latches m j)) in
    let long_all = length-append (map variable (m.inputs ++ positive (save_of m) ∷ []) ++ map held (m.latches ++ new_latches m j)) (map left (m.gates ++ new_gates m j)) in
    record {
      limits = record {
        max_var = limit;
        inputs = omega (arith, few, long_inputs, long_front, long_all);
        latches = omega (arith, few, long_latches, long_front, long_all);
        outputs = omega arith;
        gates = omega (arith, few, long_gates, long_all);
        bad = omega arith;
        constraints = well.limits.constraints;
        justice = omega arith;
        fairness = omega arith;
        justice_sum = omega arith;
      };
      defining_even = defining_all (λ n. (2 ≤ n) × (n % 2 ≡ 0)) m j known well.defining_even (λ v low v_high. (omega arith, omega arith));
      defining_in_range = defining_all (λ n. n ≤ 2 * high + 1) m j known (λ k d k_in. let p = well.defining_in_range k d k_in in omega (arith, p)) (λ v low v_high. omega arith);
      used_in_range = λ k d k_in. let p = in_range k d k_in in omega (arith, p);
      resets = All-append HasReset m.latches (new_latches m j) well.resets (λ k d k_in. inl (cleared_resets (new_latches m j) (saved_of m) (cleared_new m j) k d k_in));
      defined_once = shadow_once m j known well.defined_once;
      used_defined = used_all IsKnown m j known_parts known_new;
      no_cycle = shadow_no_cycle m j known well.no_cycle;
    }
