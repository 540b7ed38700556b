-- The gates for clauses, clause by clause.
use Rattle.std.proofs.Common.{◌≡◌, ℕ, suc, ◌+◌, ◌%◌, ◌<◌, ◌≤◌, List, [], ◌∷◌, ◌++◌, length, map, drop, get_or, arith, ◌∙◌, sym, ap, subst, refl, inl, inr, length-append, append_assoc}
use Rattle.std.proofs.lemmas.Bool.{cases_eq}
use Rattle.std.proofs.lemmas.List.{append-nil, at_drop_all, drop_more, length-map}
use Rattle.graph.specs.declared.circuit.Lit.{Lit}
use Rattle.graph.specs.declared.circuit.Gate.{Gate}
use Rattle.live_safe.specs.Shadow.{positive, negation, joins, chain_gates, chain_end}
use Rattle.extension.specs.Rounds.{always}
use Rattle.witness_circuits.specs.Witnesses.{denied, clause_gates, property_gates, property_literal, gate_count}

-- the end of a chain of small variables has a negation
end_small : (rest : List Lit) (first : Lit) (v : ℕ) → first.0 + 1 < 4294967296 → v + length rest < 2147483648 → (chain_end rest first v).0 + 1 < 4294967296
end_small [] first v small fits = small
end_small (a ∷ rest) first v small fits = end_small rest (positive v) (v + 1) (omega (arith, fits)) (omega (arith, fits))

pub denied_small : (c : List Lit) (v : ℕ) → v + length c + 1 ≤ 4194304 → (denied c v).0 + 1 < 4294967296
denied_small c v fits = end_small (map negation c) always v (omega arith) (omega (arith, fits, length-map c negation))

pub property_small : (inv : List (List Lit)) (first : Lit) (v : ℕ) → first.0 + 1 < 4294967296 → v + gate_count inv ≤ 4194304 → (property_literal inv first v).0 + 1 < 4294967296
property_small [] first v small fits = small
property_small (c ∷ cs) first v small fits = property_small cs (positive (v + length c)) (v + length c + 1) (omega (arith, fits)) (omega (arith, fits))

length-chain : (rest : List Lit) (first : Lit) (v : ℕ) → length (chain_gates rest first v) ≡ length rest
length-chain [] first v = refl
length-chain (a ∷ rest) first v = ap suc (length-chain rest (positive v) (v + 1))

pub length-property : (inv : List (List Lit)) (first : Lit) (v : ℕ) → length (property_gates inv first v) ≡ gate_count inv
length-property [] first v = refl
length-property (c ∷ cs) first v =
    let chain : List Gate = chain_gates (map negation c) always v in
    let last : List Gate = joins (v + length c) first (negation (denied c v)) ∷ [] in
    let rest : List Gate = property_gates cs (positive (v + length c)) (v + length c + 1) in
    omega (arith, length-append (chain ++ last) rest, length-append chain last, length-chain (map negation c) always v, length-map c negation, length-property cs (positive (v + length c)) (v + length c + 1))

-- the negation of a small literal has one
pub negation_small : (a : Lit) → a.0 + 2 < 4294967296 → (negation a).0 + 1 < 4294967296
negation_small a small = elim (cases_eq (a.0 % 2) 1) [
  | inl odd ↦ rw odd (omega (arith, small))
  | inr other ↦ let even : a.0 % 2 ≡ 0 = omega arith in rw even (omega (arith, small))
]

pub holds_small : (inv : List (List Lit)) (bad first holds : Lit) (v : ℕ) → bad.0 + 2 < 4294967296 → first ≡ negation bad → holds ≡ property_literal inv first v → v + gate_count inv ≤ 4194304 → holds.0 + 1 < 4294967296
holds_small inv bad first holds v small is_first is fits =
    let first_small : first.0 + 1 < 4294967296 = subst (λ (a : Lit). a.0 + 1 < 4294967296) (sym is_first) (negation_small bad small) in
    subst (λ (a : Lit). a.0 + 1 < 4294967296) (sym is) (property_small inv first v first_small fits)

-- gates, and those of all clauses behind them
pub length-all : (inv : List (List Lit)) (first : Lit) (v : ℕ) (gs copy all : List Gate) → copy ≡ gs → all ≡ copy ++ property_gates inv first v → length all ≡ length gs + gate_count inv
length-all inv first v gs copy all is are =
    let whole : length all ≡ length (copy ++ property_gates inv first v) = ap length are in
    let front : length copy ≡ length gs = ap length is in
    omega (arith, whole, front, length-append copy (property_gates inv first v), length-property inv first v)

-- ---- one clause

pub clause_pushed : (c denials : List Lit) (so_far last denial : Lit) (v long : ℕ) (g : Gate) (old xs ys : List Gate) →
    denials ≡ map negation c → xs ≡ old ++ chain_gates denials always v → last ≡ chain_end denials always v → denial ≡ negation last → long ≡ length c → g ≡ joins (v + long) so_far denial → ys ≡ xs ++ g ∷ [] →
    ys ≡ old ++ clause_gates c so_far v
clause_pushed c denials so_far last denial v long g old xs ys are chained ends denies is_long is pushed =
    let chain : List Gate = chain_gates (map negation c) always v in
    let gate : Gate = joins (v + length c) so_far (negation (denied c v)) in
    let front : xs ≡ old ++ chain = chained ∙ ap (λ (q : List Lit). old ++ chain_gates q always v) are in
    let denies_all : denial ≡ negation (denied c v) = denies ∙ ap negation (ends ∙ ap (λ (q : List Lit). chain_end q always v) are) in
    let same : g ≡ gate = is ∙ ap (λ n. joins (v + n) so_far denial) is_long ∙ ap (λ (a : Lit). joins (v + length c) so_far a) denies_all in
    pushed ∙ ap (λ (q : List Gate). q ++ g ∷ []) front ∙ ap (λ (h : Gate). (old ++ chain) ++ h ∷ []) same ∙ append_assoc old chain (gate ∷ [])

-- ---- clause by clause

pub pushed_all : {X : Type 0} (xs ys old front rest target : List X) → ys ≡ xs ++ front → old ≡ front ++ rest → xs ++ old ≡ target → ys ++ rest ≡ target
pushed_all xs ys old front rest target is_ys is_old h = ap (λ q. q ++ rest) is_ys ∙ append_assoc xs front rest ∙ ap (λ q. xs ++ q) (sym is_old) ∙ h

pub gates_more : (inv : List (List Lit)) (k : ℕ) (so_far : Lit) (v : ℕ) → k < length inv →
    property_gates (drop k inv) so_far v
    ≡ clause_gates (get_or inv k []) so_far v ++ property_gates (drop (k + 1) inv) (positive (v + length (get_or inv k []))) (v + length (get_or inv k []) + 1)
gates_more inv k so_far v k_in = ap (λ cs. property_gates cs so_far v) (drop_more inv k [] k_in)

pub literal_more : (inv : List (List Lit)) (k : ℕ) (so_far : Lit) (v : ℕ) → k < length inv →
    property_literal (drop k inv) so_far v ≡ property_literal (drop (k + 1) inv) (positive (v + length (get_or inv k []))) (v + length (get_or inv k []) + 1)
literal_more inv k so_far v k_in = ap (λ cs. property_literal cs so_far v) (drop_more inv k [] k_in)

pub count_more : (inv : List (List Lit)) (k : ℕ) → k < length inv → gate_count (drop k inv) ≡ length (get_or inv k []) + 1 + gate_count (drop (k + 1) inv)
count_more inv k k_in = ap gate_count (drop_more inv k [] k_in)

-- a clause more is pushed
pub gates_step : (inv : List (List Lit)) (k : ℕ) (so_far following : Lit) (v long : ℕ) (clause : List Lit) (xs ys target : List Gate) → k < length inv → clause ≡ get_or inv k [] → long ≡ length clause → following ≡ positive (v + long) →
    ys ≡ xs ++ clause_gates clause so_far v → xs ++ property_gates (drop k inv) so_far v ≡ target → ys ++ property_gates (drop (k + 1) inv) following (v + long + 1) ≡ target
gates_step inv k so_far following v long clause xs ys target k_in is is_long follows pushed h =
    let c : List Lit = get_or inv k [] in
    let front : List Gate = clause_gates c so_far v in
    let rest : List Gate = property_gates (drop (k + 1) inv) (positive (v + length c)) (v + length c + 1) in
    let size : long ≡ length c = is_long ∙ ap length is in
    let literal : following ≡ positive (v + length c) = follows ∙ ap (λ n. positive (v + n)) size in
    ap (λ (a : Lit). ys ++ property_gates (drop (k + 1) inv) a (v + long + 1)) literal
    ∙ ap (λ n. ys ++ property_gates (drop (k + 1) inv) (positive (v + length c)) (v + n + 1)) size
    ∙ pushed_all xs ys (property_gates (drop k inv) so_far v) front rest target (pushed ∙ ap (λ (q : List Lit). xs ++ clause_gates q so_far v) is) (gates_more inv k so_far v k_in) h

pub literal_step : (inv : List (List Lit)) (k : ℕ) (so_far following : Lit) (v long : ℕ) (clause : List Lit) (target : Lit) → k < length inv → clause ≡ get_or inv k [] → long ≡ length clause → following ≡ positive (v + long) →
    property_literal (drop k inv) so_far v ≡ target → property_literal (drop (k + 1) inv) following (v + long + 1) ≡ target
literal_step inv k so_far following v long clause target k_in is is_long follows h =
    let c : List Lit = get_or inv k [] in
    let size : long ≡ length c = is_long ∙ ap length is in
    let literal : following ≡ positive (v + length c) = follows ∙ ap (λ n. positive (v + n)) size in
    ap (λ (a : Lit). property_literal (drop (k + 1) inv) a (v + long + 1)) literal
    ∙ ap (λ n. property_literal (drop (k + 1) inv) (positive (v + length c)) (v + n + 1)) size
    ∙ sym (literal_more inv k so_far v k_in) ∙ h

pub count_step : (inv : List (List Lit)) (k v long : ℕ) (clause : List Lit) (target : ℕ) → k < length inv → clause ≡ get_or inv k [] → long ≡ length clause → v + gate_count (drop k inv) ≡ target → v + long + 1 + gate_count (drop (k + 1) inv) ≡ target
count_step inv k v long clause target k_in is is_long h =
    let size : long ≡ length (get_or inv k []) = is_long ∙ ap length is in
    omega (arith, size, count_more inv k k_in, h)

-- no clause is left
pub gates_last : (inv : List (List Lit)) (k : ℕ) (so_far : Lit) (v : ℕ) (xs target : List Gate) → length inv ≤ k → xs ++ property_gates (drop k inv) so_far v ≡ target → xs ≡ target
gates_last inv k so_far v xs target all h = sym (append-nil xs) ∙ ap (λ (q : List Gate). xs ++ q) (sym (at_drop_all (λ (cs : List (List Lit)). property_gates cs so_far v) inv k all)) ∙ h

pub literal_last : (inv : List (List Lit)) (k : ℕ) (so_far : Lit) (v : ℕ) (target : Lit) → length inv ≤ k → property_literal (drop k inv) so_far v ≡ target → so_far ≡ target
literal_last inv k so_far v target all h = sym (at_drop_all (λ (cs : List (List Lit)). property_literal cs so_far v) inv k all) ∙ h

pub count_last : (inv : List (List Lit)) (k v target : ℕ) → length inv ≤ k → v + gate_count (drop k inv) ≡ target → v ≡ target
count_last inv k v target all h = omega (arith, at_drop_all gate_count inv k all, h)
