-- Scopes of names.
use Rattle.std.proofs.Common.{◌≡◌, ℕ, zero, suc, ◌+◌, ◌-◌, ◌<◌, ◌≤◌, Bool, List, [], ◌∷◌, ◌++◌, length, get_or, take, drop, if◌then◌else◌, min, refl, sym, ap, ◌∙◌, arith, append_assoc, inl, inr}
use Rattle.std.proofs.lemmas.Bool.{cases_lt, eq-eqb, ne_eqb}
use Rattle.std.proofs.lemmas.List.{append-nil, drop_all, drop_more, get_or-drop, length-drop, take_more}
use Rattle.wave_texts.specs.Scopes.{alike, opened_from, path_length, path_more, scope_text}

-- a dot of a path was passed
pub opened_dot : (first k d : ℕ) (path old new whole : List ℕ) → k < length path → get_or path k d ≡ 46 → new ≡ old ++ scope_text (take (k - first) (drop first path)) →
    old ++ opened_from (take (k - first) (drop first path)) (drop k path) ≡ whole → new ++ opened_from (take (k + 1 - (k + 1)) (drop (k + 1) path)) (drop (k + 1) path) ≡ whole
opened_dot first k d path old new whole k_in is is_new h =
    let part = take (k - first) (drop first path) in
    let rest = drop (k + 1) path in
    let none : k + 1 - (k + 1) ≡ 0 = omega arith in
    let here : drop k path ≡ 46 ∷ rest = drop_more path k d k_in ∙ ap (λ (c : ℕ). c ∷ rest) is in
    ap (λ (n : ℕ). new ++ opened_from (take n rest) rest) none ∙ ap (λ (t : List ℕ). t ++ opened_from [] rest) is_new ∙ append_assoc old (scope_text part) (opened_from [] rest)
    ∙ sym (ap (λ (p : List ℕ). old ++ opened_from part p) here) ∙ h

-- another byte of a path was passed
pub opened_other : (first k d : ℕ) (path old whole : List ℕ) → first ≤ k → k < length path → (get_or path k d ≡ 46 → ⊥) →
    old ++ opened_from (take (k - first) (drop first path)) (drop k path) ≡ whole → old ++ opened_from (take (k + 1 - first) (drop first path)) (drop (k + 1) path) ≡ whole
opened_other first k d path old whole within k_in other h =
    let c = get_or path k d in
    let part = take (k - first) (drop first path) in
    let rest = drop (k + 1) path in
    let step : opened_from part (c ∷ rest) ≡ opened_from (part ++ c ∷ []) rest = ap (λ (b : Bool). if b then scope_text part ++ opened_from [] rest else opened_from (part ++ c ∷ []) rest) (ne_eqb c 46 other) in
    let here : first + (k - first) ≡ k = omega (arith, within) in
    let inside : k - first < length (drop first path) = omega (arith, length-drop first path, within, k_in) in
    let count : k + 1 - first ≡ k - first + 1 = omega (arith, within) in
    let longer : take (k + 1 - first) (drop first path) ≡ part ++ c ∷ [] =
    ap (λ (n : ℕ). take n (drop first path)) count ∙ take_more (drop first path) (k - first) d inside
    ∙ ap (λ (x : ℕ). part ++ x ∷ []) (get_or-drop first path (k - first) d ∙ ap (λ (n : ℕ). get_or path n d) here) in
    ap (λ (t : List ℕ). old ++ opened_from t rest) longer ∙ ap (λ (t : List ℕ). old ++ t) (sym step)
    ∙ sym (ap (λ (p : List ℕ). old ++ opened_from part p) (drop_more path k d k_in)) ∙ h

-- the whole path was passed
pub opened_all : (k : ℕ) (part path old whole : List ℕ) → length path ≤ k → old ++ opened_from part (drop k path) ≡ whole → old ≡ whole
opened_all k part path old whole all h = sym (append-nil old) ∙ sym (ap (λ (p : List ℕ). old ++ opened_from part p) (drop_all k path all)) ∙ h

-- what is before a byte and not a dot
pub path_none : (name : List ℕ) (k d : ℕ) → 0 < k → k ≤ length name → (get_or name (k - 1) d ≡ 46 → ⊥) → path_length (drop k name) ≡ 0 → path_length (drop (k - 1) name) ≡ 0
path_none name k d some within other none =
    let c = get_or name (k - 1) d in
    let next : k - 1 + 1 ≡ k = omega (arith, some) in
    let here : drop (k - 1) name ≡ c ∷ drop k name = drop_more name (k - 1) d (omega (arith, some, within)) ∙ ap (λ (n : ℕ). c ∷ drop n name) next in
    ap path_length here ∙ ap (path_more c) none ∙ ap (λ (b : Bool). if b then 1 else 0) (ne_eqb c 46 other)

path_front : (name : List ℕ) (k n : ℕ) → k ≤ length name → path_length (drop k name) ≡ suc n → path_length name ≡ suc (k + n)
path_front name zero n within is = let e : suc n ≡ suc (0 + n) = omega arith in is ∙ e
path_front [] (suc k) n within is = absurd (omega (arith, within))
path_front (c ∷ name) (suc k) n within is =
    let e : suc (suc (k + n)) ≡ suc (suc k + n) = omega arith in
    ap (path_more c) (path_front name k n (omega (arith, within)) is) ∙ e

-- the last dot
pub path_found : (name : List ℕ) (k d : ℕ) → 0 < k → k ≤ length name → get_or name (k - 1) d ≡ 46 → path_length (drop k name) ≡ 0 → k - 1 + 1 ≡ path_length name
path_found name k d some within is none =
    let c = get_or name (k - 1) d in
    let next : k - 1 + 1 ≡ k = omega (arith, some) in
    let here : drop (k - 1) name ≡ c ∷ drop k name = drop_more name (k - 1) d (omega (arith, some, within)) ∙ ap (λ (n : ℕ). c ∷ drop n name) next in
    let one : path_length (drop (k - 1) name) ≡ 1 = ap path_length here ∙ ap (path_more c) none ∙ ap (λ (x : ℕ). path_more x 0) is in
    let front = path_front name (k - 1) 0 (omega (arith, some, within)) one in
    omega (arith, front, some)

-- ---- what two paths begin with alike

pub alike_more : (before path : List ℕ) (k d e n : ℕ) → k < length before → k < length path → get_or before k d ≡ get_or path k e → k + alike (drop k before) (drop k path) ≡ n →
    k + 1 + alike (drop (k + 1) before) (drop (k + 1) path) ≡ n
alike_more before path k d e n k_before k_path same h =
    let x = drop (k + 1) before in
    let y = drop (k + 1) path in
    let one : alike (drop k before) (drop k path) ≡ suc (alike x y) =
    ap (λ (s : List ℕ). alike s (drop k path)) (drop_more before k d k_before) ∙ ap (λ (s : List ℕ). alike (get_or before k d ∷ x) s) (drop_more path k e k_path)
    ∙ ap (λ (b : Bool). if b then suc (alike x y) else 0) (eq-eqb (get_or before k d) (get_or path k e) same) in
    omega (arith, one, h)

pub alike_other : (before path : List ℕ) (k d e n : ℕ) → k < length before → k < length path → (get_or before k d ≡ get_or path k e → ⊥) → k + alike (drop k before) (drop k path) ≡ n → k ≡ n
alike_other before path k d e n k_before k_path other h =
    let x = drop (k + 1) before in
    let y = drop (k + 1) path in
    let none : alike (drop k before) (drop k path) ≡ 0 =
    ap (λ (s : List ℕ). alike s (drop k path)) (drop_more before k d k_before) ∙ ap (λ (s : List ℕ). alike (get_or before k d ∷ x) s) (drop_more path k e k_path)
    ∙ ap (λ (b : Bool). if b then suc (alike x y) else 0) (ne_eqb (get_or before k d) (get_or path k e) other) in
    omega (arith, none, h)

alike_nothing : (before : List ℕ) → alike before [] ≡ 0
alike_nothing [] = refl
alike_nothing (a ∷ before) = refl

pub alike_all : (before path : List ℕ) (k n : ℕ) → min (length before) (length path) ≤ k → k + alike (drop k before) (drop k path) ≡ n → k ≡ n
alike_all before path k n all h = elim (cases_lt k (length before)) [
  | inl inside ↦
      let past : length path ≤ k = omega (arith, all, inside) in
      let none : alike (drop k before) (drop k path) ≡ 0 = ap (λ (s : List ℕ). alike (drop k before) s) (drop_all k path past) ∙ alike_nothing (drop k before) in
      omega (arith, none, h)
  | inr past ↦
      let none : alike (drop k before) (drop k path) ≡ 0 = ap (λ (s : List ℕ). alike s (drop k path)) (drop_all k before past) in
      omega (arith, none, h)
]
