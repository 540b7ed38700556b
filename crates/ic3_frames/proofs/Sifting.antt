-- Entries that are kept are moved to the front.
use Rattle.std.proofs.Common.{◌≡◌, ℕ, true, false, Option, Some, None, ◌+◌, ◌<◌, ◌≤◌, ◌⊎◌, List, [], ◌∷◌, ◌++◌, length, get_or, set, take, refl, inl, inr, arith, All, Contains, ◌∙◌, sym, ap, subst}
use Rattle.std.specs.List.{SwappedAt}
use Rattle.std.proofs.Math.Dec.{eqb}
use Rattle.std.specs.Option.{option_eq, is_some}
use Rattle.std.proofs.lemmas.Bool.{cases_lt, eqb-true, eq-eqb, false≢true}
use Rattle.std.proofs.lemmas.List.{get_or-take, length-take, length-set, get_or_default}
use Rattle.std.proofs.lemmas.List.Elements.{All-contains, All-push, All-weaker, Contains-get_or, Contains-push_cases, Contains-append_left}

-- the first kept of the list are from the old one, from place i on it is the old one, and of the old one's first i
-- elements each is kept or let go
pub record Sifted {X : Type 0} (Gone Kept : X → Type 0) (old now : List X) (kept i : ℕ) : Type 0 where
  pub only : (k : ℕ) (d : X) → k < kept → (j : ℕ) × (j < i) × (get_or now k d ≡ get_or old j d)
  pub lean : (k : ℕ) (d : X) → k < kept → Kept (get_or now k d)
  pub rest : (j : ℕ) (d : X) → i ≤ j → get_or now j d ≡ get_or old j d
  pub each : (j : ℕ) (d : X) → j < i → ((k : ℕ) × (k < kept) × (get_or now k d ≡ get_or old j d)) ⊎ Gone (get_or old j d)
  pub behind : kept ≤ i
  pub long : length now ≡ length old

pub sifted_kept : {X : Type 0} (Gone Kept : X → Type 0) (old now next : List X) (kept i : ℕ) (x : X) → i < length old → x ≡ get_or now i x → Kept x → SwappedAt now next kept i → Sifted Gone Kept old now kept i →
    Sifted Gone Kept old next (kept + 1) (i + 1)
sifted_kept {X} Gone Kept old now next kept i x i_in at stays swapped h =
    let behind = h.behind in
    let here : (d : X) → get_or next kept d ≡ get_or old i d = λ d. swapped.0 d ∙ h.rest i d (omega arith) in
    let before : (k : ℕ) (d : X) → k < kept → get_or next k d ≡ get_or now k d = λ k d k_in. swapped.2 k d (λ e. omega (arith, e)) (λ e. omega (arith, e, behind)) in
    record {
      only = λ k d k_in. elim (cases_lt k kept) [
        | inl below ↦ let found = h.only k d below in (found.0, omega (arith, found.1), before k d below ∙ found.2)
        | inr above ↦
            let last : k ≡ kept = omega arith in
            (i, omega arith, ap (λ n. get_or next n d) last ∙ here d)
      ];
      lean = λ k d k_in. elim (cases_lt k kept) [
        | inl below ↦ subst Kept (sym (before k d below)) (h.lean k d below)
        | inr above ↦
            let last : k ≡ kept = omega arith in
            subst Kept (at ∙ h.rest i x (omega arith) ∙ get_or_default old i x d i_in ∙ sym (ap (λ n. get_or next n d) last ∙ here d)) stays
      ];
      rest = λ j d j_in. swapped.2 j d (λ e. omega (arith, e, behind)) (λ e. omega (arith, e)) ∙ h.rest j d (omega arith);
      each = λ j d j_in. elim (cases_lt j i) [
        | inl below ↦ elim (h.each j d below) [
          | inl found ↦ inl (found.0, omega (arith, found.1), before found.0 d found.1 ∙ found.2)
          | inr gone ↦ inr gone
        ]
        | inr above ↦
            let last : i ≡ j = omega arith in
            inl (kept, omega arith, here d ∙ ap (λ n. get_or old n d) last)
      ];
      behind = omega (arith, behind);
      long = ap length (swapped.3 x) ∙ length-set (set now kept (get_or now i x)) i (get_or now kept x) ∙ length-set now kept (get_or now i x) ∙ h.long;
    }

pub sifted_gone : {X : Type 0} (Gone Kept : X → Type 0) (old now : List X) (kept i : ℕ) (x : X) → i < length old → x ≡ get_or now i x → Gone x → Sifted Gone Kept old now kept i →
    Sifted Gone Kept old now kept (i + 1)
sifted_gone {X} Gone Kept old now kept i x i_in at gone h =
    let behind = h.behind in
    record {
      only = λ k d k_in. let found = h.only k d k_in in (found.0, omega (arith, found.1), found.2);
      lean = h.lean;
      rest = λ j d j_in. h.rest j d (omega arith);
      each = λ j d j_in. elim (cases_lt j i) [
        | inl below ↦ h.each j d below
        | inr above ↦
            let last : i ≡ j = omega arith in
            let is : x ≡ get_or old j d = at ∙ h.rest i x (omega arith) ∙ get_or_default old i x d i_in ∙ ap (λ n. get_or old n d) last in
            inr (subst Gone is gone)
      ];
      behind = omega (arith, behind);
      long = h.long;
    }

-- which place an option is
pub at_place : (except : Option ℕ) (i : ℕ) → option_eq eqb except (Some i) ≡ true → except ≡ Some i
at_place None i e = absurd (false≢true e)
at_place (Some p) i e = ap Some (eqb-true p i e)

abbrev place_or : Option ℕ → ℕ
place_or None = 0
place_or (Some p) = p

pub one_place : (p i : ℕ) → Some p ≡ Some i → p ≡ i
one_place p i e = ap place_or e

pub nowhere : (p : ℕ) → None ≡ Some p → ⊥
nowhere p e = false≢true (ap is_some e)

pub not_at : (except : Option ℕ) (i : ℕ) → option_eq eqb except (Some i) ≡ false → except ≡ Some i → ⊥
not_at except i e is = false≢true (sym e ∙ ap (λ o. option_eq eqb o (Some i)) is ∙ eq-eqb i i refl)

-- where the element of the excepted place is, once the sifting has passed it: no further back, and behind elements that were in front of it
abbrev pub IsStill : {X : Type 0} → List X → List X → Option ℕ → ℕ → ℕ → ℕ → Type 0
IsStill {X} old now except place kept i = (p : ℕ) (d : X) → except ≡ Some p → p < i → (place < kept) × (get_or now place d ≡ get_or old p d) × (place ≤ p) ×
    ((k : ℕ) → k < place → (j : ℕ) × (j < p) × (get_or now k d ≡ get_or old j d))

pub still_gone : {X : Type 0} (old now : List X) (except : Option ℕ) (place kept i : ℕ) → (except ≡ Some i → ⊥) → IsStill old now except place kept i → IsStill old now except place kept (i + 1)
still_gone {X} old now except place kept i other h p d is p_in = elim (cases_lt p i) [
  | inl below ↦ h p d is below
  | inr above ↦ let last : p ≡ i = omega arith in absurd (other (is ∙ ap Some last))
]

pub still_kept : {X : Type 0} (old now next : List X) (except : Option ℕ) (place kept i : ℕ) → (except ≡ Some i → ⊥) → kept ≤ i → SwappedAt now next kept i → IsStill old now except place kept i →
    IsStill old next except place (kept + 1) (i + 1)
still_kept {X} old now next except place kept i other behind swapped h p d is p_in = elim (cases_lt p i) [
  | inl below ↦
      let found = h p d is below in
      let front : place < kept = found.0 in (
        omega (arith, front),
        swapped.2 place d (λ e. omega (arith, e, front)) (λ e. omega (arith, e, front, behind)) ∙ found.1,
        found.2,
        λ k k_in. let before = found.3 k k_in in (before.0, before.1, swapped.2 k d (λ e. omega (arith, e, front, k_in)) (λ e. omega (arith, e, front, behind, k_in)) ∙ before.2),
      )
  | inr above ↦ let last : p ≡ i = omega arith in absurd (other (is ∙ ap Some last))
]

pub still_here : {X : Type 0} (old now next : List X) (except : Option ℕ) (kept i : ℕ) → except ≡ Some i → kept ≤ i → ((d : X) → get_or now i d ≡ get_or old i d) →
    ((k : ℕ) (d : X) → k < kept → (j : ℕ) × (j < i) × (get_or now k d ≡ get_or old j d)) → SwappedAt now next kept i →
    IsStill old next except kept (kept + 1) (i + 1)
still_here {X} old now next except kept i at behind rest only swapped p d is p_in =
    let same : i ≡ p = one_place i p (sym at ∙ is) in (
      omega arith,
      swapped.0 d ∙ rest d ∙ ap (λ n. get_or old n d) same,
      omega (arith, behind, same),
      λ k k_in. let before = only k d k_in in (before.0, omega (arith, before.1, same), swapped.2 k d (λ e. omega (arith, e, k_in)) (λ e. omega (arith, e, behind, k_in)) ∙ before.2),
    )

-- at the end
pub still_taken : {X : Type 0} (old now : List X) (except : Option ℕ) (place kept i : ℕ) → length old ≤ i → kept ≤ length now → IsStill old now except place kept i → (p : ℕ) (d : X) → except ≡ Some p → p < length old →
    (place < length (take kept now)) × (get_or (take kept now) place d ≡ get_or old p d)
still_taken {X} old now except place kept i end within h p d is p_in =
    let found = h p d is (omega arith) in
    let front : place < kept = found.0 in
    (omega (arith, front, within, length-take kept now), get_or-take kept now place d front ∙ found.1)

-- what is in front of it was in front of it
pub still_before : {X : Type 0} (old now : List X) (except : Option ℕ) (place kept i : ℕ) → length old ≤ i → IsStill old now except place kept i → (p : ℕ) → except ≡ Some p → p < length old →
    All (Contains (take p old)) (take place (take kept now))
still_before {X} old now except place kept i end h p is p_in k d k_in =
    let found = h p d is (omega arith) in
    let front : place < kept = found.0 in
    let below : k < place = omega (arith, k_in, length-take place (take kept now)) in
    let before = found.3 k below in
    let here : get_or (take place (take kept now)) k d ≡ get_or old before.0 d = get_or-take place (take kept now) k d below ∙ get_or-take kept now k d (omega (arith, below, front)) ∙ before.2 in
    let there : before.0 < length (take p old) = omega (arith, before.1, p_in, length-take p old) in
    subst (Contains (take p old)) (get_or-take p old before.0 d before.1 ∙ sym here) (Contains-get_or (take p old) before.0 d there)

pub sifted_only : {X : Type 0} (Gone Kept : X → Type 0) (old now : List X) (kept i : ℕ) → i ≤ length old → Sifted Gone Kept old now kept i → All (Contains old) (take kept now)
sifted_only Gone Kept old now kept i i_in h k d k_in =
    let below : k < kept = omega (arith, k_in, length-take kept now) in
    let found = h.only k d below in
    subst (Contains old) (sym (get_or-take kept now k d below ∙ found.2)) (Contains-get_or old found.0 d (omega (arith, found.1, i_in)))

pub sifted_lean : {X : Type 0} (Gone Kept : X → Type 0) (old now : List X) (kept i : ℕ) → i ≤ length old → Sifted Gone Kept old now kept i → All Kept (take kept now)
sifted_lean Gone Kept old now kept i i_in h k d k_in =
    let below : k < kept = omega (arith, k_in, length-take kept now) in
    subst Kept (sym (get_or-take kept now k d below)) (h.lean k d below)

pub sifted_each : {X : Type 0} (Gone Kept : X → Type 0) (old now : List X) (kept i : ℕ) → i ≤ length old → length old ≤ i → Sifted Gone Kept old now kept i →
    All (λ x. Contains (take kept now) x ⊎ Gone x) old
sifted_each {X} Gone Kept old now kept i i_in end h j d j_in = elim (h.each j d (omega arith)) [
  | inl found ↦
      let behind = h.behind in
      let long = h.long in
      let x : X = get_or old j d in
      inl (found.0, omega (arith, found.1, length-take kept now, long, behind), get_or-take kept now found.0 x found.1 ∙ get_or_default now found.0 x d (omega (arith, found.1, long, behind)) ∙ found.2)
  | inr gone ↦ inr gone
]

-- one element more behind those that are kept
pub inserted_only : {X : Type 0} (old middle kept now : List X) (x : X) → middle ≡ old → All (Contains middle) kept → now ≡ kept ++ x ∷ [] → (y : X) → Contains now y →
    Contains old y ⊎ (y ≡ x)
inserted_only old middle kept now x same only is y found = elim (Contains-push_cases kept x y (subst (λ xs. Contains xs y) is found)) [
  | inl before ↦ inl (subst (λ xs. Contains xs y) same (All-contains (Contains middle) kept y only before))
  | inr new ↦ inr (sym new)
]

pub inserted_each : {X : Type 0} (Gone : X → Type 0) (old middle kept now : List X) (x : X) → middle ≡ old → All (λ y. Contains kept y ⊎ Gone y) middle → now ≡ kept ++ x ∷ [] →
    All (λ y. Contains now y ⊎ Gone y) old
inserted_each {X} Gone old middle kept now x same each is k d k_in = elim (subst (All (λ (y : X). Contains kept y ⊎ Gone y)) same each k d k_in) [
  | inl found ↦ inl (subst (λ xs. Contains xs (get_or old k d)) (sym is) (Contains-append_left kept (x ∷ []) (get_or old k d) found))
  | inr gone ↦ inr gone
]

pub inserted_lean : {X : Type 0} (Kept : X → Type 0) (kept now : List X) (x : X) → All Kept kept → now ≡ kept ++ x ∷ [] → All (λ y. Kept y ⊎ (y ≡ x)) now
inserted_lean {X} Kept kept now x lean is =
    subst (All (λ (y : X). Kept y ⊎ (y ≡ x))) (sym is) (All-push (λ (y : X). Kept y ⊎ (y ≡ x)) kept x (All-weaker Kept (λ (y : X). Kept y ⊎ (y ≡ x)) (λ y p. inl p) kept lean) (inr refl))
