-- The leads of classes.
use Rattle.std.proofs.Common.{◌≡◌, ℕ, zero, suc, ◌<◌, ◌≤◌, ◌⊎◌, List, [], ◌∷◌, ◌++◌, length, set, inl, inr, refl, sym, ◌∙◌, ap, subst, arith, get_or-set_same, get_or-set_other}
use Rattle.std.proofs.lemmas.Bool.{cases_eq, cases_lt}
use Rattle.std.proofs.lemmas.List.{set_past, get_or_append_left}
use Rattle.signal_classes.specs.Classed.{AreLed, AreWithin, Refines, place_at}

-- nothing is put behind a list
pub put_past : (ls : List ℕ) (p q : ℕ) → length ls ≤ p → set ls p q ≡ ls
put_past ls p q past = set_past ls p q past

-- what is put is there, or the list is as it was
set_cases : (ls : List ℕ) (p q : ℕ) → (place_at (set ls p q) p ≡ q) ⊎ (set ls p q ≡ ls)
set_cases ls p q = elim (cases_lt p (length ls)) [
  | inl inside ↦ inl (get_or-set_same ls p q 0 inside)
  | inr past ↦ inr (put_past ls p q past)
]

led_here : (ls : List ℕ) (p : ℕ) → place_at (set ls p p) p ≡ p → AreLed ls → AreLed (set ls p p)
led_here ls p here led k =
    let f : ℕ → ℕ = place_at (set ls p p) in
    elim (cases_eq k p) [
      | inl same ↦ let at_k : f k ≡ p = ap f same ∙ here in ap f at_k ∙ here ∙ sym at_k
      | inr other ↦
          let at_k : f k ≡ place_at ls k = get_or-set_other ls p k p 0 other in
          elim (cases_eq (place_at ls k) p) [
            | inl lead ↦ ap f (at_k ∙ lead) ∙ here ∙ sym (at_k ∙ lead)
            | inr apart ↦ ap f at_k ∙ get_or-set_other ls p (place_at ls k) p 0 apart ∙ led k ∙ sym at_k
          ]
    ]

-- what becomes the first of a class leaves the others led
pub led_own : (ls : List ℕ) (p : ℕ) → AreLed ls → AreLed (set ls p p)
led_own ls p led = elim (set_cases ls p p) [
  | inl here ↦ led_here ls p here led
  | inr stays ↦ subst AreLed (sym stays) led
]

-- what is within the classes that were refines them
pub refines_by : (before after : List ℕ) → AreWithin before after → Refines before after
refines_by before after within a b same = sym (within a) ∙ ap (place_at before) same ∙ within b

past_zero : (ls : List ℕ) (k : ℕ) → length ls ≤ k → place_at ls k ≡ 0
past_zero [] k past = refl
past_zero (x ∷ ls) zero past = absurd (omega (arith, past))
past_zero (x ∷ ls) (suc k) past = past_zero ls k (omega (arith, past))

behind : (ls : List ℕ) (k : ℕ) → length ls ≤ k → place_at (ls ++ 0 ∷ []) k ≡ 0
behind [] zero past = refl
behind [] (suc k) past = refl
behind (x ∷ ls) zero past = absurd (omega (arith, past))
behind (x ∷ ls) (suc k) past = behind ls k (omega (arith, past))

-- what is added stands in the first class
pub first_push : (ls : List ℕ) → place_at ls 0 ≡ 0 → place_at (ls ++ 0 ∷ []) 0 ≡ 0
first_push [] first = refl
first_push (x ∷ ls) first = first

pub led_push : (ls : List ℕ) → place_at ls 0 ≡ 0 → AreLed ls → AreLed (ls ++ 0 ∷ [])
led_push ls first led k = elim (cases_lt k (length ls)) [
  | inl inside ↦
      let f : ℕ → ℕ = place_at (ls ++ 0 ∷ []) in
      let at_k : f k ≡ place_at ls k = get_or_append_left ls (0 ∷ []) 0 k inside in
      elim (cases_lt (place_at ls k) (length ls)) [
        | inl there ↦ ap f at_k ∙ get_or_append_left ls (0 ∷ []) 0 (place_at ls k) there ∙ led k ∙ sym at_k
        | inr past ↦
            let none : place_at ls k ≡ 0 = sym (led k) ∙ past_zero ls (place_at ls k) past in
            ap f (at_k ∙ none) ∙ first_push ls first ∙ sym (at_k ∙ none)
      ]
  | inr past ↦
      let f : ℕ → ℕ = place_at (ls ++ 0 ∷ []) in
      let at_k : f k ≡ 0 = behind ls k past in
      ap f at_k ∙ first_push ls first ∙ sym at_k
]

pub first_set : (ls : List ℕ) (p q : ℕ) → 0 < p → place_at ls 0 ≡ 0 → place_at (set ls p q) 0 ≡ 0
first_set ls p q behind_first first = get_or-set_other ls p 0 q 0 (λ same. omega (arith, same, behind_first)) ∙ first
