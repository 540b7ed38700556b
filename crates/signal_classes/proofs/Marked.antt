-- Marks, of which a place that there is not has one.
use Rattle.std.proofs.Common.{◌≡◌, ℕ, ◌+◌, ◌<◌, Bool, true, List, length, set, take, get_or, Contains, inl, inr, sym, ◌∙◌, ap, subst, get_or-set_same, get_or-set_other}
use Rattle.std.proofs.lemmas.Bool.{cases_eq}
use Rattle.std.proofs.lemmas.List.{take_more}
use Rattle.std.proofs.lemmas.List.Elements.{Contains-push_cases}

-- what is marked stays marked where a mark is made
pub more_marked : (t : List Bool) (i v : ℕ) → i < length t → get_or t v true ≡ true → get_or (set t i true) v true ≡ true
more_marked t i v i_in h = elim (cases_eq i v) [
  | inl same ↦ ap (λ x. get_or (set t i true) x true) (sym same) ∙ get_or-set_same t i true true i_in
  | inr apart ↦ get_or-set_other t i v true true (λ e. apart (sym e)) ∙ h
]

-- one more place of a list is marked
pub marked_so_far : (xs : List ℕ) (n : ℕ) (before after : List Bool) → n < length xs → ((v : ℕ) → Contains (take n xs) v → get_or before v true ≡ true) → get_or after (get_or xs n 0) true ≡ true →
    ((v : ℕ) → get_or before v true ≡ true → get_or after v true ≡ true) → (v : ℕ) → Contains (take (n + 1) xs) v → get_or after v true ≡ true
marked_so_far xs n before after n_in marked here more v found = elim (Contains-push_cases (take n xs) (get_or xs n 0) v (subst (λ (ys : List ℕ). Contains ys v) (take_more xs n 0 n_in) found)) [
  | inl old ↦ more v (marked v old)
  | inr same ↦ ap (λ x. get_or after x true) (sym same) ∙ here
]
