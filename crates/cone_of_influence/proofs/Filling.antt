-- One place more is filled.
use Rattle.std.proofs.Common.{◌≡◌, ℕ, ◌+◌, ◌<◌, ◌≤◌, Bool, false, List, [], ◌∷◌, ◌++◌, length, drop, get_or, Option, None, Some, inl, inr, sym, ◌∙◌, ap, ap₂, arith}
use Rattle.std.proofs.lemmas.Bool.{cases_lt}
use Rattle.std.proofs.lemmas.List.{append_assoc, drop_all, drop_more, get_or_past}
use Rattle.cone_of_influence.specs.Reduced.{filled, value_for, place_after}

pub given_more : (fs : List (Option Bool)) (vs all whole : List Bool) (i n : ℕ) (d : Option Bool) (b : Bool) → i < length fs → get_or fs i d ≡ Some b → all ++ filled (drop i fs) (drop n vs) ≡ whole →
    (all ++ b ∷ []) ++ filled (drop (i + 1) fs) (drop n vs) ≡ whole
given_more fs vs all whole i n d b i_in is before =
    append_assoc all (b ∷ []) (filled (drop (i + 1) fs) (drop n vs))
    ∙ ap (λ o. all ++ filled (o ∷ drop (i + 1) fs) (drop n vs)) (sym is)
    ∙ ap (λ xs. all ++ filled xs (drop n vs)) (sym (drop_more fs i d i_in))
    ∙ before

next_filled : (fs : List (Option Bool)) (vs : List Bool) (n : ℕ) → filled (None ∷ fs) (drop n vs) ≡ get_or vs n false ∷ filled fs (drop (n + 1) vs)
next_filled fs vs n = elim (cases_lt n (length vs)) [
  | inl inside ↦ ap (filled (None ∷ fs)) (drop_more vs n false inside)
  | inr past ↦
      let later : length vs ≤ n + 1 = omega (arith, past) in
      ap (filled (None ∷ fs)) (drop_all n vs past) ∙ ap (λ xs. false ∷ filled fs xs) (sym (drop_all (n + 1) vs later))
      ∙ ap (λ b. b ∷ filled fs (drop (n + 1) vs)) (sym (get_or_past vs n false past))
]

pub next_more : (fs : List (Option Bool)) (vs all whole : List Bool) (i n : ℕ) (d : Option Bool) → i < length fs → get_or fs i d ≡ None → all ++ filled (drop i fs) (drop n vs) ≡ whole →
    (all ++ get_or vs n false ∷ []) ++ filled (drop (i + 1) fs) (drop (n + 1) vs) ≡ whole
next_more fs vs all whole i n d i_in is before =
    append_assoc all (get_or vs n false ∷ []) (filled (drop (i + 1) fs) (drop (n + 1) vs))
    ∙ ap (λ xs. all ++ xs) (sym (next_filled (drop (i + 1) fs) vs n))
    ∙ ap (λ o. all ++ filled (o ∷ drop (i + 1) fs) (drop n vs)) (sym is)
    ∙ ap (λ xs. all ++ filled xs (drop n vs)) (sym (drop_more fs i d i_in))
    ∙ before

pub fill_more : (fs : List (Option Bool)) (vs all more whole : List Bool) (i n after : ℕ) (o : Option Bool) (b : Bool) → i < length fs → o ≡ get_or fs i o → b ≡ value_for o vs n → after ≡ place_after o n → more ≡ all ++ b ∷ [] →
    all ++ filled (drop i fs) (drop n vs) ≡ whole → more ++ filled (drop (i + 1) fs) (drop after vs) ≡ whole
fill_more fs vs all more whole i n after (Some v) b i_in here is same longer before =
    ap₂ (λ xs k. xs ++ filled (drop (i + 1) fs) (drop k vs)) (longer ∙ ap (λ c. all ++ c ∷ []) is) same
    ∙ given_more fs vs all whole i n (Some v) v i_in (sym here) before
fill_more fs vs all more whole i n after None b i_in here is same longer before =
    ap₂ (λ xs k. xs ++ filled (drop (i + 1) fs) (drop k vs)) (longer ∙ ap (λ c. all ++ c ∷ []) is) same
    ∙ next_more fs vs all whole i n None i_in (sym here) before
