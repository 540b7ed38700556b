-- Inputs and latches are numbered one after the other.
use Rattle.std.proofs.Common.{◌≡◌, ◌≢◌, ℕ, ◌+◌, ◌*◌, ◌<◌, ◌⊎◌, List, [], ◌∷◌, ◌++◌, map, set, take, length, get_or, AllPairs, Contains, inl, inr, sym, ◌∙◌, ap, subst, arith, get_or-set_same, get_or-set_other}
use Rattle.std.proofs.lemmas.Bool.{cases_eq, cases_lt}
use Rattle.std.proofs.lemmas.List.{get_or_default, map_more}
use Rattle.std.proofs.lemmas.List.Elements.{Contains-append_left, Contains-push}
use Rattle.graph.specs.declared.circuit.Lit.{Lit}
use Rattle.graph.specs.Circuits.{variable}
use Rattle.graph.proofs.Gates.{apart_at}
use Rattle.shrink.specs.Hashed.{image_of}

-- one literal more is numbered
pub numbered_more : (image bases : List Lit) (k u : ℕ) (c : Lit) → k < length bases → u < length image → AllPairs (λ u v. u ≢ v) (map variable bases) →
    u ≡ variable (get_or bases k (record { 0 = 0 })) → c.0 ≡ 2 * (1 + k) →
    ((j : ℕ) (d : Lit) → j < k → image_of image (variable (get_or bases j d)) ≡ record { 0 = 2 * (1 + j) }) →
    (j : ℕ) (d : Lit) → j < k + 1 → image_of (set image u c) (variable (get_or bases j d)) ≡ record { 0 = 2 * (1 + j) }
numbered_more image bases k u c k_in u_in once is number before j d j_in = elim (cases_lt j k) [
  | inl earlier ↦
      let blank : Lit = record { 0 = 0 } in
      let same : get_or bases j d ≡ get_or bases j blank = get_or_default bases j d blank (omega arith) in
      let apart : variable (get_or bases j d) ≢ u = λ e. apart_at variable bases j k blank once (omega arith) k_in (λ f. omega arith) (ap variable (sym same) ∙ e ∙ is) in
      get_or-set_other image u (variable (get_or bases j d)) c blank apart ∙ before j d earlier
  | inr last ↦
      let blank : Lit = record { 0 = 0 } in
      let j_is : j ≡ k = omega arith in
      let at : variable (get_or bases j d) ≡ u = ap (λ i. variable (get_or bases i d)) j_is ∙ ap variable (get_or_default bases k d blank k_in) ∙ sym is in
      ap (λ v. image_of (set image u c) v) at ∙ get_or-set_same image u c blank u_in ∙ (λ i. record { 0 = (number ∙ ap (λ n. 2 * (1 + n)) (sym j_is)) i })
]

-- what is none of the literals stays
pub numbered_kept : (image begin bases : List Lit) (k u : ℕ) (c : Lit) → k < length bases → u ≡ variable (get_or bases k (record { 0 = 0 })) →
    ((v : ℕ) → Contains (map variable (take k bases)) v ⊎ (image_of image v ≡ image_of begin v)) →
    (v : ℕ) → Contains (map variable (take (k + 1) bases)) v ⊎ (image_of (set image u c) v ≡ image_of begin v)
numbered_kept image begin bases k u c k_in is before v =
    let blank : Lit = record { 0 = 0 } in
    let more = map_more variable bases k blank k_in in
    elim (before v) [
      | inl found ↦ inl (subst (λ vs. Contains vs v) (sym more) (Contains-append_left (map variable (take k bases)) (variable (get_or bases k blank) ∷ []) v found))
      | inr same ↦ elim (cases_eq u v) [
        | inl here ↦ inl (subst (λ vs. Contains vs v) (sym more) (subst (Contains (map variable (take k bases) ++ variable (get_or bases k blank) ∷ [])) (sym is ∙ here) (Contains-push (map variable (take k bases)) (variable (get_or bases k blank)))))
        | inr apart ↦ inr (get_or-set_other image u v c blank (λ e. apart (sym e)) ∙ same)
      ]
    ]
