-- Gates that are made, and the table of their right sides.
use Rattle.std.proofs.Common.{◌≡◌, ℕ, ◌+◌, ◌*◌, ◌<◌, ◌==◌, true, false, List, [], ◌∷◌, ◌++◌, length, get_or, Option, None, Some, inl, inr, refl, sym, ◌∙◌, ap, subst, arith, length-append}
use Rattle.std.proofs.lemmas.Bool.{and_parts, cases_Bool, cases_lt, eqb-true}
use Rattle.std.proofs.lemmas.List.{get_or_append_left, get_or_at}
use Rattle.std.proofs.lemmas.Option.{same_Some}
use Rattle.graph.specs.declared.circuit.Lit.{Lit}
use Rattle.graph.specs.declared.circuit.Gate.{Gate}
use Rattle.shrink.specs.Making.{sides, same_sides, IsMadeAt, AreMade, IsTable, IsConjunction}

abbrev pub blank : Gate
blank = record { lhs = record { 0 = 0 }; rhs0 = record { 0 = 0 }; rhs1 = record { 0 = 0 } }

-- a gate that stands is the conjunction of its sides
pub made_conjunction : (first : ℕ) (gs : List Gate) (k : ℕ) (a b c : Lit) → AreMade first gs → k < length gs → sides (get_or gs k blank) ≡ (a.0, b.0) → c.0 ≡ 2 * (first + k) →
    IsConjunction gs a b c
made_conjunction first gs k a b c made k_in same is x follows =
    let g : Gate = get_or gs k blank in
    let lhs : c ≡ g.lhs = λ i. record { 0 = (is ∙ sym (made k blank k_in).numbered) i } in
    let left : a ≡ g.rhs0 = λ i. record { 0 = (sym (ap (λ p. p.0) same)) i } in
    let right : b ≡ g.rhs1 = λ i. record { 0 = (sym (ap (λ p. p.1) same)) i } in
    rw (lhs, left, right) (follows.fires k blank k_in)

-- one gate more
pub made_push : (first : ℕ) (gs : List Gate) (g : Gate) → AreMade first gs → IsMadeAt first (length gs) g → AreMade first (gs ++ g ∷ [])
made_push first gs g made new k d k_in = elim (cases_lt k (length gs)) [
  | inl old ↦ subst (IsMadeAt first k) (sym (get_or_append_left gs (g ∷ []) d k old)) (made k d old)
  | inr last ↦
      let is : k ≡ length gs = omega (arith, length-append gs (g ∷ [])) in
      subst (IsMadeAt first k) (sym (get_or_at gs g [] d k (sym is))) (subst (λ n. IsMadeAt first n g) (sym is) new)
]

-- the same right sides
same_is : (p q : ℕ × ℕ) → same_sides p q ≡ true → p ≡ q
same_is p q same =
    let both = and_parts (p.0 == q.0) (p.1 == q.1) same in
    λ i. (eqb-true p.0 q.0 both.0 i, eqb-true p.1 q.1 both.1 i)

-- one entry more
pub table_push : (first : ℕ) (gs : List Gate) (g : Gate) (f h : ℕ × ℕ → Option ℕ) → IsTable first gs f → f (sides g) ≡ None → h (sides g) ≡ Some (first + length gs) →
    ((q : ℕ × ℕ) → same_sides (sides g) q ≡ false → h q ≡ f q) → IsTable first (gs ++ g ∷ []) h
table_push first gs g f h table absent here others = record {
  found = λ k d k_in. elim (cases_lt k (length gs)) [
    | inl old ↦
        let q : ℕ × ℕ = sides (get_or gs k d) in
        let at : f q ≡ Some (first + k) = table.found k d old in
        let apart : same_sides (sides g) q ≡ false = elim (cases_Bool (same_sides (sides g) q)) [
          | inl same ↦ absurd (let e : None ≡ Some (first + k) = sym absent ∙ ap f (same_is (sides g) q same) ∙ at in cc)
          | inr other ↦ other
        ] in
        ap (λ x. h (sides x)) (get_or_append_left gs (g ∷ []) d k old) ∙ others q apart ∙ at
    | inr last ↦
        let is : k ≡ length gs = omega (arith, length-append gs (g ∷ [])) in
        ap (λ x. h (sides x)) (get_or_at gs g [] d k (sym is)) ∙ here ∙ ap (λ n. Some (first + n)) (sym is)
  ];
  sound = λ p v at. elim (cases_Bool (same_sides (sides g) p)) [
    | inl same ↦
        let is : sides g ≡ p = same_is (sides g) p same in
        let v_is : v ≡ first + length gs = sym (same_Some (first + length gs) v (sym here ∙ ap h is ∙ at)) in
        (length gs, omega (arith, length-append gs (g ∷ [])), v_is, λ d. ap sides (get_or_at gs g [] d (length gs) refl) ∙ is)
    | inr other ↦
        let old = table.sound p v (sym (others p other) ∙ at) in
        (old.0, omega (arith, length-append gs (g ∷ []), old.1), old.2, λ d. ap sides (get_or_append_left gs (g ∷ []) d old.0 old.1) ∙ old.3 d)
  ];
}
