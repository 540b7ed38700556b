-- A clause that repeats or opposes a literal.
use Rattle.std.proofs.Common.{◌≡◌, ℕ, ℤ, ◌<◌, ◌⊎◌, List, map, take, length, get_or, neg_ℤ, Contains, inl, inr, arith, sym, ◌∙◌, ap, subst}
use Rattle.std.proofs.lemmas.List.{get_or-map, get_or-take, length-map, length-take-le}
use Rattle.graph.specs.declared.circuit.Lit.{Lit}
use Rattle.graph.specs.declared.parts.Parts.{Parts}
use Rattle.lrat.specs.Literals.{IsProper}
use Rattle.cnf.specs.Clauses.{literal}
use Rattle.cnf.specs.Formulas.{clause_at}
use Rattle.cnf.specs.declared.time_frame.TimeFrame.{TimeFrame}
use Rattle.certify3.specs.Causes.{IsRepeated}

-- an earlier literal is x
earlier : (f : Lit → ℤ) (c : List Lit) (i : ℕ) (d : Lit) (x : ℤ) → i < length c → Contains (map f (take i c)) x → (k : ℕ) × (k < i) × (get_or (map f c) k x ≡ x)
earlier f c i d x lt (k, k_in, is) =
    let inside : k < length (take i c) = rw length-map at k_in in
    let k_lt : k < i = omega (arith, inside, length-take-le i c (omega (arith, lt))) in
    (k, k_lt, get_or-map f c k d x (omega (arith, k_lt, lt)) ∙ ap f (sym (get_or-take i c k d k_lt)) ∙ sym (get_or-map f (take i c) k d x inside) ∙ is)

-- an earlier literal is that at i, or opposes it
pub not_proper : (f : Lit → ℤ) (c : List Lit) (i : ℕ) (d : Lit) → i < length c → Contains (map f (take i c)) (f (get_or c i d)) ⊎ Contains (map f (take i c)) (neg_ℤ (f (get_or c i d))) →
    (n : ℕ) → IsProper n (map f c) → ⊥
not_proper f c i d lt (inl found) n proper =
    let x : ℤ = f (get_or c i d) in
    let (k, k_lt, is) = earlier f c i d x lt found in
    let here : get_or (map f c) i x ≡ x = get_or-map f c i d x lt in
    (proper.1 k i x k_lt (rw length-map lt)).0 (is ∙ sym here)
not_proper f c i d lt (inr found) n proper =
    let x : ℤ = f (get_or c i d) in
    let y : ℤ = neg_ℤ x in
    let (k, k_lt, is) = earlier f c i d y lt found in
    let here : get_or (map f c) i y ≡ x = get_or-map f c i d y lt in
    (proper.1 k i y k_lt (rw length-map lt)).1 (is ∙ ap neg_ℤ (sym here))

-- the clause at k is improper at the first time
pub repeated_at : (m : Parts) (inv : List (List Lit)) (k : ℕ) (time : TimeFrame) (c : List Lit) → k < length inv → time.max_var ≡ m.max_var → time.offset ≡ 0 → c ≡ clause_at inv k →
    ((n : ℕ) → IsProper n (map (literal time.max_var time.offset) c) → ⊥) → IsRepeated m inv k
repeated_at m inv k time c lt greatest o is improper = record {
  stands = lt;
  improper = λ n proper. improper n
      (subst (λ (x : List Lit). IsProper n (map (literal time.max_var time.offset) x)) (sym is)
      (subst (λ q. IsProper n (map (literal time.max_var q) (clause_at inv k))) (sym o) (subst (λ p. IsProper n (map (literal p 0) (clause_at inv k))) (sym greatest) proper)));
}
