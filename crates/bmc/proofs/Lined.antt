-- Lines of inputs, one after the other.
use Rattle.std.proofs.Common.{◌≡◌, ℕ, ◌+◌, ◌<◌, Bool, List, [], ◌∷◌, ◌++◌, length, take, get_or, inl, inr, sym, ◌∙◌, ap, subst, arith, length-append, length-take-le, get_or-take}
use Rattle.std.proofs.lemmas.Bool.{cases_lt}
use Rattle.std.proofs.lemmas.List.{get_or_append_left, get_or_at}
use Rattle.graph.specs.declared.parts.Parts.{Parts}
use Rattle.unrolling.specs.declared.cone.Cone.{Cone}
use Rattle.bmc.specs.Lines.{IsLine, AreLines}

pub lines_more : (m : Parts) (c : Cone) (b : List Bool) (firsts : List ℕ) (n : ℕ) (lines : List (List Bool)) (line : List Bool) → n < length firsts → AreLines m c b (take n firsts) lines → IsLine m c b (get_or firsts n 0) line →
    AreLines m c b (take (n + 1) firsts) (lines ++ line ∷ [])
lines_more m c b firsts n lines line n_in h is =
    let short : length (take n firsts) ≡ n = length-take-le n firsts (omega (arith, n_in)) in
    let long : length (take (n + 1) firsts) ≡ n + 1 = length-take-le (n + 1) firsts (omega (arith, n_in)) in
    let count : length lines ≡ n = h.whole ∙ short in
    record {
      whole = omega (arith, length-append lines (line ∷ []), count, long);
      each = λ t t_in. elim (cases_lt t n) [
        | inl before ↦
            let old = h.each t (omega (arith, before, short)) in
            let first_is : get_or (take n firsts) t 0 ≡ get_or (take (n + 1) firsts) t 0 = get_or-take n firsts t 0 before ∙ sym (get_or-take (n + 1) firsts t 0 (omega (arith, before))) in
            subst (λ q. IsLine m c b q (get_or (lines ++ line ∷ []) t [])) first_is (subst (IsLine m c b (get_or (take n firsts) t 0)) (sym (get_or_append_left lines (line ∷ []) [] t (omega (arith, before, count)))) old)
        | inr last ↦
            let t_is : n ≡ t = omega (arith, last, t_in, long) in
            let first_is : get_or firsts n 0 ≡ get_or (take (n + 1) firsts) t 0 = ap (λ q. get_or firsts q 0) t_is ∙ sym (get_or-take (n + 1) firsts t 0 (omega (arith, t_is))) in
            subst (λ q. IsLine m c b q (get_or (lines ++ line ∷ []) t [])) first_is (subst (IsLine m c b (get_or firsts n 0)) (sym (get_or_at lines line [] [] t (count ∙ t_is))) is)
      ];
    }
