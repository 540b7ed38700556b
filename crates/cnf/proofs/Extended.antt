-- An unrolling grows at its end.
use Rattle.std.proofs.Common.{◌≡◌, ℕ, zero, suc, ◌+◌, ◌*◌, ◌≤◌, arith, ℤ, List, ◌++◌, All, append_assoc, ◌∙◌, sym, ap, subst}
use Rattle.std.specs.Prelude.{flat_map}
use Rattle.graph.specs.declared.parts.Parts.{Parts}
use Rattle.graph.specs.WellFormed.{IsWellFormed}
use Rattle.graph.proofs.Evaluation.{All-right}
use Rattle.lrat.specs.Literals.{IsLiteral}
use Rattle.cnf.specs.Clauses.{reset_clauses, time_clauses}
use Rattle.cnf.specs.Unrolled.{join_clauses, times_from, unroll_clauses, IsExtension}
use Rattle.cnf.proofs.Counted.{unroll_formed}

-- a time after one that lies after p variables, with the joins between them
abbrev time_after : Parts → ℕ → List (List ℤ)
time_after m p = flat_map (join_clauses m.max_var p) m.latches ++ time_clauses m (p + m.max_var + 1)

-- the last of suc k more times stands at the end
times_last : (m : Parts) (k o p : ℕ) → p ≡ o + k * (m.max_var + 1) → times_from m (suc k) o ≡ times_from m k o ++ time_after m p
times_last m zero o p e =
    let same : p ≡ o = omega (arith, e) in
    subst (λ q. times_from m 1 o ≡ time_clauses m o ++ time_after m q) (sym same)
    (append_assoc (time_clauses m o) (flat_map (join_clauses m.max_var o) m.latches) (time_clauses m (o + m.max_var + 1)))
times_last m (suc k) o p e =
    let first : List (List ℤ) = time_clauses m o ++ flat_map (join_clauses m.max_var o) m.latches in
    let more : p ≡ o + m.max_var + 1 + k * (m.max_var + 1) = omega (arith, e) in
    ap (λ cs. first ++ cs) (times_last m k (o + m.max_var + 1) p more)
    ∙ sym (append_assoc first (times_from m k (o + m.max_var + 1)) (time_after m p))

-- joins and a time, made one after the other
pub extended : (m : Parts) (k p : ℕ) (s : List (List ℤ)) → p ≡ k * (m.max_var + 1) → s ≡ time_after m p → IsExtension m (suc k) s
extended m k p s e is =
    let resets : List (List ℤ) = flat_map (reset_clauses m.max_var 0) m.latches in
    let at : p ≡ 0 + k * (m.max_var + 1) = omega (arith, e) in
    ap (λ cs. resets ++ cs) (times_last m k 0 p at) ∙ sym (append_assoc resets (times_from m k 0) (time_after m p))
    ∙ ap (λ cs. unroll_clauses m k ++ cs) (sym is)

-- the literals are those of the unrolling
pub extension_literals : (m : Parts) (k : ℕ) (s : List (List ℤ)) → IsWellFormed m → k ≤ 255 → IsExtension m k s → All (All (IsLiteral ((k + 1) * (m.max_var + 1)))) s
extension_literals m zero s well small is =
    subst (All (All (IsLiteral ((0 + 1) * (m.max_var + 1))))) is (unroll_formed m 0 well small).are_literals
extension_literals m (suc k) s well small is =
    let P : List ℤ → Type 0 = All (IsLiteral ((suc k + 1) * (m.max_var + 1))) in
    All-right P (unroll_clauses m k) s (subst (All P) is (unroll_formed m (suc k) well small).are_literals)
