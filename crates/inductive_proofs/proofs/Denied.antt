-- Denied literals.
use Rattle.std.proofs.Common.{ℕ, ◌+◌, ◌≤◌, List, All, map, get_or, not, arith}
use Rattle.std.proofs.lemmas.List.Elements.{All-map}
use Rattle.graph.specs.declared.circuit.Lit.{Lit}
use Rattle.graph.specs.Circuits.{variable}
use Rattle.lrat.specs.Literals.{IsLiteral}
use Rattle.cnf.specs.Clauses.{denial, is_negated}
use Rattle.cnf.specs.Formulas.{IsInRange}
use Rattle.cnf.proofs.Formed.{IsFrom, chosen_from}

denial_below : (n o top : ℕ) (a : Lit) → IsInRange n a → o + n + 1 ≤ top → IsFrom (λ u. u ≤ top) (denial n o a)
denial_below n o top a range high =
    chosen_from (λ u. u ≤ top) (is_negated a) (not (is_negated a)) (variable a) o (o + n + 1) (λ e. omega arith) high (λ nz. omega (arith, range, high))

pub denials_below : (n o top : ℕ) (c : List Lit) → All (IsInRange n) c → o + n + 1 ≤ top → All (IsLiteral top) (map (denial n o) c)
denials_below n o top c over high = All-map (IsFrom (λ u. u ≤ top)) (denial n o) c (λ i e i_in. denial_below n o top (get_or c i e) (over i e i_in) high)
