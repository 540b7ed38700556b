-- The clauses of two times.
use Rattle.std.proofs.Common.{◌≡◌, ℤ, List, ◌++◌, sym, ◌∙◌}
use Rattle.std.specs.List.{flat_map}
use Rattle.std.proofs.lemmas.List.{append_assoc, append_cancel_left}
use Rattle.graph.specs.declared.parts.Parts.{Parts}
use Rattle.cnf.specs.Clauses.{reset_clauses, time_clauses}
use Rattle.cnf.specs.Unrolled.{IsExtension, times_from, unroll_clauses}

-- the clauses of one time, and what an unrolling of one step has beyond that of none
pub pair_is : (m : Parts) (s : List (List ℤ)) → IsExtension m 1 s → time_clauses m 0 ++ s ≡ times_from m 1 0
pair_is m s e =
    let R = flat_map (reset_clauses m.max_var 0) m.latches in
    let T = time_clauses m 0 in
    let h : unroll_clauses m 1 ≡ unroll_clauses m 0 ++ s = e in
    sym (append_cancel_left R (times_from m 1 0) (T ++ s) (h ∙ append_assoc R T s))
