use Rattle.std.proofs.Common.{◌≡◌, ℕ, ◌<◌, [], true, get_or}
use Rattle.std.specs.List.{list_all}
use Rattle.witness_additions.specs.Trimmings.{is_kept}
use Rattle.witness_additions.proofs.trimming.keeps_clauses.Given as goal

abbrev pub invariant-loop-k : goal.invariant-loop-k
invariant-loop-k l = (k : ℕ) → k < l.k → list_all (is_kept l.first l.needed) (get_or l.clauses k []) ≡ true
