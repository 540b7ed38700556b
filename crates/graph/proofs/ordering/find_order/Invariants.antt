use Rattle.std.proofs.Common.{◌≡◌, ℕ, ◌+◌, ◌<◌, ◌≢◌, length, get_or, []}
use Rattle.graph.specs.declared.ordering.Mark.TheVariants.{Waiting}
use Rattle.graph.specs.Search.{lefts, mark_of, IsSearch}
use Rattle.graph.proofs.ordering.find_order.Given as goal

abbrev pub invariant-loop-gate : goal.invariant-loop-gate
invariant-loop-gate l = record {
  search : IsSearch l.gates l.search.marks.items l.search.order.items l.search.stack.items;
  empty : l.search.stack.items ≡ [];
  long : length l.search.marks.items ≡ l.max_var + 1;
  gone : (k : ℕ) → k < l.gate-index → mark_of l.search.marks.items (get_or (lefts l.gates) k 0) ≢ Waiting;
}
