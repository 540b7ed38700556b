use Rattle.std.proofs.Common.{◌≡◌, ℕ, ◌≢◌, length, sum_by}
use Rattle.graph.specs.declared.ordering.Mark.TheVariants.{Waiting}
use Rattle.graph.specs.Search.{mark_of, weight, IsSearch}
use Rattle.graph.proofs.ordering.Search.settle.Given as goal

abbrev pub invariant-searching : goal.invariant-searching
invariant-searching l = record {
  search : IsSearch l.gates l.self.marks.items l.self.order.items l.self.stack.items;
  long : length l.self.marks.items ≡ length l.fn.self.marks.items;
  waiting : (v : ℕ) → mark_of l.self.marks.items v ≡ Waiting → (mark_of l.fn.self.marks.items v ≡ Waiting) × (v ≢ l.root);
}

abbrev pub decreases-searching : goal.decreases-searching
decreases-searching l = sum_by weight l.self.marks.items
