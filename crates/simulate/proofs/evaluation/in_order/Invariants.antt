use Rattle.simulate.proofs.Sorted.{FirstInOrder}
use Rattle.simulate.proofs.evaluation.in_order.Given as goal

abbrev pub invariant-loop-place : goal.invariant-loop-place
invariant-loop-place l = FirstInOrder l.gates l.order l.sorted.items l.place-index
