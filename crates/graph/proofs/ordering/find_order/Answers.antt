use Rattle.std.proofs.Common.{get_or, arith, ◌∙◌, below_more, sym}
use Rattle.graph.specs.Search.{lefts, IsEnded}
use Rattle.graph.proofs.Cycles.{blank, left_at}
use Rattle.graph.proofs.Ended.{all_gone, order_found, cycle_found}
use Rattle.graph.proofs.ordering.find_order.Goals as goal

pub loop-gate-preserved : goal.loop-gate-preserved
loop-gate-preserved c = record {
  search = c.in_ok-settle.ensures.search;
  empty = c.in_ok-settle.ensures.empty;
  long = c.settle.ensures.long ∙ c.loop-gate.invariant.long;
  gone = below_more _ _
      (λ k k_in waits. c.loop-gate.invariant.gone k k_in (c.settle.ensures.waiting (get_or (lefts c.args.gates.now) k 0) waits).0)
      (λ waits. (c.settle.ensures.waiting (get_or (lefts c.args.gates.now) c.loop-gate.gate-index 0) waits).1 (left_at c.args.gates.now c.loop-gate.gate-index blank c.loop-gate-test.true ∙ sym c.variable.ensures));
}

pub returns-in-Some : goal.returns-in-Some
returns-in-Some c =
    let marks = c.loop-gate.search.marks.items in
    let ended : IsEnded c.args.gates.now marks c.loop-gate.search.order.items = all_gone c.args.gates.now marks c.loop-gate.search.order.items c.loop-gate.search.stack.items c.loop-gate.gate-index
    c.loop-gate.invariant.search c.loop-gate.invariant.empty (omega arith) c.loop-gate.invariant.gone in
    let h = rw c.deref-2.ensures.value at c.in-Some.ensures in
    record { found = cycle_found c.args.gates.now marks c.loop-gate.search.order.items c.in-Some.v c.requires.once ended h.0 h.1 }

pub returns : goal.returns
returns c =
    let marks = c.loop-gate.search.marks.items in
    let ended : IsEnded c.args.gates.now marks c.loop-gate.search.order.items = all_gone c.args.gates.now marks c.loop-gate.search.order.items c.loop-gate.search.stack.items c.loop-gate.gate-index
    c.loop-gate.invariant.search c.loop-gate.invariant.empty (omega arith) c.loop-gate.invariant.gone in
    record { found = order_found c.args.gates.now marks c.loop-gate.search.order.items c.requires.once ended (rw c.deref-2.ensures.value at c.in-None.ensures) }
