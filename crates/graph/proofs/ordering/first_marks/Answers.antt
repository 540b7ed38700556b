use Rattle.std.proofs.Common.{ℕ, ◌+◌, ◌≡◌, ◌≤◌, length, get_or, arith, length-set, ◌∙◌}
use Rattle.graph.specs.Circuits.{variable}
use Rattle.graph.specs.declared.ordering.Mark.TheVariants.{Waiting}
use Rattle.graph.proofs.Cycles.{blank, left_at}
use Rattle.graph.proofs.Ended.{first_more, first_search}
use Rattle.graph.proofs.ordering.first_marks.Goals as goal

pub loop-gate-preserved : goal.loop-gate-preserved
loop-gate-preserved c =
    let v : ℕ = variable (get_or c.args.gates.now c.loop-gate.gate-index blank).lhs in
    let inside : v ≤ c.args.max_var = c.requires.in_range c.loop-gate.gate-index blank c.loop-gate-test.true in
    let long : length c.loop-gate.marks.items ≡ c.args.max_var + 1 = c.loop-gate.invariant.long in
    rw c.variable.ensures (record {
      long = length-set c.loop-gate.marks.items v Waiting ∙ long;
      first = first_more c.args.gates.now c.loop-gate.marks.items c.loop-gate.gate-index v c.loop-gate-test.true (left_at c.args.gates.now c.loop-gate.gate-index blank c.loop-gate-test.true)
          (omega (arith, inside, long)) c.loop-gate.invariant.first;
    })

pub returns : goal.returns
returns c = (c.loop-gate.invariant.long, first_search c.args.gates.now c.loop-gate.marks.items c.loop-gate.gate-index (omega arith) c.loop-gate.invariant.first)
