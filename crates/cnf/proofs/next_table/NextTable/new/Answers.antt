use Rattle.std.proofs.Common.{◌+◌, ◌*◌, ◌<◌, ◌≤◌, ◌∙◌, List, map, get_or, length, length-set, arith, All}
use Rattle.graph.specs.declared.circuit.Latch.{Latch}
use Rattle.graph.proofs.Evaluation.{latches_in_range, held, IsOnce}
use Rattle.cnf.proofs.Tabling.{latches_once, tabled_more, blank_latch}
use Rattle.cnf.proofs.next_table.NextTable.new.Goals as goal

pub index_mut-requires : goal.index_mut-requires
index_mut-requires c =
    let ranges : All (λ l. l.lit.0 ≤ 2 * c.args.circuit.now.max_var + 1) c.latches-latch-items.result.now = rw c.latches-latch-items.ensures (latches_in_range c.args.circuit.now c.well_formed-2.ensures) in
    let range = ranges c.loop-latch.latch-index blank_latch c.loop-latch-test.true in
    omega (arith, range, c.variable.ensures, c.loop-latch.invariant.0)

pub loop-latch-preserved : goal.loop-latch-preserved
loop-latch-preserved c =
    let ls : List Latch = c.latches-latch-items.result.now in
    let ranges : All (λ l. l.lit.0 ≤ 2 * c.args.circuit.now.max_var + 1) ls = rw c.latches-latch-items.ensures (latches_in_range c.args.circuit.now c.well_formed-2.ensures) in
    let once : IsOnce (map held ls) = rw c.latches-latch-items.ensures (latches_once c.args.circuit.now c.well_formed-2.ensures) in
    let range = ranges c.loop-latch.latch-index blank_latch c.loop-latch-test.true in
    let inside : held (get_or ls c.loop-latch.latch-index blank_latch) < length c.loop-latch.entries.items = omega (arith, range, c.loop-latch.invariant.0) in
    rw c.variable.ensures (
      length-set c.loop-latch.entries.items _ _ ∙ c.loop-latch.invariant.0,
      tabled_more ls c.loop-latch.latch-index blank_latch c.loop-latch.entries.items once c.loop-latch-test.true inside c.loop-latch.invariant.1,
    )
