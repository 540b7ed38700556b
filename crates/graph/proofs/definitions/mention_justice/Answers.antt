use Rattle.std.proofs.Common.{◌<◌, length}
use Rattle.graph.specs.Circuits.{variable}
use Rattle.graph.proofs.Tabled.{All-piece, StaysMarked-more_justice}
use Rattle.graph.proofs.definitions.mention_justice.Goals as goal

pub mention-requires : goal.mention-requires
mention-requires c = rw (c.as_slice.ensures, c.lits-item.is, c.loop-lits.invariant.places)
    (All-piece (λ a. variable a < length c.args.table.now) c.args.justice.now c.loop-lits.lits-index _ c.loop-lits-test.true c.requires)

pub loop-lits-preserved : goal.loop-lits-preserved
loop-lits-preserved c = StaysMarked-more_justice c.args.justice.now c.loop-lits.lits-index c.lits-item.result _ _ _ c.loop-lits-test.true c.loop-lits.invariant
    (rw (← c.lits-item.is, ← c.as_slice.ensures) c.mention.ensures)
