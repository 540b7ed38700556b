use Rattle.std.proofs.Common.{◌-◌, arith, length, take, drop}
use Rattle.std.proofs.lemmas.List.{length-drop, take_all}
use Rattle.wave_signals.proofs.SignalLaws.{grouped_more}
use Rattle.wave_signals.proofs.signals.signals_of.Goals as goal

pub grouping-preserved : goal.grouping-preserved
grouping-preserved c =
    let bits = c.args.bits.now in
    let first = c.grouping.first in
    let rest = drop first bits in
    let vector = c.vector_length.ensures in
    rw c.in_ok-push.ensures.items
    (grouped_more bits c.grouping.signals.items first c.vector_length.result (take (length bits - first) rest) (take_all (length bits - first) rest (omega (arith, length-drop first bits))) vector.some vector.within vector.vector c.grouping.invariant)
