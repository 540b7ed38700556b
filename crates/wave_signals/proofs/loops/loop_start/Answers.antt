use Rattle.std.proofs.Common.{◌<◌, length, ap, arith}
use Rattle.graph.specs.declared.parts.Parts.{Parts}
use Rattle.stimulus.proofs.Ranges.{wanted_in_range}
use Rattle.wave_signals.proofs.loops.loop_start.Goals as goal

pub first_lasso-requires-clause-in_range : goal.first_lasso-requires-clause-in_range
first_lasso-requires-clause-in_range c =
    let same = ap (λ (p : Parts). length p.justice) c.parts-parts.ensures.parts in
    let exists : c.in-Justice.j < length c.args.circuit.now.justice = omega (arith, c.if-j-len.false, c.len.ensures, same) in
    rw (c.deref.ensures.value, c.in_ok-wanted.ensures, c.parts-parts.ensures.parts) (wanted_in_range c.args.circuit.now c.in-Justice.j c.parts-parts.ensures.well_formed exists)
