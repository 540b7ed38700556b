use Rattle.std.proofs.Common.{arith}
use Rattle.simulate.proofs.Taking.{nexts_in_range}
use Rattle.simulate.proofs.wide.Wide.step.Goals as goal

pub move_on-requires-clause-in_range : goal.move_on-requires-clause-in_range
move_on-requires-clause-in_range c =
    rw (c.as_slice.ensures, c.parts-parts.ensures.parts) (λ k d k_in.
    let h = nexts_in_range c.self.inside.circuit.now c.parts-parts.ensures.well_formed k d k_in in omega (arith, h, c.deref-2.ensures.len, c.evaluate.auto.out, c.deref_mut.ensures.len, c.self.invariant.1))
