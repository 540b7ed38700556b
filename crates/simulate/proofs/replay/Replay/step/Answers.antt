use Rattle.std.proofs.Common.{arith}
use Rattle.simulate.proofs.Taking.{nexts_in_range}
use Rattle.simulate.proofs.replay.Replay.step.Goals as goal

pub take_over-requires-clause-in_range : goal.take_over-requires-clause-in_range
take_over-requires-clause-in_range c =
    rw (c.as_slice.ensures, c.parts.ensures.parts) (λ k d k_in. let h = nexts_in_range c.self.inside.circuit.now c.parts.ensures.well_formed k d k_in in omega (arith, h, c.deref-2.ensures.len, c.self.invariant.1))
