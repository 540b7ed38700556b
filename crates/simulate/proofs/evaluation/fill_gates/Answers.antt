use Rattle.std.proofs.Common.{arith, sym}
use Rattle.simulate.proofs.Sorted.{evaluated_in}
use Rattle.simulate.proofs.evaluation.fill_gates.Goals as goal

pub loop-gate-preserved : goal.loop-gate-preserved
loop-gate-preserved c r r_in =
    evaluated_in c.args.gates.now c.args.out.now c.loop-gate.out r c.loop-gate.gate-index _ _ _ (omega arith) c.requires.even c.requires.once c.requires.after
    (let h = c.requires.in_range c.loop-gate.gate-index record { lhs = record { 0 = 0 }; rhs0 = record { 0 = 0 }; rhs1 = record { 0 = 0 } } (omega arith) in omega (arith, h.0))
    (sym c.variable.ensures) (c.conjunction.ensures r r_in) (c.loop-gate.invariant r r_in)

pub returns-clause-fires : goal.returns-clause-fires
returns-clause-fires c r r_in k d k_in = let done = c.loop-gate.invariant r r_in in done.fires k (omega arith) d
