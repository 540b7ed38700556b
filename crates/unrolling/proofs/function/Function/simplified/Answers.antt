use Rattle.std.proofs.Common.{arith}
use Rattle.unrolling.proofs.function.Function.simplified.Goals as goal

pub classified-requires : goal.classified-requires
classified-requires c = record { few = c.arranged-arranged.ensures.leaves 2147483647 c.requires.few }

pub arranged-requires : goal.arranged-requires
arranged-requires c = record { few = c.reduced-reduced.ensures.leaves 2147483647 (omega arith) (c.arranged-arranged.ensures.leaves 2147483647 c.requires.few) }

pub classified-requires-else-eq : goal.classified-requires-else-eq
classified-requires-else-eq c =
    record { few = c.arranged.ensures.leaves 2147483647 (c.reduced-reduced.ensures.leaves 2147483647 (omega arith) (c.arranged-arranged.ensures.leaves 2147483647 c.requires.few)) }

pub returns-then-eq-clause-leaves : goal.returns-then-eq-clause-leaves
returns-then-eq-clause-leaves c = λ n some is. c.classified.ensures.leaves n some (c.arranged-arranged.ensures.leaves n is)

pub returns-else-eq-clause-leaves : goal.returns-else-eq-clause-leaves
returns-else-eq-clause-leaves c = λ n some is. c.classified-else-eq.ensures.leaves n some (c.arranged.ensures.leaves n (c.reduced-reduced.ensures.leaves n some (c.arranged-arranged.ensures.leaves n is)))
