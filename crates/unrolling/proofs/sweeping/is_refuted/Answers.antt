use Rattle.unrolling.proofs.Swept.{core_refuted}
use Rattle.unrolling.proofs.sweeping.is_refuted.Goals as goal

pub returns-in-Core-clause-refuted : goal.returns-in-Core-clause-refuted
returns-in-Core-clause-refuted g c = λ yes. core_refuted (g.S.Sat.clauses c.args.solver.now) c.args.literals.now c.in-Core.field-0.items (rw c.in-Core.is at c.in_ok-answer.ensures.lawful)
