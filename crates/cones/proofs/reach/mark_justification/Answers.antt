use Rattle.std.proofs.Common.{◌∷◌, []}
use Rattle.graph.specs.Circuits.{variable}
use Rattle.cones.specs.Reach.{IsFrom}
use Rattle.cones.proofs.Growing.{from_second}
use Rattle.cones.proofs.reach.mark_justification.Goals as goal

pub returns-then-is_second-clause-from : goal.returns-then-is_second-clause-from
returns-then-is_second-clause-from c =
    let from : IsFrom (variable c.args.gate.rhs1 ∷ []) c.args.marks.now c.mark.new.marks = rw c.variable.ensures at c.in_ok-mark.ensures.from in
    from_second (variable c.args.gate.rhs1) (variable c.args.gate.rhs0) _ _ from
