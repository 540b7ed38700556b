use Rattle.std.proofs.Common.{◌≡◌, filter, take}
use Rattle.graph.specs.Circuits.{variable, place}
use Rattle.cone_of_influence.proofs.lists.marked_gates.Given as goal

abbrev pub invariant-choosing : goal.invariant-choosing
invariant-choosing l = l.kept ≡ filter (λ g. place l.marks (variable g.lhs)) (take l.gate-index l.gates)
