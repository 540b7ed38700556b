use Rattle.std.proofs.Common.{◌≡◌, filter, take}
use Rattle.graph.specs.Circuits.{variable, place}
use Rattle.transforms.proofs.extracting.gates_in.Given as goal

abbrev pub invariant-choosing : goal.invariant-choosing
invariant-choosing l = l.kept ≡ filter (λ g. place l.marks (variable g.lhs)) (take l.gate-index l.gates)
