use Rattle.std.proofs.Common.{◌≡◌, filter, take}
use Rattle.graph.specs.Circuits.{variable, place}
use Rattle.cone_of_influence.proofs.lists.marked_latches.Given as goal

abbrev pub invariant-choosing : goal.invariant-choosing
invariant-choosing l = l.kept ≡ filter (λ a. place l.marks (variable a.lit)) (take l.latch-index l.latches)
