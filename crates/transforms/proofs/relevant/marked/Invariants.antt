use Rattle.std.proofs.Common.{◌≡◌, filter, take}
use Rattle.sequential_cones.specs.Cones.{is_over}
use Rattle.transforms.proofs.relevant.marked.Given as goal

abbrev pub invariant-choosing : goal.invariant-choosing
invariant-choosing l = l.kept ≡ filter (is_over l.marks) (take l.clause-index l.clauses)
