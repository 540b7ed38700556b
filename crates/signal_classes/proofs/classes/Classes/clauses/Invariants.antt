use Rattle.std.proofs.Common.{◌≡◌, take}
use Rattle.std.specs.List.{flat_map}
use Rattle.signal_classes.specs.Classed.{clauses_at}
use Rattle.signal_classes.proofs.classes.Classes.clauses.Given as goal

abbrev pub invariant-loop-place : goal.invariant-loop-place
invariant-loop-place l = l.clauses ≡ flat_map (clauses_at l.self) (take l.place-index l.places)
