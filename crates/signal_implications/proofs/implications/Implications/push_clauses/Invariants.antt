use Rattle.std.proofs.Common.{◌≡◌, ◌++◌, take}
use Rattle.std.specs.List.{flat_map}
use Rattle.signal_implications.specs.Implied.{clauses_at}
use Rattle.signal_implications.proofs.implications.Implications.push_clauses.Given as goal

abbrev pub invariant-loop-place : goal.invariant-loop-place
invariant-loop-place l = l.clauses ≡ l.initial.clauses ++ flat_map (clauses_at l.self) (take l.place-index l.self.used)
