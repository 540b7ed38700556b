use Rattle.std.proofs.Common.{◌≡◌}
use Rattle.signal_rounds.proofs.parts.Parts.walk.Given as goal

abbrev pub invariant-walking : goal.invariant-walking
invariant-walking l = l.self ≡ l.initial.self
