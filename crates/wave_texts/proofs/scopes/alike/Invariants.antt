use Rattle.std.proofs.Common.{◌≡◌, ◌+◌, drop}
use Rattle.wave_texts.specs.Scopes.{alike}
use Rattle.wave_texts.proofs.scopes.alike.Given as goal

abbrev pub invariant-loop-k : goal.invariant-loop-k
invariant-loop-k l = l.k + alike (drop l.k l.before) (drop l.k l.path) ≡ alike l.before l.path
