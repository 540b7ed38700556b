use Rattle.std.proofs.Common.{◌≡◌, drop}
use Rattle.wave_texts.specs.Scopes.{path_length}
use Rattle.wave_texts.proofs.scopes.path_length.Given as goal

abbrev pub invariant-loop-k : goal.invariant-loop-k
invariant-loop-k l = path_length (drop l.k l.name) ≡ 0
