use Rattle.std.proofs.Common.{◌≡◌, ◌≤◌, ◌-◌, ◌++◌, take, drop}
use Rattle.wave_texts.specs.Scopes.{opened, opened_from}
use Rattle.wave_texts.proofs.scopes.push_opened.Given as goal

abbrev pub invariant-loop-k : goal.invariant-loop-k
invariant-loop-k l = record {
  within : l.first ≤ l.k;
  left : l.text.items ++ opened_from (take (l.k - l.first) (drop l.first l.path)) (drop l.k l.path) ≡ l.initial.text.items ++ opened l.path;
}
