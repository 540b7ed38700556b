use Rattle.std.proofs.Common.{◌≡◌, ◌+◌, ◌++◌, drop}
use Rattle.live_safe.specs.Shadow.{chain_gates, chain_end}
use Rattle.live_safe.proofs.gates.push_chain.Given as goal

abbrev pub invariant-loop-k : goal.invariant-loop-k
invariant-loop-k l = record {
  gates : l.gates.items ++ chain_gates (drop l.k l.rest) l.so_far (l.v + l.k) ≡ l.initial.gates.items ++ chain_gates l.rest l.fn.first l.v;
  end : chain_end (drop l.k l.rest) l.so_far (l.v + l.k) ≡ chain_end l.rest l.fn.first l.v;
}
