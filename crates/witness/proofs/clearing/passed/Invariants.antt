use Rattle.std.proofs.Common.{◌≡◌, ◌+◌, [], length, All, get_or}
use Rattle.witness.proofs.clearing.passed.Given as goal

abbrev pub invariant-loop-line : goal.invariant-loop-line
invariant-loop-line l = record {
  circuit : l.replay.circuit ≡ l.fn.replay.circuit;
  state : length l.replay.state ≡ length l.replay.circuit.latches;
  count : length l.states.items ≡ l.line-index + 1;
  fit : All (λ s. length s ≡ length l.fn.replay.circuit.latches) l.states.items;
  first : get_or l.states.items 0 [] ≡ l.fn.replay.state;
}
