use Rattle.std.proofs.Common.{◌≡◌, ◌+◌, length}
use Rattle.wave_signals.proofs.OpenReplayLaws.{OpenPlayed}
use Rattle.wave_signals.proofs.open_replay.play_lines.Given as goal

abbrev pub invariant-loop-line : goal.invariant-loop-line
invariant-loop-line l = record {
  played : OpenPlayed l.circuit l.bits l.initial.state l.lines l.line-index l.state l.rows.items;
  places : length l.values ≡ l.circuit.max_var + 1;
}
