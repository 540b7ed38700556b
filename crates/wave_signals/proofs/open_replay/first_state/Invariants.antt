use Rattle.wave_signals.proofs.OpenReplayLaws.{OpenBegun}
use Rattle.wave_signals.proofs.open_replay.first_state.Given as goal

abbrev pub invariant-loop-k : goal.invariant-loop-k
invariant-loop-k l = OpenBegun l.latches l.given l.state.items l.k
