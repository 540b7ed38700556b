use Rattle.wave_signals.specs.OpenValues.{open_value_of}
use Rattle.wave_signals.proofs.OpenReplayLaws.{OpenTaken}
use Rattle.wave_signals.proofs.open_replay.take_over.Given as goal

abbrev pub invariant-loop-i : goal.invariant-loop-i
invariant-loop-i l = OpenTaken (λ x. open_value_of l.values x.next) l.latches l.state l.i
