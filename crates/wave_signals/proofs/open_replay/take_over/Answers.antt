use Rattle.std.proofs.Common.{arith}
use Rattle.wave_signals.specs.OpenValues.{open_value_of}
use Rattle.wave_signals.proofs.OpenReplayLaws.{open_taken_all}
use Rattle.wave_signals.proofs.open_replay.take_over.Goals as goal

pub returns : goal.returns
returns c = open_taken_all (λ x. open_value_of c.args.values.now x.next) c.args.latches.now c.loop-i.state c.loop-i.i
    (record { lit = record { 0 = 0 }; next = record { 0 = 0 }; reset = record { 0 = 0 } }) (omega arith) c.loop-i.invariant
