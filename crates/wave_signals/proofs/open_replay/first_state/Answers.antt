use Rattle.std.proofs.Common.{arith}
use Rattle.wave_signals.proofs.OpenReplayLaws.{open_begun_stands}
use Rattle.wave_signals.proofs.open_replay.first_state.Goals as goal

pub returns-clause-stand : goal.returns-clause-stand
returns-clause-stand c = open_begun_stands c.args.latches.now c.args.given.now c.loop-k.state.items c.loop-k.k (omega arith) c.requires c.loop-k.invariant
