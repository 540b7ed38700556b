use Rattle.stimulus.proofs.PlayLaws.{breaks_at, has_run}
use Rattle.stimulus.proofs.Ranges.{constraints_in_range}
use Rattle.stimulus.proofs.playing.run.Goals as goal

pub play-requires-clause-in_range : goal.play-requires-clause-in_range
play-requires-clause-in_range c =
    let e = c.in_ok-replay.ensures.begun.0 in
    rw e (constraints_in_range c.args.circuit.now c.parts-parts.ensures.well_formed)

pub returns-in-None-clause-runs : goal.returns-in-None-clause-runs
returns-in-None-clause-runs c =
    let e = c.in_ok-replay.ensures.begun.0 in
    has_run c.args.circuit.now c.args.initial.now c.args.inputs.now c.play.new.replay c.requires.some c.in_ok-replay.ensures.begun.1 (rw e at c.in-None.ensures)

pub returns-clause-refused : goal.returns-clause-refused
returns-clause-refused c =
    let e = c.in_ok-replay.ensures.begun.0 in
    (c.in_ok-replay.ensures.begun.1, breaks_at c.args.circuit.now c.args.initial.now c.args.inputs.now c.play.new.replay c.in-Some.time (rw e at c.in-Some.ensures))
