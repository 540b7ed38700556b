use Rattle.stimulus.proofs.Watching.{bad_watched, output_watched, watched_in_range}
use Rattle.witness.proofs.cutting.times_in_run.Goals as goal

pub times_to_bad-requires-clause-in_range : goal.times_to_bad-requires-clause-in_range
times_to_bad-requires-clause-in_range c =
    watched_in_range c.args.circuit.now c.args.property _ c.well_formed-2.ensures
    (bad_watched c.args.circuit.now c.args.property c.in-Bad.n c.bad.result.now (record { 0 = 0 }) c.in-Bad.is c.bad.ensures c.requires.there)

pub times_to_bad-requires-in-Output-clause-in_range : goal.times_to_bad-requires-in-Output-clause-in_range
times_to_bad-requires-in-Output-clause-in_range c =
    watched_in_range c.args.circuit.now c.args.property _ c.well_formed-2.ensures
    (output_watched c.args.circuit.now c.args.property c.in-Output.n c.outputs.result.now (record { 0 = 0 }) c.in-Output.is c.outputs.ensures c.requires.there)

pub returns-in-Bad-clause-first : goal.returns-in-Bad-clause-first
returns-in-Bad-clause-first c = c.times_to_bad.ensures.first c.args.property
    (bad_watched c.args.circuit.now c.args.property c.in-Bad.n c.bad.result.now (record { 0 = 0 }) c.in-Bad.is c.bad.ensures c.requires.there)

pub returns-in-Justice-clause-first : goal.returns-in-Justice-clause-first
returns-in-Justice-clause-first c = rw c.in-Justice.is c.first_lasso.ensures.first

pub returns-in-Output-clause-first : goal.returns-in-Output-clause-first
returns-in-Output-clause-first c = c.times_to_bad-in-Output.ensures.first c.args.property
    (output_watched c.args.circuit.now c.args.property c.in-Output.n c.outputs.result.now (record { 0 = 0 }) c.in-Output.is c.outputs.ensures c.requires.there)
