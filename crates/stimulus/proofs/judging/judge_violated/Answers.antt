use Rattle.std.proofs.Common.{subst}
use Rattle.graph.specs.declared.parts.Parts.{Parts}
use Rattle.graph.specs.Circuits.{HasProperty}
use Rattle.stimulus.proofs.Watching.{watched_in_range, bad_watched, output_watched}
use Rattle.stimulus.proofs.judging.judge_violated.Goals as goal

pub judge_bad-requires-clause-in_range : goal.judge_bad-requires-clause-in_range
judge_bad-requires-clause-in_range c =
    let there : HasProperty c.args.circuit.now c.args.property = subst (λ (m : Parts). HasProperty m c.args.property) c.parts.ensures.parts c.in_ok-check_fit.ensures.fit.property in
    watched_in_range c.args.circuit.now c.args.property _ c.parts.ensures.well_formed
    (bad_watched c.args.circuit.now c.args.property c.in-Bad.n c.bad.result.now (record { 0 = 0 }) c.in-Bad.is c.bad.ensures there)

pub returns-in-Bad-clause-shown : goal.returns-in-Bad-clause-shown
returns-in-Bad-clause-shown c =
    let there : HasProperty c.args.circuit.now c.args.property = subst (λ (m : Parts). HasProperty m c.args.property) c.parts.ensures.parts c.in_ok-check_fit.ensures.fit.property in
    c.judge_bad.ensures.shown c.args.property (bad_watched c.args.circuit.now c.args.property c.in-Bad.n c.bad.result.now (record { 0 = 0 }) c.in-Bad.is c.bad.ensures there)

pub returns-in-Bad-clause-refused : goal.returns-in-Bad-clause-refused
returns-in-Bad-clause-refused c =
    let there : HasProperty c.args.circuit.now c.args.property = subst (λ (m : Parts). HasProperty m c.args.property) c.parts.ensures.parts c.in_ok-check_fit.ensures.fit.property in
    c.judge_bad.ensures.refused c.args.property (bad_watched c.args.circuit.now c.args.property c.in-Bad.n c.bad.result.now (record { 0 = 0 }) c.in-Bad.is c.bad.ensures there)

pub judge_bad-requires-in-Output-clause-in_range : goal.judge_bad-requires-in-Output-clause-in_range
judge_bad-requires-in-Output-clause-in_range c =
    let there : HasProperty c.args.circuit.now c.args.property = subst (λ (m : Parts). HasProperty m c.args.property) c.parts.ensures.parts c.in_ok-check_fit.ensures.fit.property in
    watched_in_range c.args.circuit.now c.args.property _ c.parts.ensures.well_formed
    (output_watched c.args.circuit.now c.args.property c.in-Output.n c.outputs.result.now (record { 0 = 0 }) c.in-Output.is c.outputs.ensures there)

pub returns-clause-shown : goal.returns-clause-shown
returns-clause-shown c =
    let there : HasProperty c.args.circuit.now c.args.property = subst (λ (m : Parts). HasProperty m c.args.property) c.parts.ensures.parts c.in_ok-check_fit.ensures.fit.property in
    c.judge_bad-in-Output.ensures.shown c.args.property (output_watched c.args.circuit.now c.args.property c.in-Output.n c.outputs.result.now (record { 0 = 0 }) c.in-Output.is c.outputs.ensures there)

pub returns-clause-refused : goal.returns-clause-refused
returns-clause-refused c =
    let there : HasProperty c.args.circuit.now c.args.property = subst (λ (m : Parts). HasProperty m c.args.property) c.parts.ensures.parts c.in_ok-check_fit.ensures.fit.property in
    c.judge_bad-in-Output.ensures.refused c.args.property (output_watched c.args.circuit.now c.args.property c.in-Output.n c.outputs.result.now (record { 0 = 0 }) c.in-Output.is c.outputs.ensures there)
