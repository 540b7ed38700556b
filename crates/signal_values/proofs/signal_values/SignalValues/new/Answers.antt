use Rattle.std.proofs.Common.{◌≢◌, ℕ, List, Option, subst}
use Rattle.graph.specs.WellFormed.{IsWellFormed}
use Rattle.stimulus.specs.declared.sim_error.SimError.TheVariants.{Device}
use Rattle.stimulus.specs.Tables.{HasSimCauseIn}
use Rattle.stimulus.proofs.RowLaws.{err_at}
use Rattle.wave_signals.proofs.BitLaws.{shown_in_range}
use Rattle.signal_values.proofs.signal_values.SignalValues.new.Goals as goal

pub returns-in_err-check_playable-clause-refused : goal.returns-in_err-check_playable-clause-refused
returns-in_err-check_playable-clause-refused c =
    let refused = c.in_err-check_playable.ensures.refused in
    let e = c.in_err-check_playable.field-0.0 in
    err_at c.from_residual.result e (λ x. (x ≢ Device) × ((before after : Option (List ℕ)) → HasSimCauseIn c.args.file.now.model c.args.initial.now c.args.inputs.now before after x)) c.from_residual.ensures.1
    (refused.0, λ before after. rw (c.parts.ensures.parts, c.model-model.ensures) at (refused.1 before after))

pub replayed-requires-clause-in_range : goal.replayed-requires-clause-in_range
replayed-requires-clause-in_range c =
    let f = c.args.file.now in
    let well : IsWellFormed f.model = subst IsWellFormed c.model-model.ensures c.parts.ensures.well_formed in
    rw (c.deref-2.ensures.value, c.model-model.ensures) (shown_in_range f c.args.all c.in_ok-bits.bits.items well c.in_ok-bits.ensures)

pub returns-in_err-values-clause-refused : goal.returns-in_err-values-clause-refused
returns-in_err-values-clause-refused c =
    let refused = c.in_err-values.ensures.refused in
    let r = c.from_residual-in_err-values in
    err_at r.result c.in_err-values.field-0.0 (λ x. (x ≢ Device) × ((before after : Option (List ℕ)) → HasSimCauseIn c.args.file.now.model c.args.initial.now c.args.inputs.now before after x)) r.ensures.1
    (refused.0, λ before after. rw c.model-model.ensures at (refused.1 before after))
