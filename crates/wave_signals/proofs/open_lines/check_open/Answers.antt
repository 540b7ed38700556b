use Rattle.std.proofs.Common.{◌≢◌}
use Rattle.stimulus.specs.declared.sim_error.SimError.TheVariants.{Device}
use Rattle.stimulus.proofs.RowLaws.{err_at}
use Rattle.wave_signals.specs.OpenRows.{HasOpenCause}
use Rattle.wave_signals.proofs.open_lines.check_open.Goals as goal

pub returns-in_err-check_rows-clause-refused : goal.returns-in_err-check_rows-clause-refused
returns-in_err-check_rows-clause-refused c =
    let refused = c.in_err-check_rows.ensures.refused in
    err_at c.from_residual.result c.in_err-check_rows.field-0.0 (λ x. (x ≢ Device) × HasOpenCause c.args.circuit.now c.args.initial.now c.args.inputs.now x) c.from_residual.ensures.1
    (refused.0, rw (c.parts-parts.ensures.parts) at refused.1)
