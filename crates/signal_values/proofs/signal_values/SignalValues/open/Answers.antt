use Rattle.std.proofs.Common.{◌≢◌, ◌≡◌, ◌∙◌, length, sym, subst}
use Rattle.graph.specs.WellFormed.{IsWellFormed}
use Rattle.stimulus.specs.declared.sim_error.SimError.TheVariants.{Device}
use Rattle.stimulus.proofs.CourseLaws.{course_length, course_of}
use Rattle.stimulus.proofs.RowLaws.{err_at}
use Rattle.wave_signals.specs.OpenRows.{HasOpenCause}
use Rattle.wave_signals.proofs.BitLaws.{shown_in_range}
use Rattle.wave_signals.proofs.ColumnLaws.{rows_complete}
use Rattle.wave_signals.proofs.OpenReplayLaws.{complete_length}
use Rattle.signal_values.proofs.signal_values.SignalValues.open.Goals as goal

pub returns-in_err-check_open-clause-refused : goal.returns-in_err-check_open-clause-refused
returns-in_err-check_open-clause-refused c =
    let refused = c.in_err-check_open.ensures.refused in
    err_at c.from_residual.result c.in_err-check_open.field-0.0 (λ x. (x ≢ Device) × HasOpenCause c.args.file.now.model c.args.initial.now c.args.inputs.now x) c.from_residual.ensures.1
    (refused.0, rw (c.model-model.ensures) at refused.1)

pub open_rows-requires-clause-initial : goal.open_rows-requires-clause-initial
open_rows-requires-clause-initial c = c.in_ok-check_open.ensures.playable.rows.latches

pub open_rows-requires-clause-lines_fit : goal.open_rows-requires-clause-lines_fit
open_rows-requires-clause-lines_fit c = c.in_ok-check_open.ensures.playable.rows.inputs_fit

pub open_rows-requires-clause-in_range : goal.open_rows-requires-clause-in_range
open_rows-requires-clause-in_range c =
    let f = c.args.file.now in
    let well : IsWellFormed f.model = subst IsWellFormed c.model-model.ensures c.well_formed-2.ensures in
    rw (c.deref-2.ensures.value, c.model-model.ensures) (shown_in_range f c.args.all c.in_ok-bits.bits.items well c.in_ok-bits.ensures)

pub returns-clause-values : goal.returns-clause-values
returns-clause-values c =
    let m = c.args.file.now.model in
    let inputs = c.args.inputs.now in
    let bits = c.in_ok-bits.bits.items in
    let values = c.in_ok-values.values.items in
    let stand = rw (c.deref-2.ensures.value, c.model-model.ensures) at c.in_ok-values.ensures.stand in
    record {
      playable = rw (c.model-model.ensures) at c.in_ok-check_open.ensures.playable;
      are_shown = c.in_ok-bits.ensures;
      are_signals = rw (c.deref.ensures.value) at c.in_ok-signals.ensures;
      long = rw (c.deref-2.ensures.value) at c.in_ok-values.ensures.long;
      known = λ st lines r starts first all replays.
          let wide : length r ≡ length inputs = course_length m st lines r (course_of m st lines r replays) ∙ sym (complete_length inputs lines all) in
          rows_complete bits (length inputs) values r wide (stand st lines r starts first all replays);
    }
