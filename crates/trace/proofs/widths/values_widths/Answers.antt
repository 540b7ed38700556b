use Rattle.std.proofs.Common.{◌≡◌, ◌<◌, ◌∙◌, ◌++◌, ◌∷◌, ℕ, [], List, Bool, Option, length, map, take, get_or, sym, ap, arith}
use Rattle.std.proofs.lemmas.List.{map_more, take_all}
use Rattle.wave_signals.specs.Columns.{rows_of}
use Rattle.trace.specs.Traces.{values_width}
use Rattle.wave_signals.proofs.ColumnLaws.{row_fits, row_front, row_later, rows_long}
use Rattle.trace.proofs.widths.values_widths.Goals as goal

pub split_at-requires : goal.split_at-requires
split_at-requires c =
    row_fits (length c.args.bits.now) c.args.times c.loop-time._time c.args.values.now c.loop-time.rest.now (omega arith) c.requires.values c.loop-time.invariant.left

pub loop-time-preserved : goal.loop-time-preserved
loop-time-preserved c =
    let width = length c.args.bits.now in
    let signals = c.args.signals.now in
    let values = c.args.values.now in
    let n = c.loop-time._time in
    let rest = c.loop-time.rest.now in
    let rows = rows_of width c.args.times values in
    let f = values_width signals in
    let n_in : n < c.args.times = omega arith in
    let n_row : n < length rows = omega (arith, n_in, rows_long width c.args.times values) in
    let row = c.split_at.ensures.front ∙ row_front width c.args.times n values rest n_in c.loop-time.invariant.left in
    let wide : c.row_width.result ≡ values_width signals (get_or rows n []) = c.row_width.ensures ∙ ap (λ (xs : List (Option Bool)). values_width signals xs) row in
    record {
      left = c.split_at.ensures.back ∙ row_later width n values rest c.loop-time.invariant.left;
      widths = c.in_ok-push.ensures.items ∙ ap (λ (xs : List ℕ). xs ++ c.row_width.result ∷ []) c.loop-time.invariant.widths ∙ ap (λ (k : ℕ). map f (take n rows) ++ k ∷ []) wide ∙ sym (map_more f rows n [] n_row);
    }

pub returns : goal.returns
returns c =
    let width = length c.args.bits.now in
    let values = c.args.values.now in
    let rows = rows_of width c.args.times values in
    c.loop-time.invariant.widths ∙ ap (map (values_width c.args.signals.now)) (take_all c.loop-time._time rows (omega (arith, rows_long width c.args.times values)))
