use Rattle.std.proofs.Common.{◌≡◌, ◌<◌, [], length, get_or, sym, ◌∙◌, arith}
use Rattle.std.proofs.lemmas.List.{get_or_default}
use Rattle.stimulus.proofs.RowLaws.{on_err, rows_cut, rows_more}
use Rattle.stimulus.proofs.table.put_rows.Goals as goal

pub returns-in_err-put_row-clause-beginning : goal.returns-in_err-put_row-clause-beginning
returns-in_err-put_row-clause-beginning g c =
    let t_in : c.loop-t.t < length c.args.lines.now = omega arith in
    let is_line : get_or c.args.lines.now c.loop-t.t [] ≡ c.as_slice.result.now = get_or_default c.args.lines.now c.loop-t.t [] c.index-lines-t.result t_in ∙ sym c.index-lines-t.is ∙ sym c.as_slice.ensures in
    on_err c.from_residual.result
    (rows_cut c.args.circuit.now c.args.replay.now.state c.as_slice.result.now c.args.lines.now c.loop-t.t c.loop-t.replay (g.W.Sink.contents c.args.out.now) (g.W.Sink.contents c.loop-t.out) (g.W.Sink.contents c.put_row.new.out)
    t_in is_line c.loop-t.invariant.rows c.in_err-put_row.ensures.beginning)

pub loop-t-preserved : goal.loop-t-preserved
loop-t-preserved g c =
    let t_in : c.loop-t.t < length c.args.lines.now = omega arith in
    let is_line : get_or c.args.lines.now c.loop-t.t [] ≡ c.as_slice.result.now = get_or_default c.args.lines.now c.loop-t.t [] c.index-lines-t.result t_in ∙ sym c.index-lines-t.is ∙ sym c.as_slice.ensures in
    record {
      steady = c.in_ok-put_row.ensures.counts ∙ c.loop-t.invariant.steady;
      rows = rows_more c.args.circuit.now c.args.replay.now.state c.as_slice.result.now c.args.lines.now c.loop-t.t c.loop-t.replay c.put_row.new.replay (g.W.Sink.contents c.args.out.now) (g.W.Sink.contents c.loop-t.out)
          (g.W.Sink.contents c.put_row.new.out) t_in is_line c.loop-t.invariant.rows c.in_ok-put_row.ensures.row;
    }
