use Rattle.stimulus.proofs.RowLaws.{err_then, ok_then, on_err, table_cut_behind, table_cut_in_rows, table_cut_in_time, table_whole}
use Rattle.stimulus.proofs.table.put_replay.Goals as goal

pub returns-in_err-put_rows-clause-beginning : goal.returns-in_err-put_rows-clause-beginning
returns-in_err-put_rows-clause-beginning g c =
    on_err c.from_residual.result
    (table_cut_in_rows c.args.circuit.now c.args.replay.now.state c.args.lines.now (g.W.Sink.contents c.args.out.now) (g.W.Sink.contents c.put_rows.new.out) c.in_err-put_rows.ensures.beginning)

pub returns-in_err-put_time-clause-beginning : goal.returns-in_err-put_time-clause-beginning
returns-in_err-put_time-clause-beginning g c =
    on_err c.from_residual-in_err-put_time.result
    (table_cut_in_time c.args.circuit.now c.args.replay.now.state c.args.lines.now c.put_rows.new.replay (g.W.Sink.contents c.args.out.now) (g.W.Sink.contents c.put_rows.new.out) (g.W.Sink.contents c.put_time.new.out) c.requires.some
    c.in_ok-put_rows.ensures.rows (rw c.state.ensures at c.in_err-put_time.ensures.puts))

pub returns-clause-table : goal.returns-clause-table
returns-clause-table g c =
    ok_then c.put_all.result c.put_all.ensures.whole
    (table_whole c.args.circuit.now c.args.replay.now.state c.args.lines.now c.put_rows.new.replay (g.W.Sink.contents c.args.out.now) (g.W.Sink.contents c.put_rows.new.out) (g.W.Sink.contents c.put_time.new.out)
    (g.W.Sink.contents c.put_all.new.out) c.requires.some c.in_ok-put_rows.ensures.rows (rw c.state.ensures at c.in_ok-put_time.ensures.puts))

pub returns-clause-beginning : goal.returns-clause-beginning
returns-clause-beginning g c =
    err_then c.put_all.result c.put_all.ensures.beginning
    (table_cut_behind c.args.circuit.now c.args.replay.now.state c.args.lines.now c.put_rows.new.replay (g.W.Sink.contents c.args.out.now) (g.W.Sink.contents c.put_rows.new.out) (g.W.Sink.contents c.put_time.new.out)
    (g.W.Sink.contents c.put_all.new.out) c.requires.some c.in_ok-put_rows.ensures.rows (rw c.state.ensures at c.in_ok-put_time.ensures.puts))
