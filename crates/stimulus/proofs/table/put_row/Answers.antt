use Rattle.stimulus.proofs.Ranges.{bad_in_range, outputs_in_range}
use Rattle.stimulus.proofs.RowLaws.{row_begun, row_put}
use Rattle.stimulus.proofs.table.put_row.Goals as goal

pub put_rest-requires-clause-outputs : goal.put_rest-requires-clause-outputs
put_rest-requires-clause-outputs g c = rw (c.parts.ensures.parts, c.step.ensures.circuit, c.requires.circuit) (outputs_in_range c.args.circuit.now c.parts.ensures.well_formed)

pub put_rest-requires-clause-bad : goal.put_rest-requires-clause-bad
put_rest-requires-clause-bad g c = rw (c.parts.ensures.parts, c.step.ensures.circuit, c.requires.circuit) (bad_in_range c.args.circuit.now c.parts.ensures.well_formed)

pub returns-clause-row : goal.returns-clause-row
returns-clause-row g c =
    let m = c.args.circuit.now in
    row_put m c.args.replay.now c.step.new.self c.args.line.now c.args.time c.put_rest.result (g.W.Sink.contents c.args.out.now) (g.W.Sink.contents c.put_time.new.out) (g.W.Sink.contents c.put_rest.new.out) c.requires.circuit
    c.step.ensures (rw c.state.ensures at c.in_ok-put_time.ensures.puts)
    (λ w is_w is_line. rw c.parts.ensures.parts at (c.put_rest.ensures.puts w is_w (rw c.parts.ensures.parts is_line)))

pub returns-clause-beginning : goal.returns-clause-beginning
returns-clause-beginning g c =
    let m = c.args.circuit.now in
    row_begun m c.args.replay.now c.step.new.self c.args.line.now c.args.time c.put_rest.result (g.W.Sink.contents c.args.out.now) (g.W.Sink.contents c.put_time.new.out) (g.W.Sink.contents c.put_rest.new.out) c.requires.circuit
    c.step.ensures (rw c.state.ensures at c.in_ok-put_time.ensures.puts)
    (λ w is_w is_line. rw c.parts.ensures.parts at (c.put_rest.ensures.puts w is_w (rw c.parts.ensures.parts is_line)))
