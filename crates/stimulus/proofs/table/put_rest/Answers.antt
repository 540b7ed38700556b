use Rattle.std.proofs.Common.{Bool, List, ◌++◌, map, subst, sym}
use Rattle.std.specs.Prelude.{codes}
use Rattle.std.specs.Io.KnownBytes.{Appends}
use Rattle.base.specs.Devices.{PutsBeginning}
use Rattle.base.proofs.Putting.{puts_of, puts_then}
use Rattle.graph.specs.Circuits.{inputs_of, value_of}
use Rattle.stimulus.specs.Tables.{field_text}
use Rattle.stimulus.proofs.WriteLaws.{first_fails}
use Rattle.stimulus.proofs.table.put_rest.Goals as goal

pub returns-in_err-put_field-clause-puts : goal.returns-in_err-put_field-clause-puts
returns-in_err-put_field-clause-puts g c = λ w is_w is_line.
    let m = c.args.parts.now in
    let r = c.from_residual in
    let before = g.W.Sink.contents c.args.out.now in
    let after = g.W.Sink.contents c.put_field.new.out in
    first_fails r.result before after (field_text (inputs_of m w)) (field_text (map (value_of w) m.outputs) ++ (field_text (map (value_of w) m.bad) ++ codes "\n")) r.ensures.0
    (subst (λ (l : List Bool). PutsBeginning before after (field_text l)) (sym is_line) c.in_err-put_field.ensures.puts)

pub returns-in_err-put_literal_field-clause-puts : goal.returns-in_err-put_literal_field-clause-puts
returns-in_err-put_literal_field-clause-puts g c = λ w is_w is_line.
    let m = c.args.parts.now in
    let r = c.from_residual-in_err-put_literal_field in
    let before = g.W.Sink.contents c.args.out.now in
    let one = g.W.Sink.contents c.put_field.new.out in
    let after = g.W.Sink.contents c.put_literal_field.new.out in
    let first = subst (λ (l : List Bool). Appends before one (field_text l)) (sym is_line) c.in_ok-put_field.ensures.puts in
    puts_then r.result before one after (field_text (inputs_of m w)) (field_text (map (value_of w) m.outputs) ++ (field_text (map (value_of w) m.bad) ++ codes "\n")) first
    (first_fails r.result one after (field_text (map (value_of w) m.outputs)) (field_text (map (value_of w) m.bad) ++ codes "\n") r.ensures.0 (rw c.as_slice.ensures at (c.in_err-put_literal_field.ensures.puts w is_w)))

pub returns-in_err-put_literal_field-2-clause-puts : goal.returns-in_err-put_literal_field-2-clause-puts
returns-in_err-put_literal_field-2-clause-puts g c = λ w is_w is_line.
    let m = c.args.parts.now in
    let r = c.from_residual-in_err-put_literal_field-2 in
    let before = g.W.Sink.contents c.args.out.now in
    let one = g.W.Sink.contents c.put_field.new.out in
    let two = g.W.Sink.contents c.put_literal_field.new.out in
    let after = g.W.Sink.contents c.put_literal_field-2.new.out in
    let first = subst (λ (l : List Bool). Appends before one (field_text l)) (sym is_line) c.in_ok-put_field.ensures.puts in
    puts_then r.result before one after (field_text (inputs_of m w)) (field_text (map (value_of w) m.outputs) ++ (field_text (map (value_of w) m.bad) ++ codes "\n")) first
    (puts_then r.result one two after (field_text (map (value_of w) m.outputs)) (field_text (map (value_of w) m.bad) ++ codes "\n") (rw c.as_slice.ensures at (c.in_ok-put_literal_field.ensures.puts w is_w))
    (first_fails r.result two after (field_text (map (value_of w) m.bad)) (codes "\n") r.ensures.0 (rw c.as_slice-2.ensures at (c.in_err-put_literal_field-2.ensures.puts w is_w))))

pub returns-clause-puts : goal.returns-clause-puts
returns-clause-puts g c = λ w is_w is_line.
    let m = c.args.parts.now in
    let r = c.put_all in
    let before = g.W.Sink.contents c.args.out.now in
    let one = g.W.Sink.contents c.put_field.new.out in
    let two = g.W.Sink.contents c.put_literal_field.new.out in
    let three = g.W.Sink.contents c.put_literal_field-2.new.out in
    let after = g.W.Sink.contents c.put_all.new.out in
    let first = subst (λ (l : List Bool). Appends before one (field_text l)) (sym is_line) c.in_ok-put_field.ensures.puts in
    puts_then r.result before one after (field_text (inputs_of m w)) (field_text (map (value_of w) m.outputs) ++ (field_text (map (value_of w) m.bad) ++ codes "\n")) first
    (puts_then r.result one two after (field_text (map (value_of w) m.outputs)) (field_text (map (value_of w) m.bad) ++ codes "\n") (rw c.as_slice.ensures at (c.in_ok-put_literal_field.ensures.puts w is_w))
    (puts_then r.result two three after (field_text (map (value_of w) m.bad)) (codes "\n") (rw c.as_slice-2.ensures at (c.in_ok-put_literal_field-2.ensures.puts w is_w))
    (puts_of r.result three after (codes "\n") r.ensures.whole r.ensures.beginning)))
