use Rattle.std.proofs.Common.{◌++◌, length}
use Rattle.std.specs.Prelude.{codes, decimal, flat_map}
use Rattle.std.proofs.lemmas.List.{append-nil}
use Rattle.lrat.proofs.PutLaws.{puts_of}
use Rattle.certificate3.specs.Writing.{id_text}
use Rattle.certificate3.proofs.PutLaws.{first_stops, second_stops, three_puts, hints_parts}
use Rattle.certificate3.proofs.writing.put_hints_line.Goals as goal

pub returns-in_err-put_number-clause-puts : goal.returns-in_err-put_number-clause-puts
returns-in_err-put_number-clause-puts g c =
    first_stops c.from_residual.result (g.W.Sink.contents c.args.out.now) (g.W.Sink.contents c.put_number.new.out) (decimal (length c.args.ids.now)) ((flat_map id_text c.args.ids.now) ++ (codes "\n")) _ (hints_parts c.args.ids.now) c.from_residual.ensures.0 (rw (append-nil (decimal (length c.args.ids.now))) at c.in_err-put_number.ensures.puts)

pub returns-in_err-put_ids-clause-puts : goal.returns-in_err-put_ids-clause-puts
returns-in_err-put_ids-clause-puts g c =
    second_stops c.from_residual-in_err-put_ids.result (g.W.Sink.contents c.args.out.now) (g.W.Sink.contents c.put_number.new.out) (g.W.Sink.contents c.put_ids.new.out) (decimal (length c.args.ids.now)) (flat_map id_text c.args.ids.now) (codes "\n") _ (hints_parts c.args.ids.now) (rw (append-nil (decimal (length c.args.ids.now))) at c.in_ok-put_number.ensures.puts) c.from_residual-in_err-put_ids.ensures.0 (c.in_err-put_ids.ensures.puts)

pub returns-clause-puts : goal.returns-clause-puts
returns-clause-puts g c =
    three_puts c.put_all.result (g.W.Sink.contents c.args.out.now) (g.W.Sink.contents c.put_number.new.out) (g.W.Sink.contents c.put_ids.new.out) (g.W.Sink.contents c.put_all.new.out) (decimal (length c.args.ids.now)) (flat_map id_text c.args.ids.now) (codes "\n") _ (hints_parts c.args.ids.now) (rw (append-nil (decimal (length c.args.ids.now))) at c.in_ok-put_number.ensures.puts) (c.in_ok-put_ids.ensures.puts) (puts_of c.put_all.result (g.W.Sink.contents c.put_ids.new.out) (g.W.Sink.contents c.put_all.new.out) (codes "\n") c.put_all.ensures.whole c.put_all.ensures.beginning)
