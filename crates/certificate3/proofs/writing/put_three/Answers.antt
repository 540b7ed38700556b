use Rattle.std.proofs.Common.{◌++◌}
use Rattle.std.specs.Prelude.{codes, decimal}
use Rattle.certificate3.proofs.PutLaws.{first_stops, second_stops, three_puts, three_parts}
use Rattle.certificate3.proofs.writing.put_three.Goals as goal

pub returns-in_err-put_number-clause-puts : goal.returns-in_err-put_number-clause-puts
returns-in_err-put_number-clause-puts g c =
    first_stops c.from_residual.result (g.W.Sink.contents c.args.out.now) (g.W.Sink.contents c.put_number.new.out) (decimal c.args.a ++ codes " ") ((decimal c.args.b ++ codes " ") ++ (decimal c.args.c ++ codes "\n")) _ (three_parts c.args.a c.args.b c.args.c) c.from_residual.ensures.0 (c.in_err-put_number.ensures.puts)

pub returns-in_err-put_number-2-clause-puts : goal.returns-in_err-put_number-2-clause-puts
returns-in_err-put_number-2-clause-puts g c =
    second_stops c.from_residual-in_err-put_number-2.result (g.W.Sink.contents c.args.out.now) (g.W.Sink.contents c.put_number.new.out) (g.W.Sink.contents c.put_number-2.new.out) (decimal c.args.a ++ codes " ") (decimal c.args.b ++ codes " ") (decimal c.args.c ++ codes "\n") _ (three_parts c.args.a c.args.b c.args.c) (c.in_ok-put_number.ensures.puts) c.from_residual-in_err-put_number-2.ensures.0 (c.in_err-put_number-2.ensures.puts)

pub returns-clause-puts : goal.returns-clause-puts
returns-clause-puts g c =
    three_puts c.put_number-3.result (g.W.Sink.contents c.args.out.now) (g.W.Sink.contents c.put_number.new.out) (g.W.Sink.contents c.put_number-2.new.out) (g.W.Sink.contents c.put_number-3.new.out) (decimal c.args.a ++ codes " ") (decimal c.args.b ++ codes " ") (decimal c.args.c ++ codes "\n") _ (three_parts c.args.a c.args.b c.args.c) (c.in_ok-put_number.ensures.puts) (c.in_ok-put_number-2.ensures.puts) (c.put_number-3.ensures.puts)
