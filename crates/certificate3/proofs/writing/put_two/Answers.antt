use Rattle.std.proofs.Common.{◌++◌}
use Rattle.std.specs.Prelude.{codes, decimal}
use Rattle.certificate3.proofs.PutLaws.{first_stops, two_puts, two_parts}
use Rattle.certificate3.proofs.writing.put_two.Goals as goal

pub returns-in_err-put_number-clause-puts : goal.returns-in_err-put_number-clause-puts
returns-in_err-put_number-clause-puts g c =
    first_stops c.from_residual.result (g.W.Sink.contents c.args.out.now) (g.W.Sink.contents c.put_number.new.out) (decimal c.args.a ++ codes " ") (decimal c.args.b ++ codes "\n") _ (two_parts c.args.a c.args.b) c.from_residual.ensures.0 (c.in_err-put_number.ensures.puts)

pub returns-clause-puts : goal.returns-clause-puts
returns-clause-puts g c =
    two_puts c.put_number-2.result (g.W.Sink.contents c.args.out.now) (g.W.Sink.contents c.put_number.new.out) (g.W.Sink.contents c.put_number-2.new.out) (decimal c.args.a ++ codes " ") (decimal c.args.b ++ codes "\n") _ (two_parts c.args.a c.args.b) (c.in_ok-put_number.ensures.puts) (c.put_number-2.ensures.puts)
