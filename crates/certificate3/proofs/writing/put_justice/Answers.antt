use Rattle.std.specs.Prelude.{codes}
use Rattle.certificate3.specs.Writing.{two_line}
use Rattle.certificate3.proofs.PutLaws.{first_stops, two_puts, justice_parts}
use Rattle.certificate3.proofs.writing.put_justice.Goals as goal

pub returns-in_err-put_all-clause-puts : goal.returns-in_err-put_all-clause-puts
returns-in_err-put_all-clause-puts g c =
    first_stops c.from_residual.result (g.W.Sink.contents c.args.out.now) (g.W.Sink.contents c.put_all.new.out) (codes "j") (two_line c.args.position c.args.rounds) _ (justice_parts c.args.position c.args.rounds) c.from_residual.ensures.0 (c.in_err-put_all.ensures.beginning)

pub returns-clause-puts : goal.returns-clause-puts
returns-clause-puts g c =
    two_puts c.put_two.result (g.W.Sink.contents c.args.out.now) (g.W.Sink.contents c.put_all.new.out) (g.W.Sink.contents c.put_two.new.out) (codes "j") (two_line c.args.position c.args.rounds) _ (justice_parts c.args.position c.args.rounds) (c.in_ok-put_all.ensures.whole) (rw (c.from.ensures, c.from-2.ensures) at c.put_two.ensures.puts)
