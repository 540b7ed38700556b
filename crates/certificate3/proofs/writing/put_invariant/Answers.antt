use Rattle.std.proofs.Common.{length, refl}
use Rattle.std.specs.Prelude.{flat_map}
use Rattle.certificate.specs.Texts.{clause_line, number_line}
use Rattle.certificate3.proofs.PutLaws.{first_stops, two_puts}
use Rattle.certificate3.proofs.writing.put_invariant.Goals as goal

pub returns-in_err-put_number-clause-puts : goal.returns-in_err-put_number-clause-puts
returns-in_err-put_number-clause-puts g c =
    first_stops c.from_residual.result (g.W.Sink.contents c.args.out.now) (g.W.Sink.contents c.put_number.new.out) (number_line (length c.args.invariant.now)) (flat_map clause_line c.args.invariant.now) _ (refl) c.from_residual.ensures.0 (rw c.len.ensures at c.in_err-put_number.ensures.puts)

pub returns-clause-puts : goal.returns-clause-puts
returns-clause-puts g c =
    two_puts c.put_clauses.result (g.W.Sink.contents c.args.out.now) (g.W.Sink.contents c.put_number.new.out) (g.W.Sink.contents c.put_clauses.new.out) (number_line (length c.args.invariant.now)) (flat_map clause_line c.args.invariant.now) _ (refl) (rw c.len.ensures at c.in_ok-put_number.ensures.puts) (c.put_clauses.ensures.puts)
