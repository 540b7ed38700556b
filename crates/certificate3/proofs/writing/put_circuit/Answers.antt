use Rattle.std.proofs.Common.{◌++◌, length, refl}
use Rattle.std.specs.Prelude.{flat_map}
use Rattle.certificate3.specs.Texts.{gate_line, latch_line}
use Rattle.certificate3.specs.Writing.{two_line}
use Rattle.certificate3.proofs.PutLaws.{first_stops, second_stops, three_puts}
use Rattle.certificate3.proofs.writing.put_circuit.Goals as goal

pub returns-in_err-put_two-clause-puts : goal.returns-in_err-put_two-clause-puts
returns-in_err-put_two-clause-puts g c =
    first_stops c.from_residual.result (g.W.Sink.contents c.args.out.now) (g.W.Sink.contents c.put_two.new.out) (two_line (length c.args.latches.now) (length c.args.gates.now)) ((flat_map latch_line c.args.latches.now) ++ (flat_map gate_line c.args.gates.now)) _ (refl) c.from_residual.ensures.0 (c.in_err-put_two.ensures.puts)

pub returns-in_err-put_latches-clause-puts : goal.returns-in_err-put_latches-clause-puts
returns-in_err-put_latches-clause-puts g c =
    second_stops c.from_residual-in_err-put_latches.result (g.W.Sink.contents c.args.out.now) (g.W.Sink.contents c.put_two.new.out) (g.W.Sink.contents c.put_latches.new.out) (two_line (length c.args.latches.now) (length c.args.gates.now)) (flat_map latch_line c.args.latches.now) (flat_map gate_line c.args.gates.now) _ (refl) (c.in_ok-put_two.ensures.puts) c.from_residual-in_err-put_latches.ensures.0 (c.in_err-put_latches.ensures.puts)

pub returns-clause-puts : goal.returns-clause-puts
returns-clause-puts g c =
    three_puts c.put_gates.result (g.W.Sink.contents c.args.out.now) (g.W.Sink.contents c.put_two.new.out) (g.W.Sink.contents c.put_latches.new.out) (g.W.Sink.contents c.put_gates.new.out) (two_line (length c.args.latches.now) (length c.args.gates.now)) (flat_map latch_line c.args.latches.now) (flat_map gate_line c.args.gates.now) _ (refl) (c.in_ok-put_two.ensures.puts) (c.in_ok-put_latches.ensures.puts) (c.put_gates.ensures.puts)
