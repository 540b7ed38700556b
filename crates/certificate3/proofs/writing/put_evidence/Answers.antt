use Rattle.std.proofs.Common.{◌++◌}
use Rattle.certificate3.specs.Writing.{circuit_text, evidence_in, invariant_text, proofs_text}
use Rattle.certificate3.proofs.PutLaws.{first_stops, second_stops, three_puts, evidence_parts}
use Rattle.certificate3.proofs.writing.put_evidence.Goals as goal

pub returns-in_err-put_circuit-clause-puts : goal.returns-in_err-put_circuit-clause-puts
returns-in_err-put_circuit-clause-puts g c =
    first_stops c.from_residual.result (g.W.Sink.contents c.args.out.now) (g.W.Sink.contents c.put_circuit.new.out) (circuit_text c.args.evidence.now.latches c.args.evidence.now.gates) ((invariant_text c.args.evidence.now.invariant) ++ (proofs_text (evidence_in c.args.evidence.now))) _ (evidence_parts (evidence_in c.args.evidence.now)) c.from_residual.ensures.0 (rw (c.as_slice.ensures, c.as_slice-2.ensures) at c.in_err-put_circuit.ensures.puts)

pub returns-in_err-put_invariant-clause-puts : goal.returns-in_err-put_invariant-clause-puts
returns-in_err-put_invariant-clause-puts g c =
    second_stops c.from_residual-in_err-put_invariant.result (g.W.Sink.contents c.args.out.now) (g.W.Sink.contents c.put_circuit.new.out) (g.W.Sink.contents c.put_invariant.new.out) (circuit_text c.args.evidence.now.latches c.args.evidence.now.gates) (invariant_text c.args.evidence.now.invariant) (proofs_text (evidence_in c.args.evidence.now)) _ (evidence_parts (evidence_in c.args.evidence.now)) (rw (c.as_slice.ensures, c.as_slice-2.ensures) at c.in_ok-put_circuit.ensures.puts) c.from_residual-in_err-put_invariant.ensures.0 (c.in_err-put_invariant.ensures.puts)

pub returns-clause-puts : goal.returns-clause-puts
returns-clause-puts g c =
    three_puts c.put_proofs.result (g.W.Sink.contents c.args.out.now) (g.W.Sink.contents c.put_circuit.new.out) (g.W.Sink.contents c.put_invariant.new.out) (g.W.Sink.contents c.put_proofs.new.out) (circuit_text c.args.evidence.now.latches c.args.evidence.now.gates) (invariant_text c.args.evidence.now.invariant) (proofs_text (evidence_in c.args.evidence.now)) _ (evidence_parts (evidence_in c.args.evidence.now)) (rw (c.as_slice.ensures, c.as_slice-2.ensures) at c.in_ok-put_circuit.ensures.puts) (c.in_ok-put_invariant.ensures.puts) (c.put_proofs.ensures.puts)
