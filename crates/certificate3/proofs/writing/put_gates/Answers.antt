use Rattle.std.proofs.Common.{subst}
use Rattle.std.specs.Prelude.{flat_map}
use Rattle.std.specs.Io.KnownBytes.{Appends}
use Rattle.std.proofs.lemmas.List.{take_all}
use Rattle.lrat.proofs.PutLaws.{begins_at, puts_err}
use Rattle.certificate3.specs.Texts.{gate_line}
use Rattle.certificate3.proofs.writing.put_gates.Goals as goal

pub returns-in_err-put_gate-clause-puts : goal.returns-in_err-put_gate-clause-puts
returns-in_err-put_gate-clause-puts g c =
    puts_err c.from_residual.result _ _ _ c.from_residual.ensures.0
    (begins_at gate_line c.args.gates.now c.loop-gate.gate-index (record { lhs = record { 0 = 0 }; rhs0 = record { 0 = 0 }; rhs1 = record { 0 = 0 } }) (g.W.Sink.contents c.args.out.now) (g.W.Sink.contents c.loop-gate.out) (g.W.Sink.contents c.put_gate.new.out) c.loop-gate-test.true c.loop-gate.invariant.appended c.in_err-put_gate.ensures.puts)

pub returns-clause-puts : goal.returns-clause-puts
returns-clause-puts g c =
    subst (λ xs. Appends (g.W.Sink.contents c.args.out.now) (g.W.Sink.contents c.loop-gate.out) (flat_map gate_line xs)) (take_all _ _ c.loop-gate-test.false) c.loop-gate.invariant.appended
