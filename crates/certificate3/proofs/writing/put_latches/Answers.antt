use Rattle.std.proofs.Common.{subst}
use Rattle.std.specs.Prelude.{flat_map}
use Rattle.std.specs.Io.KnownBytes.{Appends}
use Rattle.std.proofs.lemmas.List.{take_all}
use Rattle.lrat.proofs.PutLaws.{begins_at, puts_err}
use Rattle.certificate3.specs.Texts.{latch_line}
use Rattle.certificate3.proofs.writing.put_latches.Goals as goal

pub returns-in_err-put_latch-clause-puts : goal.returns-in_err-put_latch-clause-puts
returns-in_err-put_latch-clause-puts g c =
    puts_err c.from_residual.result _ _ _ c.from_residual.ensures.0
    (begins_at latch_line c.args.latches.now c.loop-latch.latch-index (record { lit = record { 0 = 0 }; next = record { 0 = 0 }; reset = record { 0 = 0 } }) (g.W.Sink.contents c.args.out.now) (g.W.Sink.contents c.loop-latch.out) (g.W.Sink.contents c.put_latch.new.out) c.loop-latch-test.true c.loop-latch.invariant.appended c.in_err-put_latch.ensures.puts)

pub returns-clause-puts : goal.returns-clause-puts
returns-clause-puts g c =
    subst (λ xs. Appends (g.W.Sink.contents c.args.out.now) (g.W.Sink.contents c.loop-latch.out) (flat_map latch_line xs)) (take_all _ _ c.loop-latch-test.false) c.loop-latch.invariant.appended
