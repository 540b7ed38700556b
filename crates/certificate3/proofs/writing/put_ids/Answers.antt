use Rattle.std.proofs.Common.{subst}
use Rattle.std.specs.Prelude.{flat_map}
use Rattle.std.specs.Io.KnownBytes.{Appends}
use Rattle.std.proofs.lemmas.List.{take_all}
use Rattle.lrat.proofs.PutLaws.{begins_at, puts_err}
use Rattle.certificate3.specs.Writing.{id_text}
use Rattle.certificate3.proofs.writing.put_ids.Goals as goal

pub returns-in_err-put_id-clause-puts : goal.returns-in_err-put_id-clause-puts
returns-in_err-put_id-clause-puts g c =
    puts_err c.from_residual.result _ _ _ c.from_residual.ensures.0
    (begins_at id_text c.args.ids.now c.loop-id.id-index (0) (g.W.Sink.contents c.args.out.now) (g.W.Sink.contents c.loop-id.out) (g.W.Sink.contents c.put_id.new.out) c.loop-id-test.true c.loop-id.invariant.appended c.in_err-put_id.ensures.puts)

pub returns-clause-puts : goal.returns-clause-puts
returns-clause-puts g c =
    subst (λ xs. Appends (g.W.Sink.contents c.args.out.now) (g.W.Sink.contents c.loop-id.out) (flat_map id_text xs)) (take_all _ _ c.loop-id-test.false) c.loop-id.invariant.appended
