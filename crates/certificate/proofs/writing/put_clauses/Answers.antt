use Rattle.std.proofs.Common.{subst}
use Rattle.std.specs.Prelude.{flat_map}
use Rattle.std.specs.Io.KnownBytes.{Appends}
use Rattle.std.proofs.lemmas.List.{take_all}
use Rattle.base.specs.Devices.{PutsBeginning}
use Rattle.lrat.proofs.PutLaws.{begins_at, puts_err}
use Rattle.certificate.specs.Texts.{clause_line}
use Rattle.certificate.proofs.writing.put_clauses.Goals as goal

pub returns-in_err-put_clause-clause-puts : goal.returns-in_err-put_clause-clause-puts
returns-in_err-put_clause-clause-puts g c =
    let before = g.W.Sink.contents c.args.out.now in
    let between = g.W.Sink.contents c.loop-clause.out in
    let after = g.W.Sink.contents c.put_clause.new.out in
    let begun = subst (λ x. PutsBeginning between after (clause_line x)) c.clause-item.is (rw c.as_slice.ensures at c.in_err-put_clause.ensures.puts) in
    puts_err c.from_residual.result _ _ _ c.from_residual.ensures.0
    (begins_at clause_line c.args.clauses.now c.loop-clause.clause-index c.clause-item.result before between after c.loop-clause-test.true c.loop-clause.invariant.appended begun)

pub returns-clause-puts : goal.returns-clause-puts
returns-clause-puts g c =
    let before = g.W.Sink.contents c.args.out.now in
    let after = g.W.Sink.contents c.loop-clause.out in
    subst (λ xs. Appends before after (flat_map clause_line xs)) (take_all _ _ c.loop-clause-test.false) c.loop-clause.invariant.appended
