use Rattle.std.proofs.Common.{rules, ◌<◌, ◌≤◌, [], length, arith, subst}
use Rattle.std.specs.Prelude.{flat_map}
use Rattle.std.specs.Io.KnownBytes.{Appends}
use Rattle.std.proofs.lemmas.List.{take_all}
use Rattle.base.specs.Devices.{PutsBeginning}
use Rattle.lrat.proofs.PutLaws.{begins_at, puts_err, puts_next}
use Rattle.certificate.specs.Texts.{clause_line}
use Rattle.certificate3.proofs.writing.put_clauses.Goals as goal

pub returns-in_err-put_clause-clause-puts : goal.returns-in_err-put_clause-clause-puts
returns-in_err-put_clause-clause-puts g c =
    let lt : c.loop-k.k < length c.args.clauses.now = omega (arith, c.len-k-end.ensures, c.loop-k-test.true) in
    let begun = subst (λ x. PutsBeginning (g.W.Sink.contents c.loop-k.out) (g.W.Sink.contents c.put_clause.new.out) (clause_line x)) c.list.ensures c.in_err-put_clause.ensures.puts in
    puts_err c.from_residual.result _ _ _ c.from_residual.ensures.0
    (begins_at clause_line c.args.clauses.now c.loop-k.k [] (g.W.Sink.contents c.args.out.now) (g.W.Sink.contents c.loop-k.out) (g.W.Sink.contents c.put_clause.new.out) lt c.loop-k.invariant.appended begun)

pub loop-k-preserved : goal.loop-k-preserved
loop-k-preserved g c = record {
  steady = search rules;
  appended =
      let lt : c.loop-k.k < length c.args.clauses.now = omega (arith, c.len-k-end.ensures, c.loop-k-test.true) in
      let one = subst (λ x. Appends (g.W.Sink.contents c.loop-k.out) (g.W.Sink.contents c.put_clause.new.out) (clause_line x)) c.list.ensures c.in_ok-put_clause.ensures.puts in
      puts_next clause_line c.args.clauses.now c.loop-k.k [] (g.W.Sink.contents c.args.out.now) (g.W.Sink.contents c.loop-k.out) (g.W.Sink.contents c.put_clause.new.out) lt c.loop-k.invariant.appended one;
}

pub returns-clause-puts : goal.returns-clause-puts
returns-clause-puts g c =
    let le : length c.args.clauses.now ≤ c.loop-k.k = omega (arith, c.len-k-end.ensures, c.loop-k-test.false) in
    subst (λ xs. Appends (g.W.Sink.contents c.args.out.now) (g.W.Sink.contents c.loop-k.out) (flat_map clause_line xs)) (take_all c.loop-k.k c.args.clauses.now le) c.loop-k.invariant.appended
