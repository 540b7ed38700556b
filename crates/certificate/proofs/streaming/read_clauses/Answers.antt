use Rattle.std.proofs.Common.{rules, ◌-◌, ◌+◌, ◌++◌, List, ap, subst, sym, ◌∙◌}
use Rattle.std.proofs.lemmas.List.{length_push}
use Rattle.scan.specs.Lists.{many_at}
use Rattle.graph.specs.declared.circuit.Lit.{Lit}
use Rattle.certificate.specs.Reading.{clause_at}
use Rattle.certificate.specs.Streams.{StillReads}
use Rattle.certificate.proofs.StreamLaws.{err_read, many_goes, many_read, many_refused}
use Rattle.certificate.proofs.streaming.read_clauses.Goals as goal

pub returns-in_err-clause_into-clause-says : goal.returns-in_err-clause_into-clause-says
returns-in_err-clause_into-clause-says g c text later left =
    let (zs, between, refused) = c.in_err-clause_into.ensures.says text later left in
    let (ys, before, still) = c.loop.invariant.reads text zs between in
    let read = many_at clause_at c.args.count (c.args.reader.now.held ++ ys) in (
      ys,
      before,
      err_read read c.from_residual.result c.in_err-clause_into.field-0.0 c.clause_into.new.self.held later c.from_residual.ensures.1
          (many_refused clause_at read c.loop.clauses c.args.count c.loop.counter c.in_err-clause_into.field-0.0 c.loop.reader.held zs c.loop-test.true still refused),
    )

pub loop-preserved : goal.loop-preserved
loop-preserved g c = record {
  steady = search rules;
  many = rw c.in_ok-push.ensures.ok (length_push c.loop.clauses c.as_slice.result.now ∙ ap (λ n. n + 1) c.loop.invariant.many);
  reads = λ text later left.
      let (zs, between, one) = c.in_ok-clause_into.ensures.says text later left in
      let (ys, before, still) = c.loop.invariant.reads text zs between in
      let read = many_at clause_at c.args.count (c.args.reader.now.held ++ ys) in (
        ys,
        before,
        subst (λ (front : List (List Lit)). StillReads read front (many_at clause_at (c.args.count - (c.loop.counter + 1))) c.clause_into.new.self.held later) (sym c.in_ok-push.ensures.ok)
            (many_goes clause_at read c.loop.clauses c.args.count c.loop.counter c.as_slice.result.now c.loop.reader.held c.clause_into.new.self.held zs later c.loop-test.true still (rw c.as_slice.ensures.value one)),
      );
}

pub returns-clause-says : goal.returns-clause-says
returns-clause-says g c text later left =
    let (ys, before, still) = c.loop.invariant.reads text later left in
    (ys, before, many_read clause_at (many_at clause_at c.args.count (c.args.reader.now.held ++ ys)) c.loop.clauses c.args.count c.loop.counter c.loop.reader.held later c.loop-test.false still)
