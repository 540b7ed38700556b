use Rattle.std.proofs.Common.{rules, ◌-◌, ◌+◌, ◌++◌, List, ap, subst, sym, ◌∙◌}
use Rattle.std.proofs.lemmas.List.{length_push}
use Rattle.scan.specs.Lists.{many_at}
use Rattle.graph.specs.declared.circuit.Gate.{Gate}
use Rattle.certificate.specs.Streams.{StillReads}
use Rattle.certificate.proofs.StreamLaws.{err_read, many_goes, many_read, many_refused}
use Rattle.certificate3.specs.Reading.{gate_at}
use Rattle.certificate3.proofs.PieceLaws.{gate_of_piece}
use Rattle.certificate3.proofs.streaming.read_gates.Goals as goal

pub line-requires-clause-line : goal.line-requires-clause-line
line-requires-clause-line g c = gate_of_piece

pub returns-in_err-gate-clause-says : goal.returns-in_err-gate-clause-says
returns-in_err-gate-clause-says g c text later left =
    let (zs, between, refused) = c.in_err-gate.ensures.says text later left in
    let (ys, before, still) = c.loop.invariant.reads text zs between in
    let read = many_at gate_at c.args.count (c.args.reader.now.held ++ ys) in (
      ys,
      before,
      err_read read c.from_residual.result c.in_err-gate.field-0.0 c.line.new.self.held later c.from_residual.ensures.1
          (many_refused gate_at read c.loop.gates c.args.count c.loop.counter c.in_err-gate.field-0.0 c.loop.reader.held zs c.loop-test.true still refused),
    )

pub loop-preserved : goal.loop-preserved
loop-preserved g c = record {
  steady = search rules;
  many = rw c.in_ok-push.ensures.ok (length_push c.loop.gates c.in_ok-gate.gate ∙ ap (λ n. n + 1) c.loop.invariant.many);
  reads = λ text later left.
      let (zs, between, one) = c.in_ok-gate.ensures.says text later left in
      let (ys, before, still) = c.loop.invariant.reads text zs between in
      let read = many_at gate_at c.args.count (c.args.reader.now.held ++ ys) in (
        ys,
        before,
        subst (λ (front : List Gate). StillReads read front (many_at gate_at (c.args.count - (c.loop.counter + 1))) c.line.new.self.held later) (sym c.in_ok-push.ensures.ok)
            (many_goes gate_at read c.loop.gates c.args.count c.loop.counter c.in_ok-gate.gate c.loop.reader.held c.line.new.self.held zs later c.loop-test.true still one),
      );
}

pub returns-clause-says : goal.returns-clause-says
returns-clause-says g c text later left =
    let (ys, before, still) = c.loop.invariant.reads text later left in
    (ys, before, many_read gate_at (many_at gate_at c.args.count (c.args.reader.now.held ++ ys)) c.loop.gates c.args.count c.loop.counter c.loop.reader.held later c.loop-test.false still)
