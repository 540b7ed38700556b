use Rattle.std.proofs.Common.{rules, ◌<◌, ◌≤◌, [], length, arith, subst}
use Rattle.std.specs.Prelude.{flat_map}
use Rattle.std.specs.Io.KnownBytes.{Appends}
use Rattle.std.proofs.lemmas.List.{take_all}
use Rattle.base.specs.Devices.{PutsBeginning}
use Rattle.lrat.proofs.PutLaws.{begins_at, puts_err, puts_next}
use Rattle.certificate3.specs.Texts.{hints_line}
use Rattle.certificate3.proofs.writing.put_hints.Goals as goal

pub returns-in_err-put_hints_line-clause-puts : goal.returns-in_err-put_hints_line-clause-puts
returns-in_err-put_hints_line-clause-puts g c =
    let lt : c.loop-k.k < length c.args.hints.now = omega (arith, c.len-k-end.ensures, c.loop-k-test.true) in
    let begun = subst (λ x. PutsBeginning (g.W.Sink.contents c.loop-k.out) (g.W.Sink.contents c.put_hints_line.new.out) (hints_line x)) c.list.ensures c.in_err-put_hints_line.ensures.puts in
    puts_err c.from_residual.result _ _ _ c.from_residual.ensures.0
    (begins_at hints_line c.args.hints.now c.loop-k.k [] (g.W.Sink.contents c.args.out.now) (g.W.Sink.contents c.loop-k.out) (g.W.Sink.contents c.put_hints_line.new.out) lt c.loop-k.invariant.appended begun)

pub loop-k-preserved : goal.loop-k-preserved
loop-k-preserved g c = record {
  steady = search rules;
  appended =
      let lt : c.loop-k.k < length c.args.hints.now = omega (arith, c.len-k-end.ensures, c.loop-k-test.true) in
      let one = subst (λ x. Appends (g.W.Sink.contents c.loop-k.out) (g.W.Sink.contents c.put_hints_line.new.out) (hints_line x)) c.list.ensures c.in_ok-put_hints_line.ensures.puts in
      puts_next hints_line c.args.hints.now c.loop-k.k [] (g.W.Sink.contents c.args.out.now) (g.W.Sink.contents c.loop-k.out) (g.W.Sink.contents c.put_hints_line.new.out) lt c.loop-k.invariant.appended one;
}

pub returns-clause-puts : goal.returns-clause-puts
returns-clause-puts g c =
    let le : length c.args.hints.now ≤ c.loop-k.k = omega (arith, c.len-k-end.ensures, c.loop-k-test.false) in
    subst (λ xs. Appends (g.W.Sink.contents c.args.out.now) (g.W.Sink.contents c.loop-k.out) (flat_map hints_line xs)) (take_all c.loop-k.k c.args.hints.now le) c.loop-k.invariant.appended
