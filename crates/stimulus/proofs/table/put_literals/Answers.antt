use Rattle.std.proofs.Common.{◌≡◌, ◌∙◌, get_or, subst, Bool}
use Rattle.std.specs.List.{flat_map}
use Rattle.std.specs.Io.KnownBytes.{Appends}
use Rattle.std.proofs.lemmas.List.{take_all}
use Rattle.base.specs.Devices.{PutsBeginning}
use Rattle.base.proofs.Putting.{begins_at, puts_err, puts_next}
use Rattle.graph.specs.Circuits.{Valuation, value_of}
use Rattle.stimulus.specs.Texts.{value_text}
use Rattle.stimulus.proofs.LassoLaws.{if_some_at}
use Rattle.stimulus.proofs.table.put_literals.Goals as goal

pub loop-lit-preserved : goal.loop-lit-preserved
loop-lit-preserved g c = record {
  steady = c.in_ok-put_value.ensures.counts ∙ c.loop-lit.invariant.steady;
  appended = λ w is_w.
      let xs = c.args.lits.now in
      let i = c.loop-lit.lit-index in
      let v = if_some_at (λ (u : Valuation). c.value.result ≡ value_of u (get_or xs i record { 0 = 0 })) c.args.replay.now.now w c.value.ensures is_w in
      puts_next (λ a. value_text (value_of w a)) xs i record { 0 = 0 } (g.W.Sink.contents c.args.out.now) (g.W.Sink.contents c.loop-lit.out) (g.W.Sink.contents c.put_value.new.out) c.loop-lit-test.true
      (c.loop-lit.invariant.appended w is_w)
      (subst (λ (b : Bool). Appends (g.W.Sink.contents c.loop-lit.out) (g.W.Sink.contents c.put_value.new.out) (value_text b)) v c.in_ok-put_value.ensures.puts);
}

pub returns-in_err-put_value-clause-puts : goal.returns-in_err-put_value-clause-puts
returns-in_err-put_value-clause-puts g c = λ w is_w.
    let xs = c.args.lits.now in
    let i = c.loop-lit.lit-index in
    let v = if_some_at (λ (u : Valuation). c.value.result ≡ value_of u (get_or xs i record { 0 = 0 })) c.args.replay.now.now w c.value.ensures is_w in
    let before = g.W.Sink.contents c.args.out.now in
    let between = g.W.Sink.contents c.loop-lit.out in
    let after = g.W.Sink.contents c.put_value.new.out in
    puts_err c.from_residual.result before after (flat_map (λ a. value_text (value_of w a)) xs) c.from_residual.ensures.0
    (begins_at (λ a. value_text (value_of w a)) xs i record { 0 = 0 } before between after c.loop-lit-test.true (c.loop-lit.invariant.appended w is_w)
    (subst (λ (b : Bool). PutsBeginning between after (value_text b)) v c.in_err-put_value.ensures.puts))

pub returns-clause-puts : goal.returns-clause-puts
returns-clause-puts g c = λ w is_w.
    subst (λ lits. Appends (g.W.Sink.contents c.args.out.now) (g.W.Sink.contents c.loop-lit.out) (flat_map (λ a. value_text (value_of w a)) lits)) (take_all _ _ c.loop-lit-test.false)
    (c.loop-lit.invariant.appended w is_w)
