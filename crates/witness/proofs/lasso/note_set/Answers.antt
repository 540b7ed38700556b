use Rattle.std.proofs.Common.{◌≡◌, ◌<◌, length, get_or, sym, ap, ◌∙◌, arith}
use Rattle.std.proofs.lemmas.List.{get_or_default}
use Rattle.graph.specs.declared.circuit.Lit.{Lit}
use Rattle.graph.specs.Circuits.{Valuation, value_of}
use Rattle.stimulus.proofs.LassoLaws.{if_some_at}
use Rattle.witness.proofs.LassoLaws.{noted_all, noted_kept, noted_set}
use Rattle.witness.proofs.lasso.note_set.Goals.{then-value, else-value}
use Rattle.witness.proofs.lasso.note_set.Goals as goal

pub returns : goal.returns
returns c = λ w e. noted_all c.args.wanted.now w c.args.passed c.loop-k.k c.args.last.now c.loop-k.last (omega arith) (c.loop-k.invariant.noted w e)

pub loop-k-preserved : goal.loop-k-preserved
loop-k-preserved c =
    let xs = c.args.wanted.now in
    let k = c.loop-k.k in
    let k_in : c.loop-k.k < length c.args.wanted.now = c.loop-k-test.true in
    elim c.if-value.branch [
      | then-value b ↦
          record {
            long = omega (arith, c.if-value.auto.last, c.loop-k.invariant.long);
            noted = λ w e.
                let v = if_some_at (λ (u : Valuation). c.value.result ≡ value_of u (get_or xs k record { 0 = 0 })) c.args.replay.now.now w c.value.ensures e in
                rw b.last-is (noted_set xs w c.args.passed k c.args.last.now c.loop-k.last (omega (arith, c.requires.lengths, k_in))
                (λ d. ap (λ (a : Lit). value_of w a) (get_or_default xs k d record { 0 = 0 } k_in) ∙ sym v ∙ b.if-value.true) (c.loop-k.invariant.noted w e));
          }
      | else-value b ↦
          record {
            long = omega (arith, c.if-value.auto.last, c.loop-k.invariant.long);
            noted = λ w e.
                let v = if_some_at (λ (u : Valuation). c.value.result ≡ value_of u (get_or xs k record { 0 = 0 })) c.args.replay.now.now w c.value.ensures e in
                rw b.last-is (noted_kept xs w c.args.passed k c.args.last.now c.loop-k.last
                (λ d. ap (λ (a : Lit). value_of w a) (get_or_default xs k d record { 0 = 0 } k_in) ∙ sym v ∙ b.if-value.false) (c.loop-k.invariant.noted w e));
          }
    ]
