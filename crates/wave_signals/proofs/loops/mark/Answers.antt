use Rattle.std.proofs.Common.{◌≡◌, ◌<◌, length, get_or, sym, ap, ◌∙◌, arith}
use Rattle.std.proofs.lemmas.List.{get_or_default}
use Rattle.graph.specs.declared.circuit.Lit.{Lit}
use Rattle.graph.specs.Circuits.{Valuation, value_of}
use Rattle.stimulus.proofs.LassoLaws.{if_some_at, marked_all, marked_kept, marked_set}
use Rattle.wave_signals.proofs.loops.mark.Goals.{then-value, else-value}
use Rattle.wave_signals.proofs.loops.mark.Goals as goal

pub returns : goal.returns
returns c = λ w e. marked_all c.args.wanted.now w c.loop-k.k c.args.marks.now c.loop-k.marks (omega arith) (c.loop-k.invariant.marked w e)

pub loop-k-preserved : goal.loop-k-preserved
loop-k-preserved c =
    let xs = c.args.wanted.now in
    let k = c.loop-k.k in
    let k_in : c.loop-k.k < length c.args.wanted.now = c.loop-k-test.true in
    elim c.if-value.branch [
      | then-value b ↦
          record {
            long = omega (arith, c.if-value.auto.marks, c.loop-k.invariant.long);
            marked = λ w e.
                let v = if_some_at (λ (u : Valuation). c.value.result ≡ value_of u (get_or xs k record { 0 = 0 })) c.args.replay.now.now w c.value.ensures e in
                rw b.marks-is (marked_set xs w k c.args.marks.now c.loop-k.marks (omega (arith, c.requires.lengths, k_in))
                (λ d. ap (λ (a : Lit). value_of w a) (get_or_default xs k d record { 0 = 0 } k_in) ∙ sym v ∙ b.if-value.true) (c.loop-k.invariant.marked w e));
          }
      | else-value b ↦
          record {
            long = omega (arith, c.if-value.auto.marks, c.loop-k.invariant.long);
            marked = λ w e.
                let v = if_some_at (λ (u : Valuation). c.value.result ≡ value_of u (get_or xs k record { 0 = 0 })) c.args.replay.now.now w c.value.ensures e in
                rw b.marks-is (marked_kept xs w k c.args.marks.now c.loop-k.marks
                (λ d. ap (λ (a : Lit). value_of w a) (get_or_default xs k d record { 0 = 0 } k_in) ∙ sym v ∙ b.if-value.false) (c.loop-k.invariant.marked w e));
          }
    ]
