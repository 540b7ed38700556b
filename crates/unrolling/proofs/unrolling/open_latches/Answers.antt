use Rattle.std.proofs.Common.{rules, ◌≡◌, ◌+◌, ◌<◌, ◌≤◌, length, get_or, refl, sym, ◌∙◌, ap, subst, arith, SFits, w32}
use Rattle.unrolling.specs.Cones.{latch_at}
use Rattle.unrolling.proofs.Added.{read_as}
use Rattle.unrolling.proofs.unrolling.open_latches.Goals.{then-latches-position-gt1, else-latches-position-gt1}
use Rattle.unrolling.proofs.Opening.{IsOpening, opening_begins, opening_more, opening_same, opening_ends}
use Rattle.unrolling.proofs.unrolling.open_latches.Goals as goal

pub loop-index-init : goal.loop-index-init
loop-index-init c = opening_begins c.args.circuit.now c.args.cone.now c.args.initial.now c.requires.constants

pub loop-index-preserved : goal.loop-index-preserved
loop-index-preserved c =
    let m = c.args.circuit.now in
    let cone = c.args.cone.now in
    let i = c.loop-index.index in
    let i_in : i < length cone.latches.items = omega (arith, ap length c.deref-position-items.ensures.value) in
    let p_is : get_or c.deref-position-items.result.now i 0 ≡ get_or cone.latches.items i 0 = ap (λ ps. get_or ps i 0) c.deref-position-items.ensures.value in
    elim c.if-latches-position-gt1.branch [
      | then-latches-position-gt1 w ↦
          let free : 1 < (latch_at m.latches (get_or cone.latches.items i 0)).reset.0 = rw (c.latches-latches.ensures, p_is) at w.if-latches-position-gt1.true in
          let fl : SFits w32 w.positive.result = search rules in
          let l_is = read_as _ _ fl w.positive.ensures in
          subst (λ q. IsOpening m cone q (i + 1)) (sym (w.initial'-is ∙ rw (p_is, l_is) refl)) (opening_more m cone c.loop-index.initial' i c.requires.cone i_in c.loop-index.invariant free)
      | else-latches-position-gt1 w ↦
          let bound : (latch_at m.latches (get_or cone.latches.items i 0)).reset.0 ≤ 1 = rw (c.latches-latches.ensures, p_is) at w.if-latches-position-gt1.false in
          subst (λ q. IsOpening m cone q (i + 1)) (sym w.initial'-is) (opening_same m cone c.loop-index.initial' i c.loop-index.invariant bound)
    ]

pub returns : goal.returns
returns c =
    let last : c.loop-index.index ≡ length c.args.cone.now.latches.items = omega (arith, ap length c.deref-position-items.ensures.value) in
    opening_ends c.args.circuit.now c.args.cone.now c.loop-index.initial' c.loop-index.index last c.loop-index.invariant
