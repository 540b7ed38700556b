use Rattle.std.proofs.Common.{rules, ◌∙◌, ap, arith, get_or, ℤ, pos, SFits, w32}
use Rattle.lrat.proofs.Numbered.{units_next}
use Rattle.lrat.proofs.Fit.{read32}
use Rattle.lrat.proofs.stack.Stack.add_units.Goals as goal

pub loop-unit-preserved : goal.loop-unit-preserved
loop-unit-preserved c =
    let x : ℤ = get_or c.args.units.now c.loop-unit.unit-index (pos 0) in
    let f : SFits w32 x = search rules in
    let i = c.loop-unit.invariant in
    let a = c.in_ok-add.ensures.ok in
    record {
      base = ap (λ s. s.base) a ∙ i.base;
      present = ap (λ s. s.present) a ∙ (rw (read32 x f) (units_next c.args.units.now c.loop-unit.unit-index _ _ _ _ _ c.loop-unit-test.true i.present i.top c.top-next.ensures));
      top = ap (λ s. s.top) a ∙ (omega (arith, i.top, c.top-next.ensures));
    }
