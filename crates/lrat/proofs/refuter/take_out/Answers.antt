use Rattle.std.proofs.Common.{◌∙◌, sym, ap, refl, inr, take, drop, get_or, ◌+◌}
use Rattle.lrat.proofs.Numbered.{take_next, takes_out_more, is_absent}
use Rattle.lrat.proofs.Exact.{parts_at}
use Rattle.lrat.proofs.refuter.take_out.Goals as goal

pub loop-id-preserved : goal.loop-id-preserved
loop-id-preserved c =
    let a = c.in_ok-was_present.ensures.ok in
    let here = sym c.in_ok-was_present.ensures.was ∙ c.if-not-was_present.false in
    record {
      base = ap (λ s. s.base) a ∙ c.loop-id.invariant.base;
      top = ap (λ s. s.top) a ∙ c.loop-id.invariant.top;
      takes = rw (take_next _ _ 0 c.loop-id-test.true, ap (λ s. s.present) a) (takes_out_more _ _ _ _ c.loop-id.invariant.takes here);
    }

pub returns-then-not-was_present-clause-refused : goal.returns-then-not-was_present-clause-refused
returns-then-not-was_present-clause-refused c = inr (
  refl,
  record {
    done = take c.loop-id.id-index c.args.ids.now;
    id = get_or c.args.ids.now c.loop-id.id-index 0;
    later = drop (c.loop-id.id-index + 1) c.args.ids.now;
    reached = c.loop-id.stack.present;
    are = parts_at _ _ 0 c.loop-id-test.true;
    takes = c.loop-id.invariant.takes;
    absent = is_absent _ (sym c.in_ok-was_present.ensures.was ∙ c.if-not-was_present.true);
  },
)
