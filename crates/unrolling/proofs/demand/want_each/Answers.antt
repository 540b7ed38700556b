use Rattle.std.proofs.Common.{rules, List, ℤ, pos, map, get_or, unsigned_abs, subst, arith, SFits, w32}
use Rattle.lrat.proofs.Fit.{read32}
use Rattle.cones.specs.Reach.{Grows, IsFrom}
use Rattle.unrolling.proofs.Demanded.{grows_on, from_on, take_past}
use Rattle.unrolling.proofs.demand.want_each.Goals as goal

pub loop-literal-preserved : goal.loop-literal-preserved
loop-literal-preserved c =
    let fl : SFits w32 (get_or c.args.literals.now c.loop-literal.literal-index (pos 0)) = search rules in
    let grows = rw (read32 _ fl) at c.in_ok-want.ensures.grows in
    let from = rw (read32 _ fl) at c.in_ok-want.ensures.from in
    record {
      grows = grows_on unsigned_abs c.args.literals.now c.loop-literal.literal-index (pos 0) _ _ _ _ _ _ c.loop-literal-test.true c.loop-literal.invariant.grows grows;
      from = from_on unsigned_abs c.args.literals.now c.loop-literal.literal-index (pos 0) _ _ _ c.loop-literal-test.true c.loop-literal.invariant.from from;
    }

pub returns-clause-grows : goal.returns-clause-grows
returns-clause-grows c =
    subst (λ (q : List ℤ). Grows (map unsigned_abs q) c.args.marks.now c.args.list.now.items c.loop-literal.marks c.loop-literal.list.items)
    (take_past c.loop-literal.literal-index c.args.literals.now (omega arith)) c.loop-literal.invariant.grows

pub returns-clause-from : goal.returns-clause-from
returns-clause-from c =
    subst (λ (q : List ℤ). IsFrom (map unsigned_abs q) c.args.marks.now c.loop-literal.marks)
    (take_past c.loop-literal.literal-index c.args.literals.now (omega arith)) c.loop-literal.invariant.from
