use Rattle.std.proofs.Common.{rules, ℤ, pos, SFits, w32, of_z, ap, get_or}
use Rattle.lrat.proofs.Fit.{read32, same32, not_true}
use Rattle.lrat.proofs.Looks.{so_far_none, so_far_some, so_far_several, so_far_denied, so_far_first, so_far_again}
use Rattle.lrat.proofs.look.look.Goals as goal
use Rattle.lrat.proofs.look.look.Goals.{then-not-denies+in-None, then-not-denies+in-Some+else-other-literal, else-not-denies}

pub returns-in-None-left : goal.returns-in-None-left
returns-in-None-left c = so_far_none _ _ _ _ c.loop-literal-test.false c.loop-literal.invariant c.in-None-left.is

pub returns-in-Some-left : goal.returns-in-Some-left
returns-in-Some-left c =
    let f : SFits w32 c.in-Some-left.literal = search rules in
    rw (read32 c.in-Some-left.literal f) (so_far_some _ _ _ _ _ c.loop-literal-test.false c.loop-literal.invariant c.in-Some-left.is)

pub returns-then-other-literal : goal.returns-then-other-literal
returns-then-other-literal c =
    let x : ℤ = get_or c.args.clause.now c.loop-literal.literal-index (pos 0) in
    let f : SFits w32 x = search rules in
    so_far_several _ _ _ _ _ c.loop-literal-test.true c.loop-literal.invariant c.in-Some.is
    (λ e. c.if-other-literal.true (ap (of_z w32) e))
    (rw (read32 x f) at (not_true c.denies.ensures.1 c.if-not-denies.true))

pub loop-literal-preserved : goal.loop-literal-preserved
loop-literal-preserved c =
    let x : ℤ = get_or c.args.clause.now c.loop-literal.literal-index (pos 0) in
    let f : SFits w32 x = search rules in
    elim c.if-not-denies.branch [
      | then-not-denies+in-None w ↦ rw (w.left-is, read32 x f) (so_far_first _ _ _ _ c.loop-literal-test.true c.loop-literal.invariant w.in-None.is (rw (read32 x f) at (not_true c.denies.ensures.1 w.if-not-denies.true)))
      | then-not-denies+in-Some+else-other-literal w ↦
          let g : SFits w32 w.in-Some.other = search rules in
          rw w.left-is (so_far_again _ _ _ _ _ c.loop-literal-test.true c.loop-literal.invariant w.in-Some.is (same32 _ _ g f w.if-other-literal.false))
      | else-not-denies w ↦ rw w.left-is (so_far_denied _ _ _ _ c.loop-literal-test.true c.loop-literal.invariant (rw (read32 x f) at (c.denies.ensures.0 w.if-not-denies.false)))
    ]
