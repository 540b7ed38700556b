use Rattle.std.proofs.Common.{rules, w32, SFits}
use Rattle.lrat.proofs.Fit.{read32}
use Rattle.lrat.proofs.Marked.{marked_push}
use Rattle.lrat.proofs.trail.Trail.set.Goals as goal

pub invariant_of-self-2 : goal.invariant_of-self-2
invariant_of-self-2 c =
    let f : SFits w32 c.args.literal = search rules in
    let at = rw (read32 c.args.literal f) at c.unsigned_abs.ensures.value in
    let lit = rw (← c.self.view_is) at c.requires.in_range in
    let held = rw (← c.self.view_is) at c.requires.not_held in
    let no_ = rw (← c.self.view_is) at c.requires.not_denied in
    rw (c.mark_for.ensures, at, c.in_ok-push.ensures.items, read32 c.args.literal f) (marked_push _ _ _ _ c.self.invariant lit held no_)
