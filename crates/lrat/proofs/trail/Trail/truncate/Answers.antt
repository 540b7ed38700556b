use Rattle.std.proofs.Common.{◌-◌, ◌≤◌, ℤ, List, length, drop, ap, subst, ◌∙◌, arith}
use Rattle.std.proofs.lemmas.List.{take_all, length-drop}
use Rattle.lrat.specs.Marks.{IsUnmarked}
use Rattle.lrat.proofs.Marked.{marked_take}
use Rattle.lrat.proofs.trail.Trail.truncate.Goals as goal

pub invariant_of-self : goal.invariant_of-self
invariant_of-self c =
    let xs : List ℤ = c.deref.result.now in
    let past : length (drop c.args.len xs) ≤ length xs - c.args.len = omega (arith, length-drop c.args.len xs) in
    let same = take_all (length xs - c.args.len) (drop c.args.len xs) past ∙ ap (drop c.args.len) c.deref.ensures.value in
    rw c.truncate.ensures.items (marked_take _ _ _ _ _ c.self.invariant (subst (IsUnmarked c.self.inside.marks.items c.unmark.new.marks.items) same c.unmark.ensures))
