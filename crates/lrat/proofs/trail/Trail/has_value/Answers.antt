use Rattle.std.proofs.Common.{rules, refl, unsigned_abs, w32, SFits}
use Rattle.lrat.specs.Marks.{Says}
use Rattle.lrat.proofs.Fit.{read32}
use Rattle.lrat.proofs.Marked.{read_mark, tested_any, valued_mark}
use Rattle.lrat.proofs.trail.Trail.has_value.Goals as goal

pub returns : goal.returns
returns c =
    let f : SFits w32 c.args.literal = search rules in
    let at = rw (read32 c.args.literal f) at c.unsigned_abs.ensures.value in
    let lit = rw (← c.self.view_is) at c.requires in
    let says : Says c.self.inside.literals.items (unsigned_abs c.args.literal) c.index.result.now = read_mark _ _ _ _ _ _ _ c.self.invariant lit at c.index.ensures refl in
    rw (← c.self.view_is) (tested_any _ _ c.ne.ensures (valued_mark _ _ _ c.requires.0 says))
