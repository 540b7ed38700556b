use Rattle.std.proofs.Common.{rules, ◌∙◌, SFits, w32}
use Rattle.lrat.proofs.Fit.{read32}
use Rattle.unrolling.proofs.Arranged.{first_kept, second_kept, third_kept, fourth_kept, literal_kept}
use Rattle.unrolling.proofs.function.Function.reduced.Goals as goal

pub returns-clause-same : goal.returns-clause-same
returns-clause-same c = λ v on.
    let t = c.args.self.table in
    let q = c.args.self.leaves in
    let fx : SFits w32 q.0 = search rules in
    let fy : SFits w32 q.1 = search rules in
    let fz : SFits w32 q.2 = search rules in
    let fw : SFits w32 q.3 = search rules in
    let f1 : SFits w32 c.unless_ignored.result = search rules in
    let f2 : SFits w32 c.unless_ignored-2.result = search rules in
    let f3 : SFits w32 c.unless_ignored-3.result = search rules in
    let f4 : SFits w32 c.unless_ignored-4.result = search rules in
    let k1 = rw (read32 _ fx) at c.unless_ignored.ensures.kept in
    let k2 = rw (read32 _ fy) at c.unless_ignored-2.ensures.kept in
    let k3 = rw (read32 _ fz) at c.unless_ignored-3.ensures.kept in
    let k4 = rw (read32 _ fw) at c.unless_ignored-4.ensures.kept in
    rw (read32 _ f1, read32 _ f2, read32 _ f3, read32 _ f4)
    (first_kept t c.ignores_first.result q.0 _ v c.ignores_first.ensures.0 k1 _ _ _ ∙ second_kept t c.ignores_second.result q.1 _ v c.ignores_second.ensures.0 k2 _ _ _ ∙
    third_kept t c.ignores_third.result q.2 _ v c.ignores_third.ensures.0 k3 _ _ _ ∙ fourth_kept t c.ignores_fourth.result q.3 _ v c.ignores_fourth.ensures.0 k4 _ _ _)

pub returns-clause-leaves : goal.returns-clause-leaves
returns-clause-leaves c = λ n some is.
    let q = c.args.self.leaves in
    let fx : SFits w32 q.0 = search rules in
    let fy : SFits w32 q.1 = search rules in
    let fz : SFits w32 q.2 = search rules in
    let fw : SFits w32 q.3 = search rules in
    let f1 : SFits w32 c.unless_ignored.result = search rules in
    let f2 : SFits w32 c.unless_ignored-2.result = search rules in
    let f3 : SFits w32 c.unless_ignored-3.result = search rules in
    let f4 : SFits w32 c.unless_ignored-4.result = search rules in
    let k1 = rw (read32 _ fx) at c.unless_ignored.ensures.kept in
    let k2 = rw (read32 _ fy) at c.unless_ignored-2.ensures.kept in
    let k3 = rw (read32 _ fz) at c.unless_ignored-3.ensures.kept in
    let k4 = rw (read32 _ fw) at c.unless_ignored-4.ensures.kept in
    rw (read32 _ f1, read32 _ f2, read32 _ f3, read32 _ f4) (
      literal_kept n c.ignores_first.result q.0 _ some is.0 c.unless_ignored.ensures.ignored k1,
      literal_kept n c.ignores_second.result q.1 _ some is.1 c.unless_ignored-2.ensures.ignored k2,
      literal_kept n c.ignores_third.result q.2 _ some is.2 c.unless_ignored-3.ensures.ignored k3,
      literal_kept n c.ignores_fourth.result q.3 _ some is.3 c.unless_ignored-4.ensures.ignored k4,
    )
