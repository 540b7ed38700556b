use Rattle.std.proofs.Common.{rules, ◌≡◌, ◌∷◌, [], true, set, unsigned_abs, ◌∙◌, ap, subst, SFits, w32}
use Rattle.lrat.proofs.Fit.{read32}
use Rattle.cones.specs.Reach.{Grows, IsFrom}
use Rattle.cones.proofs.Growing.{grows_one, from_one}
use Rattle.unrolling.proofs.demand.want.Goals as goal

pub returns-in_ok-push-clause-grows : goal.returns-in_ok-push-clause-grows
returns-in_ok-push-clause-grows c =
    let fl : SFits w32 c.args.literal = search rules in
    let is : c.unsigned_abs-variable.result ≡ unsigned_abs c.args.literal = c.unsigned_abs-variable.ensures.value ∙ ap unsigned_abs (read32 _ fl) in
    subst (λ q. Grows (q ∷ []) c.args.marks.now c.args.list.now.items (set c.args.marks.now c.unsigned_abs-variable.result true) c.push.new.to.items) is
    (rw c.in_ok-push.ensures.items (grows_one c.unsigned_abs-variable.result c.args.marks.now c.args.list.now.items (rw is c.requires) c.if-not-marks-variable.true))

pub returns-in_ok-push-clause-from : goal.returns-in_ok-push-clause-from
returns-in_ok-push-clause-from c =
    let fl : SFits w32 c.args.literal = search rules in
    let is : c.unsigned_abs-variable.result ≡ unsigned_abs c.args.literal = c.unsigned_abs-variable.ensures.value ∙ ap unsigned_abs (read32 _ fl) in
    subst (λ q. IsFrom (q ∷ []) c.args.marks.now (set c.args.marks.now c.unsigned_abs-variable.result true)) is (from_one c.unsigned_abs-variable.result c.args.marks.now)
