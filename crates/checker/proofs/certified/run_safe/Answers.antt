use Rattle.checker.specs.Verdicts.{Accepts, IsRefusal}
use Rattle.checker.specs.declared.line.Question.TheVariants.{Safe}
use Rattle.checker.proofs.Said.{told_yes, told_no, told_exact, told_begun, told_ended, ok_then, err_then}
use Rattle.checker.proofs.CertificateLaws.{accepted_bounds, accepted_safe, refusal_not}
use Rattle.checker.proofs.certified.run_safe.Goals as goal

pub returns-clause-yes : goal.returns-clause-yes
returns-clause-yes g c text later left =
    let (xs, first, both) = c.safe_property-answer.ensures.says text later left in (
      xs,
      first,
      λ other rest end.
          let (ys, second, says) = both other rest end in (
            ys,
            second,
            ok_then _ _ c.tell.result
                (λ said told holds.
                let it = told_yes Safe (Accepts xs ys) (IsRefusal xs ys) c.safe_property-answer.result said _ _ says told holds in
                (it.0, it.1, accepted_safe c.accepted_law.ensures xs ys it.0 it.1, it.2))
                c.tell.ensures.tells,
          ),
    )

pub returns-clause-rounds : goal.returns-clause-rounds
returns-clause-rounds g c text later left =
    let (xs, first, both) = c.safe_property-answer.ensures.says text later left in (
      xs,
      first,
      λ other rest end.
          let (ys, second, says) = both other rest end in (
            ys,
            second,
            ok_then _ _ c.tell.result
                (λ said told holds.
                let it = told_yes Safe (Accepts xs ys) (IsRefusal xs ys) c.safe_property-answer.result said _ _ says told holds in
                accepted_bounds c.accepted_rounds_law.ensures xs ys it.0 it.1)
                c.tell.ensures.tells,
          ),
    )

pub returns-clause-no : goal.returns-clause-no
returns-clause-no g c text later left =
    let (xs, first, both) = c.safe_property-answer.ensures.says text later left in (
      xs,
      first,
      λ other rest end.
          let (ys, second, says) = both other rest end in (
            ys,
            second,
            ok_then _ _ c.tell.result
                (λ said told fails. told_no Safe (Accepts xs ys) (IsRefusal xs ys) c.safe_property-answer.result said _ _ says told fails)
                c.tell.ensures.tells,
          ),
    )

pub returns-clause-exact : goal.returns-clause-exact
returns-clause-exact g c text later left =
    let (xs, first, both) = c.safe_property-answer.ensures.says text later left in (
      xs,
      first,
      λ other rest end.
          let (ys, second, says) = both other rest end in (
            ys,
            second,
            λ p accepted. ok_then _ _ c.tell.result
                (λ said told. told_exact Safe (Accepts xs ys) (IsRefusal xs ys) c.safe_property-answer.result said _ _ says told (refusal_not c.refused_law.ensures xs ys p accepted))
                c.tell.ensures.tells,
          ),
    )

pub returns-clause-beginning : goal.returns-clause-beginning
returns-clause-beginning g c text later left =
    let (xs, first, both) = c.safe_property-answer.ensures.says text later left in (
      xs,
      first,
      λ other rest end.
          let (ys, second, says) = both other rest end in (
            ys,
            second,
            err_then _ _ _ c.tell.result
                (told_begun Safe (Accepts xs ys) (IsRefusal xs ys) c.safe_property-answer.result _ _ says)
                c.tell.ensures.beginning,
          ),
    )

pub returns-clause-ended : goal.returns-clause-ended
returns-clause-ended g c =
    ok_then _ _ c.tell.result (λ said told holds. told_ended Safe _ c.safe_property-answer.result said _ _ c.safe_property-answer.ensures.ended told holds) c.tell.ensures.tells
