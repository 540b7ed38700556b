use Rattle.std.proofs.Common.{◌≡◌, inl, inr, refl}
use Rattle.checker.specs.Verdicts.{Accepts, IsRefusal, IsRefusalFor}
use Rattle.checker.specs.declared.line.Question.TheVariants.{Safe}
use Rattle.checker.proofs.Said.{about_begun, about_ended, about_says, about_yes, told_no, told_exact, told_ended, ok_then, err_then}
use Rattle.checker.proofs.CertificateLaws.{accepted_bounds, accepted_safe, for_not}
use Rattle.checker.proofs.certified.run_safe_for.Goals as goal

pub returns-clause-yes : goal.returns-clause-yes
returns-clause-yes g c text later left =
    let (xs, first, both) = c.safe_property.ensures.says text later left in (
      xs,
      first,
      λ other rest end.
          let (ys, second, says) = both other rest end in (
            ys,
            second,
            ok_then _ _ c.tell.result
                (λ said told holds.
                let it = about_yes Safe (Accepts xs ys) (IsRefusalFor c.args.property xs ys) c.args.property c.about-answer.result said _ _ (about_says (Accepts xs ys) (IsRefusal xs ys) (IsRefusalFor c.args.property xs ys) c.args.property c.safe_property.result c.about-answer.result says c.about-answer.ensures.says (λ n is. inl is) (λ q of ne. inr (q, of, ne, refl))) told holds in
                (it.0, accepted_safe c.accepted_law.ensures xs ys c.args.property it.0, it.1))
                c.tell.ensures.tells,
          ),
    )

pub returns-clause-rounds : goal.returns-clause-rounds
returns-clause-rounds g c text later left =
    let (xs, first, both) = c.safe_property.ensures.says text later left in (
      xs,
      first,
      λ other rest end.
          let (ys, second, says) = both other rest end in (
            ys,
            second,
            ok_then _ _ c.tell.result
                (λ said told holds.
                let it = about_yes Safe (Accepts xs ys) (IsRefusalFor c.args.property xs ys) c.args.property c.about-answer.result said _ _ (about_says (Accepts xs ys) (IsRefusal xs ys) (IsRefusalFor c.args.property xs ys) c.args.property c.safe_property.result c.about-answer.result says c.about-answer.ensures.says (λ n is. inl is) (λ q of ne. inr (q, of, ne, refl))) told holds in
                accepted_bounds c.accepted_rounds_law.ensures xs ys c.args.property it.0)
                c.tell.ensures.tells,
          ),
    )

pub returns-clause-no : goal.returns-clause-no
returns-clause-no g c text later left =
    let (xs, first, both) = c.safe_property.ensures.says text later left in (
      xs,
      first,
      λ other rest end.
          let (ys, second, says) = both other rest end in (
            ys,
            second,
            ok_then _ _ c.tell.result
                (λ said told fails. told_no Safe (λ q. (q ≡ c.args.property) × Accepts xs ys q) (IsRefusalFor c.args.property xs ys) c.about-answer.result said _ _ (about_says (Accepts xs ys) (IsRefusal xs ys) (IsRefusalFor c.args.property xs ys) c.args.property c.safe_property.result c.about-answer.result says c.about-answer.ensures.says (λ n is. inl is) (λ q of ne. inr (q, of, ne, refl))) told fails)
                c.tell.ensures.tells,
          ),
    )

pub returns-clause-exact : goal.returns-clause-exact
returns-clause-exact g c text later left =
    let (xs, first, both) = c.safe_property.ensures.says text later left in (
      xs,
      first,
      λ other rest end.
          let (ys, second, says) = both other rest end in (
            ys,
            second,
            λ accepted. ok_then _ _ c.tell.result
                (λ said told. told_exact Safe (λ q. (q ≡ c.args.property) × Accepts xs ys q) (IsRefusalFor c.args.property xs ys) c.about-answer.result said _ _ (about_says (Accepts xs ys) (IsRefusal xs ys) (IsRefusalFor c.args.property xs ys) c.args.property c.safe_property.result c.about-answer.result says c.about-answer.ensures.says (λ n is. inl is) (λ q of ne. inr (q, of, ne, refl))) told (for_not c.refused_law.ensures xs ys c.args.property accepted))
                c.tell.ensures.tells,
          ),
    )

pub returns-clause-beginning : goal.returns-clause-beginning
returns-clause-beginning g c text later left =
    let (xs, first, both) = c.safe_property.ensures.says text later left in (
      xs,
      first,
      λ other rest end.
          let (ys, second, says) = both other rest end in (
            ys,
            second,
            err_then _ _ _ c.tell.result
                (λ begun. about_begun Safe (Accepts xs ys) (IsRefusalFor c.args.property xs ys) c.args.property c.about-answer.result _ _ (about_says (Accepts xs ys) (IsRefusal xs ys) (IsRefusalFor c.args.property xs ys) c.args.property c.safe_property.result c.about-answer.result says c.about-answer.ensures.says (λ n is. inl is) (λ q of ne. inr (q, of, ne, refl))) begun)
                c.tell.ensures.beginning,
          ),
    )

pub returns-clause-ended : goal.returns-clause-ended
returns-clause-ended g c =
    ok_then _ _ c.tell.result (λ said told holds. told_ended Safe _ c.about-answer.result said _ _ (about_ended _ c.args.property c.safe_property.result c.about-answer.result c.safe_property.ensures.ended c.about-answer.ensures.says) told holds) c.tell.ensures.tells
