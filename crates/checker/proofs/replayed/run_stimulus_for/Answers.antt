use Rattle.std.proofs.Common.{◌≡◌, inl, inr, refl}
use Rattle.checker.specs.Replayed.{Confirms, IsRunRefusal, IsRunRefusalFor}
use Rattle.checker.specs.declared.line.Question.TheVariants.{Run}
use Rattle.checker.proofs.Said.{about_begun, about_ended, about_says, about_yes, told_no, told_exact, told_ended, ok_then, err_then}
use Rattle.checker.proofs.StimulusLaws.{for_not}
use Rattle.checker.proofs.replayed.run_stimulus_for.Goals as goal

pub returns-clause-yes : goal.returns-clause-yes
returns-clause-yes g c text later left =
    let (xs, first, both) = c.violated_property.ensures.says text later left in (
      xs,
      first,
      λ other rest end.
          let (ys, second, says) = both other rest end in (
            ys,
            second,
            ok_then _ _ c.tell.result
                (λ said told holds.
                let it = about_yes Run (Confirms xs ys) (IsRunRefusalFor c.args.property xs ys) c.args.property c.about-answer.result said _ _ (about_says (Confirms xs ys) (IsRunRefusal xs ys) (IsRunRefusalFor c.args.property xs ys) c.args.property c.violated_property.result c.about-answer.result says c.about-answer.ensures.says (λ n is. inl is) (λ q of ne. inr (q, of, ne, refl))) told holds in
                it)
                c.tell.ensures.tells,
          ),
    )

pub returns-clause-no : goal.returns-clause-no
returns-clause-no g c text later left =
    let (xs, first, both) = c.violated_property.ensures.says text later left in (
      xs,
      first,
      λ other rest end.
          let (ys, second, says) = both other rest end in (
            ys,
            second,
            ok_then _ _ c.tell.result
                (λ said told fails. told_no Run (λ q. (q ≡ c.args.property) × Confirms xs ys q) (IsRunRefusalFor c.args.property xs ys) c.about-answer.result said _ _ (about_says (Confirms xs ys) (IsRunRefusal xs ys) (IsRunRefusalFor c.args.property xs ys) c.args.property c.violated_property.result c.about-answer.result says c.about-answer.ensures.says (λ n is. inl is) (λ q of ne. inr (q, of, ne, refl))) told fails)
                c.tell.ensures.tells,
          ),
    )

pub returns-clause-exact : goal.returns-clause-exact
returns-clause-exact g c text later left =
    let (xs, first, both) = c.violated_property.ensures.says text later left in (
      xs,
      first,
      λ other rest end.
          let (ys, second, says) = both other rest end in (
            ys,
            second,
            λ accepted. ok_then _ _ c.tell.result
                (λ said told. told_exact Run (λ q. (q ≡ c.args.property) × Confirms xs ys q) (IsRunRefusalFor c.args.property xs ys) c.about-answer.result said _ _ (about_says (Confirms xs ys) (IsRunRefusal xs ys) (IsRunRefusalFor c.args.property xs ys) c.args.property c.violated_property.result c.about-answer.result says c.about-answer.ensures.says (λ n is. inl is) (λ q of ne. inr (q, of, ne, refl))) told (for_not xs ys c.args.property accepted))
                c.tell.ensures.tells,
          ),
    )

pub returns-clause-beginning : goal.returns-clause-beginning
returns-clause-beginning g c text later left =
    let (xs, first, both) = c.violated_property.ensures.says text later left in (
      xs,
      first,
      λ other rest end.
          let (ys, second, says) = both other rest end in (
            ys,
            second,
            err_then _ _ _ c.tell.result
                (λ begun. about_begun Run (Confirms xs ys) (IsRunRefusalFor c.args.property xs ys) c.args.property c.about-answer.result _ _ (about_says (Confirms xs ys) (IsRunRefusal xs ys) (IsRunRefusalFor c.args.property xs ys) c.args.property c.violated_property.result c.about-answer.result says c.about-answer.ensures.says (λ n is. inl is) (λ q of ne. inr (q, of, ne, refl))) begun)
                c.tell.ensures.beginning,
          ),
    )

pub returns-clause-ended : goal.returns-clause-ended
returns-clause-ended g c =
    ok_then _ _ c.tell.result (λ said told holds. told_ended Run _ c.about-answer.result said _ _ (about_ended _ c.args.property c.violated_property.result c.about-answer.result c.violated_property.ensures.ended c.about-answer.ensures.says) told holds) c.tell.ensures.tells
