use Rattle.std.proofs.Common.{None, Some, subst}
use Rattle.aiger.proofs.LayoutLaws.{match_gives}
use Rattle.replay.specs.Found.{IsFound}
use Rattle.checker.specs.Replayed.{Confirms, IsRunRefusal}
use Rattle.checker.specs.AnswerErrors.{IsAnswerError, error_of_text}
use Rattle.checker.proofs.StimulusLaws.{found_none, found_some, text_stops}
use Rattle.checker.proofs.replayed.violated_property_of.Goals as goal

pub returns-in_err-outcome-clause-says : goal.returns-in_err-outcome-clause-says
returns-in_err-outcome-clause-says g c xs first text later left =
    let (ys, before, refused) = c.in_err-outcome.ensures.says text later left in (
      ys,
      before,
      match_gives (λ p. Confirms xs ys p) (IsAnswerError (IsRunRefusal xs ys)) c.from_residual.result (error_of_text c.in_err-outcome.field-0.0) c.from_residual.ensures.1
          (text_stops xs ys c.args.file.now c.in_err-outcome.field-0.0 first refused),
    )

pub returns-in-None-clause-says : goal.returns-in-None-clause-says
returns-in-None-clause-says g c xs first text later left =
    let (ys, before, outcome) = c.in_ok-outcome.ensures.says text later left in
    let (stimulus, spells, same, found) = outcome in (
      ys,
      before,
      found_none xs ys c.args.file.now stimulus c.in_ok-outcome.outcome.property first spells same
          (subst (λ m. IsFound m stimulus None) c.model.ensures (subst (λ o. IsFound c.model.result.now stimulus o) c.in-None.is found)),
    )

pub returns-in-Some-clause-says : goal.returns-in-Some-clause-says
returns-in-Some-clause-says g c xs first text later left =
    let (ys, before, outcome) = c.in_ok-outcome.ensures.says text later left in
    let (stimulus, spells, same, found) = outcome in (
      ys,
      before,
      found_some xs ys c.args.file.now stimulus c.in-Some.number first spells
          (subst (λ m. IsFound m stimulus (Some c.in-Some.number)) c.model.ensures (subst (λ o. IsFound c.model.result.now stimulus o) c.in-Some.is found)),
    )
