use Rattle.std.proofs.Common.{None, Some, subst}
use Rattle.aiger.proofs.LayoutLaws.{match_gives}
use Rattle.checker.specs.AnyVersion.{IsFoundOf}
use Rattle.checker.specs.Verdicts.{Accepts, IsRefusal}
use Rattle.checker.specs.AnswerErrors.{IsAnswerError, error_of_reader}
use Rattle.checker.proofs.SourceLaws.{found_none, found_some, reader_stops}
use Rattle.checker.proofs.certified.safe_property_of.Goals as goal

pub returns-in_err-outcome-clause-says : goal.returns-in_err-outcome-clause-says
returns-in_err-outcome-clause-says g c xs first text later left =
    let (ys, before, refused) = c.in_err-outcome.ensures.says text later left in (
      ys,
      before,
      match_gives (λ p. Accepts xs ys p) (IsAnswerError (IsRefusal xs ys)) c.from_residual.result (error_of_reader c.in_err-outcome.field-0.0) c.from_residual.ensures.1
          (reader_stops xs ys c.args.file.now c.in_err-outcome.field-0.0 first refused),
    )

pub returns-in-None-clause-says : goal.returns-in-None-clause-says
returns-in-None-clause-says g c xs first text later left =
    let (ys, before, outcome) = c.in_ok-outcome.ensures.says text later left in
    let (cert, spells, same, found) = outcome in (
      ys,
      before,
      found_none xs ys c.args.file.now cert c.in_ok-outcome.outcome.property first spells same
          (subst (λ m. IsFoundOf m cert None) c.model.ensures (subst (λ o. IsFoundOf c.model.result.now cert o) c.in-None.is found)),
    )

pub returns-in-Some-clause-says : goal.returns-in-Some-clause-says
returns-in-Some-clause-says g c xs first text later left =
    let (ys, before, outcome) = c.in_ok-outcome.ensures.says text later left in
    let (cert, spells, same, found) = outcome in (
      ys,
      before,
      found_some xs ys c.args.file.now cert c.in-Some.number first spells
          (subst (λ m. IsFoundOf m cert (Some c.in-Some.number)) c.model.ensures (subst (λ o. IsFoundOf c.model.result.now cert o) c.in-Some.is found)),
    )
