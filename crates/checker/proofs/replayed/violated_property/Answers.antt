use Rattle.std.proofs.Common.{refl}
use Rattle.aiger.proofs.LayoutLaws.{match_gives}
use Rattle.checker.specs.Replayed.{Confirms, IsRunRefusal}
use Rattle.checker.specs.AnswerErrors.{IsAnswerError, error_of_load}
use Rattle.checker.proofs.Said.{load_stops}
use Rattle.checker.proofs.StimulusLaws.{first_stops}
use Rattle.checker.proofs.replayed.violated_property.Goals as goal

pub returns-in_err-file-clause-says : goal.returns-in_err-file-clause-says
returns-in_err-file-clause-says g c text later left =
    let (xs, first, refused) = c.in_err-file.ensures.says text later left in (
      xs,
      first,
      λ other rest end. (
        rest,
        end,
        match_gives (λ p. Confirms xs rest p) (IsAnswerError (IsRunRefusal xs rest)) c.from_residual.result (error_of_load c.in_err-file.field-0.0) c.from_residual.ensures.1
            (first_stops xs rest (error_of_load c.in_err-file.field-0.0) (load_stops xs c.in_err-file.field-0.0 refused)),
      ),
    )

pub returns-in_err-file-clause-unread : goal.returns-in_err-file-clause-unread
returns-in_err-file-clause-unread g c text later left =
    let (xs, first, refused) = c.in_err-file.ensures.says text later left in
    (xs, first, λ none. refl)

pub returns-clause-says : goal.returns-clause-says
returns-clause-says g c text later left =
    let (xs, first, file) = c.in_ok-file.ensures.says text later left in
    (xs, first, c.violated_property_of.ensures.says xs file)

pub returns-clause-unread : goal.returns-clause-unread
returns-clause-unread g c text later left =
    let (xs, first, file) = c.in_ok-file.ensures.says text later left in
    (xs, first, λ none. absurd (none c.in_ok-file.file file.spells))
