use Rattle.std.proofs.Common.{◌≡◌, ◌∙◌, refl, sym, ap, subst}
use Rattle.stimulus.specs.Shown.{ShowsLasso}
use Rattle.live_safe.specs.Laws.{lasso_from}
use Rattle.live_safe.proofs.Back.{lasso_found}
use Rattle.live_safe.proofs.Returned.{lasso_shown, not_shown}
use Rattle.live_safe.proofs.lasso.lasso_of.Goals as goal

pub returns-then-not-fits-clause-shows : goal.returns-then-not-fits-clause-shows
returns-then-not-fits-clause-shows c = λ exists shown.
    absurd (not_shown c.args.circuit.now c.parts-parts.result.now c.args.position c.args.initial.now c.args.inputs.now c.fits.result c.parts-parts.ensures.parts c.if-not-fits.true c.fits.ensures shown)

pub returns-clause-shows : goal.returns-clause-shows
returns-clause-shows c = λ exists shown.
    let same : c.in_ok-lasso.lasso ≡ lasso_from c.args.circuit.now c.args.position c.args.initial.now c.args.inputs.now =
    c.in_ok-lasso.ensures ∙ ap (λ q. lasso_from q c.args.position c.args.initial.now c.args.inputs.now) c.parts-parts.ensures.parts in (
      refl,
      subst (ShowsLasso c.args.circuit.now) (sym same)
          (lasso_shown c.args.circuit.now c.args.position (lasso_found c.args.circuit.now c.args.position c.parts-parts.ensures.well_formed exists) c.args.initial.now c.args.inputs.now shown),
    )
