use Rattle.std.proofs.Common.{◌≡◌, ◌≤◌, ◌∙◌, length, Err, sym, ap, subst, arith}
use Rattle.aiger.specs.Layouts.{SpellsFile, IsRefusalNumber}
use Rattle.aiger.specs.Loading.{IsFileOf, IsRefusal}
use Rattle.aiger.specs.declared.load_error.LoadError.TheVariants.{Refused}
use Rattle.graph.specs.Refusals.{number_of}
use Rattle.aiger.proofs.LayoutLaws.{match_gives, refused}
use Rattle.aiger.proofs.loading.load.Goals as goal

pub returns-in_err-file-clause-says : goal.returns-in_err-file-clause-says
returns-in_err-file-clause-says g c text later left =
    let (xs, before, is) = c.in-Ok.ensures.reads text later left in
    let read = is.0 in
    let whole : c.as_slice.result.now ≡ xs = c.as_slice.ensures.value ∙ read in
    let short : length xs ≤ 67108864 = subst (λ t. length t ≤ 67108864) read c.in-Ok.ensures.within in (
      xs,
      before,
      match_gives (IsFileOf xs) (IsRefusal xs) c.from_residual.result (Refused c.in_err-file.field-0.0) c.from_residual.ensures.1
          (refused xs c.in_err-file.field-0.0 (λ f spells. c.in_err-file.ensures.only f (subst (λ t. SpellsFile t f) (sym whole) spells))
          (subst (λ t. IsRefusalNumber t (number_of c.in_err-file.field-0.0)) whole c.in_err-file.ensures.refusals)
          short
          (λ is. let long = c.in_err-file.ensures.too_long.0 (ap Err is) in omega (arith, long, short, ap length whole))),
    )

pub returns-clause-says : goal.returns-clause-says
returns-clause-says g c text later left =
    let (xs, before, is) = c.in-Ok.ensures.reads text later left in
    let read = is.0 in
    let whole : c.as_slice.result.now ≡ xs = c.as_slice.ensures.value ∙ read in (
      xs,
      before,
      record {
        spells = subst (λ t. SpellsFile t c.in_ok-file.file) whole c.in_ok-file.ensures.found;
        only = λ f spells. sym (c.in_ok-file.ensures.only f (subst (λ t. SpellsFile t f) (sym whole) spells));
      },
    )

pub returns-clause-ended : goal.returns-clause-ended
returns-clause-ended g c text later left =
    let (xs, before, is) = c.in-Ok.ensures.reads text later left in
    is.1
