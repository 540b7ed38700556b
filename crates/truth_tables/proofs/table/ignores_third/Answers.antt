use Rattle.std.proofs.lemmas.Bool.{eq-eqb, eqb-true}
use Rattle.truth_tables.proofs.Tabled.{ignored_third, ignores_third}
use Rattle.truth_tables.proofs.table.ignores_third.Goals as goal

pub returns : goal.returns
returns c = (
  λ same. ignored_third c.args.table (eqb-true _ 0 same),
  λ h. eq-eqb _ 0 (ignores_third c.args.table c.ranges.table.fits h),
)
