use Rattle.std.proofs.lemmas.Bool.{eq-eqb, eqb-true}
use Rattle.truth_tables.proofs.Tabled.{ignored_fourth, ignores_fourth}
use Rattle.truth_tables.proofs.table.ignores_fourth.Goals as goal

pub returns : goal.returns
returns c = (
  λ same. ignored_fourth c.args.table (eqb-true _ 0 same),
  λ h. eq-eqb _ 0 (ignores_fourth c.args.table c.ranges.table.fits h),
)
