use Rattle.std.proofs.lemmas.Bool.{eq-eqb, eqb-true}
use Rattle.truth_tables.proofs.Tabled.{ignored_second, ignores_second}
use Rattle.truth_tables.proofs.table.ignores_second.Goals as goal

pub returns : goal.returns
returns c = (
  λ same. ignored_second c.args.table (eqb-true _ 0 same),
  λ h. eq-eqb _ 0 (ignores_second c.args.table c.ranges.table.fits h),
)
