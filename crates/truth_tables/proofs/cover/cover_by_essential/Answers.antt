use Rattle.std.proofs.Common.{sym, subst}
use Rattle.truth_tables.specs.Cubes.{IsPartly}
use Rattle.truth_tables.proofs.Cubed.{partly_none}
use Rattle.truth_tables.proofs.cover.cover_by_essential.Goals as goal

pub loop-row-init : goal.loop-row-init
loop-row-init c = subst (IsPartly c.args.table 0) (sym c.requires) (partly_none c.args.table)
