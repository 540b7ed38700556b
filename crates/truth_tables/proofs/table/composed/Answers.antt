use Rattle.std.proofs.Common.{◌∙◌}
use Rattle.truth_tables.proofs.Tabled.{selected_all}
use Rattle.truth_tables.proofs.table.composed.Goals as goal

pub returns : goal.returns
returns c = λ a b p d.
    c.selected.ensures a b p d ∙
    rw (c.of_three.ensures a b p d, c.of_three-2.ensures a b p d) (selected_all _ _ _ _ c.args.table)
