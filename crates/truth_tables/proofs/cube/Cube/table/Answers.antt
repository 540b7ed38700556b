use Rattle.truth_tables.proofs.Tabled.{value_first, value_second, value_third, value_fourth}
use Rattle.truth_tables.proofs.Cubed.{is_in_by}
use Rattle.truth_tables.proofs.cube.Cube.table.Goals as goal

pub returns : goal.returns
returns c = λ a b p d.
    rw (
      c.conjunction.ensures a b p d,
      c.conjunction-low.ensures a b p d,
      c.conjunction-high.ensures a b p d,
      c.table.ensures a b p d,
      c.table-2.ensures a b p d,
      c.table-3.ensures a b p d,
      c.table-4.ensures a b p d,
      value_first a b p d,
      value_second a b p d,
      value_third a b p d,
      value_fourth a b p d,
    )
    (is_in_by c.args.self a b p d)
