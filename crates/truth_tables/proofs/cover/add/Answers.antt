use Rattle.std.proofs.Common.{◌∙◌, Bool, true, if◌then◌else◌, bit_or, sym, ap, subst}
use Rattle.truth_tables.specs.Tables.{value}
use Rattle.truth_tables.specs.Cubes.{IsPartly}
use Rattle.truth_tables.proofs.Tabled.{value_or}
use Rattle.truth_tables.proofs.Cubed.{partly_more}
use Rattle.truth_tables.proofs.cover.add.Goals as goal

adds : goal.returns-clause-adds
adds c = λ a b p d.
    value_or c.args.covered c.table.result a b p d ∙ ap (λ (x : Bool). if value c.args.covered a b p d then true else x) (c.table.ensures a b p d)

pub returns-clause-adds : goal.returns-clause-adds
returns-clause-adds c = adds c

pub returns-clause-partly : goal.returns-clause-partly
returns-clause-partly c =
    subst (IsPartly c.args.table (bit_or c.args.covered c.table.result)) (sym c.in_ok-push.ensures.items)
    (partly_more c.args.table c.args.covered (bit_or c.args.covered c.table.result) c.args.cubes.now.items c.args.cube c.requires.partly c.requires.inside (adds c))
