use Rattle.std.proofs.lemmas.Bool.{eq-eqb, eqb-true}
use Rattle.truth_tables.proofs.Cubed.{inside_by}
use Rattle.truth_tables.proofs.cube.Cube.is_inside.Goals as goal

pub returns : goal.returns
returns c =
    let both = inside_by c.args.self c.table.result c.args.table c.ranges.table.fits c.table.ensures in
    (λ h. both.0 (eqb-true _ 0 h), λ within. eq-eqb _ 0 (both.1 within))
