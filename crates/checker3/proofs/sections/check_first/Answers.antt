use Rattle.std.proofs.Common.{arith}
use Rattle.extension.specs.Accepted.{begin_formula}
use Rattle.checker3.proofs.sections.check_first.Goals as goal

pub check_shown-requires-clause-fits : goal.check_shown-requires-clause-fits
check_shown-requires-clause-fits g c =
    let small = c.well_formed-2.ensures.limits.max_var in
    let e = c.first.ensures.max_var in
    let z = c.first.ensures.offset in
    omega (arith, small, e, z)

pub check_shown-requires-clause-over : goal.check_shown-requires-clause-over
check_shown-requires-clause-over g c = rw c.first.ensures.max_var c.requires.over

pub returns-clause-says : goal.returns-clause-says
returns-clause-says g c = rw (c.first.ensures.max_var, c.first.ensures.offset) at (c.check_shown.ensures.says (begin_formula c.args.claims.circuit.now) c.in_ok-refuter.ensures)
