use Rattle.std.proofs.Common.{◌≡◌, ◌+◌, ◌*◌, ◌∙◌, arith}
use Rattle.extension.specs.Accepted.{pair_formula}
use Rattle.checker3.proofs.sections.check_step.Goals as goal

pub check_shown-requires-clause-over : goal.check_shown-requires-clause-over
check_shown-requires-clause-over g c = rw c.after.ensures.max_var c.requires.over

pub returns-clause-says : goal.returns-clause-says
returns-clause-says g c =
    let m = c.args.claims.circuit.now in
    let once : 1 * (m.max_var + 1) ≡ m.max_var + 1 = omega arith in
    let offset : c.after.result.offset ≡ m.max_var + 1 = c.after.ensures.offset ∙ once in
    rw (c.after.ensures.max_var, offset) at (c.check_shown.ensures.says (pair_formula m c.args.claims.invariant.now) c.in_ok-refuter.ensures)
