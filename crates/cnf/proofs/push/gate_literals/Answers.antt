use Rattle.std.proofs.Common.{rules, SFits, w32, refl}
use Rattle.lrat.proofs.Fit.{read32}
use Rattle.cnf.proofs.push.gate_literals.Goals as goal

pub returns : goal.returns
returns c =
    let f : SFits w32 c.literal.result = search rules in
    let f2 : SFits w32 c.literal-2.result = search rules in
    let f3 : SFits w32 c.literal-3.result = search rules in
    rw (read32 _ f, read32 _ f2, read32 _ f3, c.literal.ensures, c.literal-2.ensures, c.literal-3.ensures) refl
