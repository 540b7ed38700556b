use Rattle.std.proofs.Common.{rules, sym, SFits, w32}
use Rattle.lrat.proofs.Fit.{read32}
use Rattle.ic3_step.proofs.Parted.{and_turned}
use Rattle.ic3_step.proofs.costs.cheaper_first.Goals as goal

pub returns-clause-gate : goal.returns-clause-gate
returns-clause-gate c = λ v turned.
    let f1 : SFits w32 c.args.gate.lhs = search rules in
    let f2 : SFits w32 c.args.gate.rhs0 = search rules in
    let f3 : SFits w32 c.args.gate.rhs1 = search rules in
    and_turned v c.args.gate (rw (sym (read32 c.args.gate.lhs f1), sym (read32 c.args.gate.rhs0 f2), sym (read32 c.args.gate.rhs1 f3)) turned)

pub returns-clause-same : goal.returns-clause-same
returns-clause-same c = λ v and.
    let f1 : SFits w32 c.args.gate.lhs = search rules in
    let f2 : SFits w32 c.args.gate.rhs0 = search rules in
    let f3 : SFits w32 c.args.gate.rhs1 = search rules in
    rw (read32 c.args.gate.lhs f1, read32 c.args.gate.rhs0 f2, read32 c.args.gate.rhs1 f3) (and_turned v (record { lhs = c.args.gate.lhs; rhs0 = c.args.gate.rhs1; rhs1 = c.args.gate.rhs0 }) and)
