use Rattle.std.proofs.Common.{◌≡◌, None}
use Rattle.std.specs.FinMap as fin
use Rattle.lrat.specs.Refusals.{IsRefusedLine}
use Rattle.lrat.specs.declared.fault.Fault.{Fault}
use Rattle.lrat.proofs.Fit.{if_err}
use Rattle.lrat.proofs.refuter.Refuter.shows.Goals as goal

pub returns-clause-refused : goal.returns-clause-refused
returns-clause-refused c =
    let i = c.self.inside in
    let P : Fault → Type 0 = IsRefusedLine i.stack.base.vars (fin.get i.stack.present) c.args.clause.now c.args.hints.now in
    rw (← c.self.view_is) (if_err P (λ e. i.refusal ≡ None → P e) c.derive_with.result (λ e h first. h) c.derive_with.ensures.refused)
