use Rattle.std.proofs.Common.{◌∙◌, ap, arith, ◌<◌, ℕ}
use Rattle.lrat.specs.Halts.{Halts}
use Rattle.lrat.specs.Stages.{Stage}
use Rattle.lrat.specs.declared.line.Line.TheVariants.{Add}
use Rattle.lrat.proofs.Fit.{err_gives}
use Rattle.lrat.proofs.Halting.{halts_add}
use Rattle.lrat.proofs.refuter.Refuter.add.Goals as goal

pub returns-in_err-derive_hinted-clause-refused : goal.returns-in_err-derive_hinted-clause-refused
returns-in_err-derive_hinted-clause-refused c =
    let i = c.self.inside in
    let s : Stage = record { present = i.stack.present; top = i.stack.top; closed = i.closed } in
    let n : ℕ = i.stack.base.vars in
    let e = c.in_err-derive_hinted.field-0.0 in
    let above : i.stack.top < c.args.id = omega (arith, c.if-id-top.false, c.top.ensures) in
    let open_ = ap (λ u. u.stage.closed) c.self.view_is ∙ c.requires.are_open in
    rw (← c.self.view_is) (err_gives (Halts n s (Add c.args.id c.args.clause.now c.args.hints.now)) _ e c.from_residual.ensures.1
    (halts_add n s c.args.id c.args.clause.now c.args.hints.now e open_ above (c.are_positive.ensures.0 c.if-not-are_positive.false) c.in_err-derive_hinted.ensures.refused))
