use Rattle.std.proofs.Common.{sym, subst}
use Rattle.ic3_step.specs.Contents.{Contents, IsLoaded}
use Rattle.ic3_step.proofs.transition.Transition.ask.Goals as goal

pub returns-clause-lawful : goal.returns-clause-lawful
returns-clause-lawful g c = λ n gs loaded.
    let m = c.args.circuit.now in
    let solver = c.self.inside.solver in
    c.ask.ensures.lawful n gs
    (subst (λ o. let told : Contents = record { vars = g.S.Sat.vars solver; clauses = g.S.Sat.clauses solver; cone = o } in IsLoaded m n gs told) c.in-Some.is
    (subst (IsLoaded m n gs) (sym c.self.view_is) loaded))
