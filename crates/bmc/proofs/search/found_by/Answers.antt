use Rattle.std.proofs.Common.{Some, refl, sym, subst}
use Rattle.solver.specs.declared.answer.Answer.{Answer}
use Rattle.bmc.specs.Depths.{IsFoundBy}
use Rattle.bmc.proofs.search.found_by.Goals as goal

pub returns-in-Model : goal.returns-in-Model
returns-in-Model c =
    let run = c.in_ok-run-in-Model.run' in
    subst (λ (a : Answer). IsFoundBy c.args.circuit.now c.args.steps a (Some run)) (sym c.in-Model.is) (run, refl, c.in_ok-run-in-Model.ensures)
