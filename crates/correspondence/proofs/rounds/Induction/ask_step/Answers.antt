use Rattle.std.proofs.Common.{List, ℤ}
use Rattle.solver.specs.Answers.{IsCore}
use Rattle.correspondence.proofs.Asked.{core_contradicts}
use Rattle.correspondence.proofs.rounds.Induction.ask_step.Goals as goal

pub returns-in-Core-clause-holds : goal.returns-in-Core-clause-holds
returns-in-Core-clause-holds g c holds =
    let cs : List (List ℤ) = g.S.Sat.clauses c.args.solver.now in
    let core : List ℤ = c.in-Core.field-0.items in
    let is : IsCore cs c.args.question.now.units.items core = rw c.in-Core.is at c.in_ok-answer.ensures.core in
    core_contradicts cs c.args.question.now.units.items core is
