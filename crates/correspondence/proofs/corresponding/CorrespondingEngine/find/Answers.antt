use Rattle.std.proofs.Common.{rules}
use Rattle.base.specs.Budget.{Spends}
use Rattle.correspondence.proofs.Carried.{answered_later}
use Rattle.correspondence.proofs.corresponding.CorrespondingEngine.find.Goals as goal

pub returns-in-Some-Inductive-clause-answered : goal.returns-in-Some-Inductive-clause-answered
returns-in-Some-Inductive-clause-answered g c =
    let spent : Spends c.args.budget.now c.spend.new.self = search rules in
    answered_later (g.E.Engine.answers c.args.self.now.inner) c.args.circuit.now c.args.budget.now c.spend.new.self c.find_merged.new.budget c.find_merged.result
    spent c.find_merged.ensures.answered
