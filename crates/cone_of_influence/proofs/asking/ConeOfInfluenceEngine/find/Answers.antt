use Rattle.cone_of_influence.proofs.Laws.{answered_plain}
use Rattle.cone_of_influence.proofs.asking.ConeOfInfluenceEngine.find.Goals as goal

pub returns-in-None-clause-answered : goal.returns-in-None-clause-answered
returns-in-None-clause-answered g c =
    answered_plain (g.E.Engine.answers c.args.self.now.inner) c.args.circuit.now c.args.budget.now c.find.new.budget c.find.result c.find.ensures.answered
