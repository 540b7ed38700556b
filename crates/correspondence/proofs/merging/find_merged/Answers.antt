use Rattle.std.proofs.Common.{All, subst, sym}
use Rattle.cnf.specs.Formulas.{IsOverLatches}
use Rattle.merged.proofs.Runs.{overs}
use Rattle.correspondence.proofs.Carried.{answered_plain}
use Rattle.correspondence.proofs.merging.find_merged.Goals as goal

pub merge-requires : goal.merge-requires
merge-requires g c =
    let m = c.args.circuit.now in
    subst (All (IsOverLatches m)) (sym c.as_slice.ensures) (overs m c.args.clauses c.requires.inductive_in)

pub returns-in-None-clause-answered : goal.returns-in-None-clause-answered
returns-in-None-clause-answered g c =
    answered_plain (g.E.Engine.answers c.args.inner.now) c.args.circuit.now c.args.budget.now c.find.new.budget c.find.result c.find.ensures.answered
