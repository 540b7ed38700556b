use Rattle.std.proofs.Common.{Ok, ap, subst, sym}
use Rattle.engine.specs.Findings.{IsSo}
use Rattle.cone_of_influence.proofs.Laws.{for_bad_too, carried_so, answered_reduced}
use Rattle.cone_of_influence.proofs.asking.find_in.Goals as goal

pub find-requires : goal.find-requires
find-requires g c = for_bad_too c.args.circuit.now c.args.part.now.circuit c.args.part.now.tables c.requires.reduced c.requires.for_bad

pub returns-in_ok-carry-in-Ok-clause-so : goal.returns-in_ok-carry-in-Ok-clause-so
returns-in_ok-carry-in-Ok-clause-so g c = λ honest.
    let m = c.args.circuit.now in
    subst (IsSo m c.find.new.budget) (sym c.in_ok-carry-in-Ok.ensures)
    (carried_so m c.args.part.now.circuit c.args.part.now.tables c.find.new.budget c.in-Ok.finding c.requires.laws (c.in-Ok.ensures.so honest))

pub returns-in_ok-carry-in-Ok-clause-answered : goal.returns-in_ok-carry-in-Ok-clause-answered
returns-in_ok-carry-in-Ok-clause-answered g c =
    answered_reduced (g.E.Engine.answers c.args.inner.now) c.args.circuit.now c.args.part.now.circuit c.args.part.now.tables c.args.budget.now c.find.new.budget
    (Ok c.in-Ok.finding) (Ok c.in_ok-carry-in-Ok.field-0) c.requires.reduced c.in-Ok.ensures.answered (ap Ok c.in_ok-carry-in-Ok.ensures)
