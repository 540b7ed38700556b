use Rattle.std.proofs.Common.{Ok, ap, subst, sym}
use Rattle.engine.specs.Findings.{IsSo}
use Rattle.correspondence.proofs.Carried.{for_bad, carried_so, answered_merged}
use Rattle.correspondence.proofs.merging.find_in.Goals as goal

pub find-requires : goal.find-requires
find-requires g c = for_bad c.args.circuit.now c.args.merged.now c.args.clauses c.requires.merged c.requires.for_bad

pub returns-in_ok-carried-in-Ok-clause-so : goal.returns-in_ok-carried-in-Ok-clause-so
returns-in_ok-carried-in-Ok-clause-so g c = λ honest.
    let m = c.args.circuit.now in
    subst (IsSo m c.find.new.budget) (sym c.in_ok-carried-in-Ok.ensures)
    (carried_so m c.args.merged.now c.args.clauses c.find.new.budget c.in-Ok.finding c.requires.laws c.requires.inductive_in (c.in-Ok.ensures.so honest))

pub returns-in_ok-carried-in-Ok-clause-answered : goal.returns-in_ok-carried-in-Ok-clause-answered
returns-in_ok-carried-in-Ok-clause-answered g c =
    answered_merged (g.E.Engine.answers c.args.inner.now) c.args.circuit.now c.args.merged.now c.args.clauses c.args.budget.now c.find.new.budget
    (Ok c.in-Ok.finding) (Ok c.in_ok-carried-in-Ok.field-0) c.requires.inductive_in c.requires.merged c.in-Ok.ensures.answered (ap Ok c.in_ok-carried-in-Ok.ensures)
