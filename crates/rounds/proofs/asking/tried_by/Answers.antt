use Rattle.rounds.proofs.Engines.{clauses_meant, for_bad, run_meant, unknown_meant}
use Rattle.rounds.proofs.asking.tried_by.Goals as goal

pub find-requires : goal.find-requires
find-requires g c = for_bad c.args.circuit.now c.args.counter.now c.args.position c.args.rounds c.requires.counter

pub of_clauses-requires-clause-for_bad : goal.of_clauses-requires-clause-for_bad
of_clauses-requires-clause-for_bad g c = for_bad c.args.circuit.now c.args.counter.now c.args.position c.args.rounds c.requires.counter

pub returns-in-Run-clause-meant : goal.returns-in-Run-clause-meant
returns-in-Run-clause-meant g c honest =
    run_meant c.args.circuit.now c.args.counter.now c.args.position c.args.rounds c.find.new.budget c.find.new.budget _ _ _ _ c.in-Run.is (c.in_ok-initial.ensures.so honest) c.of_run.ensures.exceeded

pub returns-in-Invariant-clause-meant : goal.returns-in-Invariant-clause-meant
returns-in-Invariant-clause-meant g c honest =
    clauses_meant c.args.circuit.now c.args.counter.now c.args.position c.args.rounds c.find.new.budget c.of_clauses.new.budget _ _ _ _ c.requires.counter c.in-Invariant.is c.as_slice.ensures
    (c.in_ok-initial.ensures.so honest) c.of_clauses.ensures.meant

pub returns-in-Unknown-clause-meant : goal.returns-in-Unknown-clause-meant
returns-in-Unknown-clause-meant g c honest =
    unknown_meant c.args.circuit.now c.args.counter.now c.args.position c.args.rounds c.find.new.budget _ _ _ c.requires.counter c.in-Unknown.is (c.in_ok-initial.ensures.so honest) c.cause_of.ensures
