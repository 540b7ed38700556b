use Rattle.verdict.proofs.Asked.{found_clauses, found_run, found_unknown}
use Rattle.verdict.proofs.Answered.{asked_there, run_meant, invariant_meant, unknown_meant}
use Rattle.verdict.proofs.asking.of_finding.Goals as goal

pub of_run-requires : goal.of_run-requires
of_run-requires c = record { there = asked_there _ _ _ c.requires.asked }

pub returns-in-Run-clause-meant : goal.returns-in-Run-clause-meant
returns-in-Run-clause-meant c so = run_meant _ _ _ c.args.budget.now _ _ _ _ c.requires.asked c.in-Run.is so c.of_run.ensures.shown

pub returns-in-Invariant-clause-meant : goal.returns-in-Invariant-clause-meant
returns-in-Invariant-clause-meant c so = invariant_meant _ _ _ c.args.budget.now c.of_clauses.new.budget _ _ _ _ c.requires.asked c.in-Invariant.is c.as_slice.ensures so c.of_clauses.ensures.meant

pub returns-in-Unknown-clause-meant : goal.returns-in-Unknown-clause-meant
returns-in-Unknown-clause-meant c so = unknown_meant _ _ _ c.args.budget.now _ _ c.well_formed-2.ensures c.requires.asked c.in-Unknown.is so

pub returns-in-Run-clause-comes : goal.returns-in-Run-clause-comes
returns-in-Run-clause-comes c = found_run _ _ c.args.budget.now _ _ _ c.of_run.result c.in-Run.is c.of_run.ensures.backed c.of_run.ensures.replayed c.of_run.ensures.shown c.of_run.ensures.memory

pub returns-in-Invariant-clause-comes : goal.returns-in-Invariant-clause-comes
returns-in-Invariant-clause-comes c =
    found_clauses _ _ c.args.budget.now c.of_clauses.new.budget _ _ _ c.of_clauses.result c.in-Invariant.is c.as_slice.ensures c.of_clauses.ensures.comes c.of_clauses.ensures.stopped c.of_clauses.ensures.spends

pub returns-in-Unknown-clause-comes : goal.returns-in-Unknown-clause-comes
returns-in-Unknown-clause-comes c = found_unknown _ _ c.args.budget.now _ _ c.in-Unknown.is
