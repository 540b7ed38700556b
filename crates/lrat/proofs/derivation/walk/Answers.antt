use Rattle.base.specs.Witness.{witness}
use Rattle.std.proofs.Common.{rules, refl, sym, SFits, w32}
use Rattle.lrat.specs.Found.{found_literals}
use Rattle.lrat.specs.Lines.{LeavesOnly}
use Rattle.lrat.specs.declared.fault.Fault.TheVariants.{UnknownId, SeveralLeft, TrueAlready, EarlyConflict, OutOfMemory}
use Rattle.lrat.proofs.Fit.{read32, not_true, match_gives}
use Rattle.lrat.proofs.Hints.{found_as, named_stops, named_leads}
use Rattle.lrat.proofs.derivation.walk.Goals as goal

pub returns-in_default-clause-answer : goal.returns-in_default-clause-answer
returns-in_default-clause-answer g c =
    named_stops g.H.Hint.named _ _ _ _ c.hint-item.result c.id.result _ UnknownId c.loop-hint-test.true c.loop-hint.invariant.leads c.id.ensures c.hint-item.is (sym c.in_default.ensures.value)

pub returns-in-False-clause-answer : goal.returns-in-False-clause-answer
returns-in-False-clause-answer g c =
    named_stops g.H.Hint.named _ _ _ _ c.hint-item.result c.id.result _ EarlyConflict c.loop-hint-test.true c.loop-hint.invariant.leads c.id.ensures c.hint-item.is
    (record { clause = found_literals c.in-Some.clause; found = found_as (g.C.Lookup.find c.args.clauses.now c.id.result) (found_literals c.in-Some.clause) (found_literals c.in-Some.clause) c.in-Some.ensures.value refl; denied = c.in-False.ensures })

pub returns-in-Several-clause-answer : goal.returns-in-Several-clause-answer
returns-in-Several-clause-answer g c =
    named_stops g.H.Hint.named _ _ _ _ c.hint-item.result c.id.result _ SeveralLeft c.loop-hint-test.true c.loop-hint.invariant.leads c.id.ensures c.hint-item.is
    (found_literals c.in-Some.clause, found_as (g.C.Lookup.find c.args.clauses.now c.id.result) (found_literals c.in-Some.clause) (found_literals c.in-Some.clause) c.in-Some.ensures.value refl, c.in-Several.ensures)

pub returns-then-holds-clause-answer : goal.returns-then-holds-clause-answer
returns-then-holds-clause-answer g c =
    let only : LeavesOnly c.loop-hint.trail.literals (found_literals c.in-Some.clause) c.in-One.literal = c.in-One.ensures in
    let f : SFits w32 c.in-One.literal = search rules in
    named_stops g.H.Hint.named _ _ _ _ c.hint-item.result c.id.result _ TrueAlready c.loop-hint-test.true c.loop-hint.invariant.leads c.id.ensures c.hint-item.is
    (found_literals c.in-Some.clause, c.in-One.literal, found_as (g.C.Lookup.find c.args.clauses.now c.id.result) (found_literals c.in-Some.clause) (found_literals c.in-Some.clause) c.in-Some.ensures.value refl, only, rw (read32 _ f) at (c.holds.ensures.0 c.if-holds.true))

pub returns-in_err-set-in-One-clause-answer : goal.returns-in_err-set-in-One-clause-answer
returns-in_err-set-in-One-clause-answer g c = match_gives _ _ _ _ c.from_residual.ensures.1 (named_stops g.H.Hint.named _ _ _ _ c.hint-item.result c.id.result _ (OutOfMemory witness) c.loop-hint-test.true c.loop-hint.invariant.leads c.id.ensures c.hint-item.is tt)

pub loop-hint-preserved : goal.loop-hint-preserved
loop-hint-preserved g c =
    let only : LeavesOnly c.loop-hint.trail.literals (found_literals c.in-Some.clause) c.in-One.literal = c.in-One.ensures in
    let f : SFits w32 c.in-One.literal = search rules in
    record { vars = search rules; leads = rw (c.in_ok-set-in-One.ensures.ok, read32 _ f) (named_leads g.H.Hint.named _ _ _ _ c.hint-item.result c.id.result _ _ c.loop-hint-test.true c.loop-hint.invariant.leads c.id.ensures c.hint-item.is (record { clause = found_literals c.in-Some.clause; found = found_as (g.C.Lookup.find c.args.clauses.now c.id.result) (found_literals c.in-Some.clause) (found_literals c.in-Some.clause) c.in-Some.ensures.value refl; leaves = only; new_in = λ h. not_true c.holds.ensures.1 c.if-holds.false (rw (read32 _ f) h) })) }
