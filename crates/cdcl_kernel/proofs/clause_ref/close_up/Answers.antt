use Rattle.std.proofs.Common.{◌≡◌, ◌+◌, ◌-◌, ◌<◌, get_or, length, arith}
use Rattle.std.proofs.lemmas.List.{get_or_default}
use Rattle.cdcl_kernel.proofs.Closing.{closing_none, closing_more, closed_up}
use Rattle.cdcl_kernel.specs.declared.clause_ref.ClauseRef.{ClauseRef}
use Rattle.cdcl_kernel.proofs.clause_ref.close_up.Goals as goal

pub loop-index-init : goal.loop-index-init
loop-index-init c = closing_none c.args.literals.now c.args.clause_refs.now c.requires.in_order

pub loop-index-preserved : goal.loop-index-preserved
loop-index-preserved c =
    let none : ClauseRef = record { start = 0; len = 0 } in
    let p : ClauseRef = get_or c.loop-index.clause_refs c.loop-index.index none in
    let lt : c.loop-index.index < length c.args.clause_refs.now = c.loop-index-test.true in
    let len : p.start + p.len - p.start ≡ p.len = omega arith in
    let copied = rw len at c.copy_within.ensures.by_index in
    closing_more c.args.literals.now c.loop-index.literals c.copy_within.new.self c.args.clause_refs.now c.loop-index.clause_refs c.loop-index.index c.loop-index.end p lt c.requires.inside
    (get_or_default c.loop-index.clause_refs c.loop-index.index none p (omega (arith, c.loop-index.invariant.same_refs)))
    c.copy_within.ensures.len copied.0 copied.1 copied.2 c.loop-index.invariant

pub returns-clause-same : goal.returns-clause-same
returns-clause-same c = closed_up c.args.literals.now c.loop-index.literals c.args.clause_refs.now c.loop-index.clause_refs c.loop-index.index c.loop-index.end c.loop-index-test.false c.loop-index.invariant
