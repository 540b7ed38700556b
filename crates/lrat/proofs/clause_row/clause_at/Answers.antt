use Rattle.std.proofs.Common.{◌∙◌, ◌-◌, ◌*◌, ◌/◌, ℕ, [], sym, arith, get_or}
use Rattle.std.proofs.lemmas.List.{get_or_default}
use Rattle.lrat.specs.declared.run.Run.{Run}
use Rattle.lrat.proofs.Rowed.{left_before, left_gate, left_behind}
use Rattle.lrat.proofs.clause_row.clause_at.Goals as goal
use Rattle.lrat.proofs.clause_row.clause_at.Goals.{then-left-run+else-behind-count, else-left-run}

pub returns-then-behind-count : goal.returns-then-behind-count
returns-then-behind-count c =
    let none : Run = record { lists = 0; gates = record { ref_ptr = (0, 0); now = [] }; shift = 0 } in
    let k = c.loop-run.run-index in
    let r : Run = get_or c.args.runs.now k none in
    let behind : ℕ = c.loop-run.left - r.lists in
    let found = left_gate c.args.lists.now c.args.runs.now c.args.index k c.loop-run.left (behind / 3) (behind - 3 * (behind / 3)) r _ c.loop-run-test.true (get_or_default c.args.runs.now k none r c.loop-run-test.true) c.loop-run.invariant
    c.if-left-run.true (omega (arith, c.if-behind-count.true)) (omega arith) (omega arith) in
    c.moved_clause.ensures ∙ sym found

pub loop-run-preserved : goal.loop-run-preserved
loop-run-preserved c =
    let none : Run = record { lists = 0; gates = record { ref_ptr = (0, 0); now = [] }; shift = 0 } in
    let k = c.loop-run.run-index in
    let r : Run = get_or c.args.runs.now k none in
    let at = get_or_default c.args.runs.now k none r c.loop-run-test.true in
    elim c.if-left-run.branch [
      | then-left-run+else-behind-count w ↦ left_behind c.args.lists.now c.args.runs.now c.args.index k c.loop-run.left c.if-left-run.left r c.loop-run-test.true at c.loop-run.invariant (omega (arith, w.if-left-run.true, w.if-behind-count.false)) (omega (arith, w.left-is))
      | else-left-run w ↦ rw w.left-is (left_before c.args.lists.now c.args.runs.now c.args.index k c.loop-run.left r c.loop-run-test.true at c.loop-run.invariant (omega (arith, w.if-left-run.false)))
    ]
