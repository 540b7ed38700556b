use Rattle.std.proofs.Common.{[], ◌+◌, get_or, arith}
use Rattle.std.proofs.lemmas.List.{get_or_default}
use Rattle.lrat.specs.declared.run.Run.{Run}
use Rattle.lrat.proofs.Rowed.{gates_more, gates_within}
use Rattle.lrat.proofs.clause_row.count_gates.Goals as goal

pub overflow_add-count : goal.overflow_add-count
overflow_add-count c =
    let none : Run = record { lists = 0; gates = record { ref_ptr = (0, 0); now = [] }; shift = 0 } in
    let k = c.loop-run.run-index in
    let r : Run = get_or c.args.runs.now k none in
    let more = gates_more c.args.runs.now k r c.loop-run-test.true (get_or_default c.args.runs.now k none r c.loop-run-test.true) in
    let within = gates_within c.args.runs.now (k + 1) in
    omega (arith, more, within, c.loop-run.invariant, c.requires)

pub loop-run-preserved : goal.loop-run-preserved
loop-run-preserved c =
    let none : Run = record { lists = 0; gates = record { ref_ptr = (0, 0); now = [] }; shift = 0 } in
    let k = c.loop-run.run-index in
    let r : Run = get_or c.args.runs.now k none in
    let more = gates_more c.args.runs.now k r c.loop-run-test.true (get_or_default c.args.runs.now k none r c.loop-run-test.true) in
    omega (arith, more, c.loop-run.invariant)
