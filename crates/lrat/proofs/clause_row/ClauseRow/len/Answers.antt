use Rattle.std.proofs.Common.{◌≡◌, ◌+◌, ◌*◌, ap, length, arith}
use Rattle.lrat.specs.Rows.{gate_count, rows}
use Rattle.lrat.proofs.Rowed.{length_rows}
use Rattle.lrat.proofs.clause_row.ClauseRow.len.Goals as goal

pub count_gates-requires : goal.count_gates-requires
count_gates-requires c =
    let s = c.self.inside in
    let whole : length (rows s.lists s.runs.items) ≡ length s.lists + 3 * gate_count s.runs.items = length_rows s.lists s.runs.items c.self.invariant in
    let is : length c.args.self.now ≡ length s.lists + 3 * gate_count s.runs.items = rw c.self.view_is at whole in
    let same : gate_count c.as_slice.result.now ≡ gate_count s.runs.items = ap gate_count c.as_slice.ensures.value in
    omega (arith, is, same, c.requires)

pub overflow_mul-result : goal.overflow_mul-result
overflow_mul-result c =
    let s = c.self.inside in
    let whole : length (rows s.lists s.runs.items) ≡ length s.lists + 3 * gate_count s.runs.items = length_rows s.lists s.runs.items c.self.invariant in
    let is : length c.args.self.now ≡ length s.lists + 3 * gate_count s.runs.items = rw c.self.view_is at whole in
    let same : gate_count c.as_slice.result.now ≡ gate_count s.runs.items = ap gate_count c.as_slice.ensures.value in
    omega (arith, is, same, c.count_gates.ensures, c.requires)

pub overflow_add-result : goal.overflow_add-result
overflow_add-result c =
    let s = c.self.inside in
    let whole : length (rows s.lists s.runs.items) ≡ length s.lists + 3 * gate_count s.runs.items = length_rows s.lists s.runs.items c.self.invariant in
    let is : length c.args.self.now ≡ length s.lists + 3 * gate_count s.runs.items = rw c.self.view_is at whole in
    let same : gate_count c.as_slice.result.now ≡ gate_count s.runs.items = ap gate_count c.as_slice.ensures.value in
    omega (arith, is, same, c.len.ensures, c.count_gates.ensures, c.requires)

pub returns : goal.returns
returns c =
    let s = c.self.inside in
    let whole : length (rows s.lists s.runs.items) ≡ length s.lists + 3 * gate_count s.runs.items = length_rows s.lists s.runs.items c.self.invariant in
    let is : length c.args.self.now ≡ length s.lists + 3 * gate_count s.runs.items = rw c.self.view_is at whole in
    let same : gate_count c.as_slice.result.now ≡ gate_count s.runs.items = ap gate_count c.as_slice.ensures.value in
    omega (arith, is, same, c.len.ensures, c.count_gates.ensures)
