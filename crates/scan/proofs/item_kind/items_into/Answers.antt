use Rattle.std.proofs.Common.{◌≡◌, Some, arith}
use Rattle.std.proofs.lemmas.Result.{err_from_is_err_and}
use Rattle.scan.specs.Lists.{items_at}
use Rattle.scan.proofs.Loops.{until_more, until_stops, until_fails}
use Rattle.scan.proofs.item_kind.items_into.Goals as goal

pub returns-in_err-item-clause-value : goal.returns-in_err-item-clause-value
returns-in_err-item-clause-value g c =
    let p = err_from_is_err_and c.from_residual.result c.from_residual.ensures.1 in
    let (steps, lt, so_far) = c.reading.invariant.reads in
    rw (p.1, p.2) (until_fails (g.L.ItemKind.at c.args.context) c.in_err-item.field-0.0 c.reading.items.items steps c.reading.rest.now (items_at (g.L.ItemKind.at c.args.context) c.args.text.now) lt c.in_err-item.ensures.value so_far)

pub returns-in-None-clause-value : goal.returns-in-None-clause-value
returns-in-None-clause-value g c =
    let (steps, lt, so_far) = c.reading.invariant.reads in
    until_stops (g.L.ItemKind.at c.args.context) c.reading.items.items steps c.reading.rest.now c.in_ok-item.after.now (items_at (g.L.ItemKind.at c.args.context) c.args.text.now) lt (rw (← c.in-None.is) c.in_ok-item.ensures.value) so_far

pub reading-preserved : goal.reading-preserved
reading-preserved g c =
    let one = g.L.ItemKind.at c.args.context in
    let (steps, lt, so_far) = c.reading.invariant.reads in
    let some : one c.reading.rest.now ≡ Some (Some c.in-Some.item, c.in_ok-item.after.now) = rw (← c.in-Some.is) c.in_ok-item.ensures.value in
    let less = c.in_ok-item.ensures.shorter in
    record {
      within = omega (arith, less, c.reading.invariant.within);
      reads = rw c.in_ok-push-in-Some.ensures.items (until_more one c.reading.items.items steps c.reading.rest.now c.in-Some.item c.in_ok-item.after.now (items_at one c.args.text.now) lt less some so_far);
    }
