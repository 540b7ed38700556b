use Rattle.std.proofs.Common.{◌≡◌, Some, None}
use Rattle.std.proofs.lemmas.Result.{err_from_is_err_and}
use Rattle.scan.specs.Lists.{items_at}
use Rattle.scan.proofs.Loops.{until_more, until_stops, until_fails}
use Rattle.certificate.specs.Reading.{item_at}
use Rattle.pieces.proofs.LineLaws.{rest_shorter}
use Rattle.certificate.proofs.LineLaws.{line_of_piece}
use Rattle.certificate.proofs.SectionLaws.{item_line}
use Rattle.certificate.proofs.sections.section_lines.Goals as goal

pub returns-in_err-item : goal.returns-in_err-item
returns-in_err-item c =
    let p = err_from_is_err_and c.from_residual.result c.from_residual.ensures.1 in
    let (steps, lt, so_far) = c.reading.invariant in
    rw (p.1, p.2) (until_fails item_at c.in_err-item.field-0.0 c.reading.proof steps c.reading.rest.now (items_at item_at c.args.text.now) lt c.in_err-item.ensures so_far)

pub returns-in_default : goal.returns-in_default
returns-in_default c =
    let (steps, lt, so_far) = c.reading.invariant in
    let none : item_at c.reading.rest.now ≡ Some (None, c.in_ok-item.after.now) = rw (← c.in_default.is) c.in_ok-item.ensures in
    until_stops item_at c.reading.proof steps c.reading.rest.now c.in_ok-item.after.now (items_at item_at c.args.text.now) lt none so_far

pub push_line-requires : goal.push_line-requires
push_line-requires c =
    let some : item_at c.reading.rest.now ≡ Some (Some c.in-Some.line, c.in_ok-item.after.now) = rw (← c.in-Some.is) c.in_ok-item.ensures in
    item_line c.reading.rest.now c.in_ok-item.after.now c.in-Some.line some

pub reading-preserved : goal.reading-preserved
reading-preserved c =
    let (steps, lt, so_far) = c.reading.invariant in
    let some : item_at c.reading.rest.now ≡ Some (Some c.in-Some.line, c.in_ok-item.after.now) = rw (← c.in-Some.is) c.in_ok-item.ensures in
    let less = rest_shorter line_of_piece c.reading.rest.now (Some c.in-Some.line) c.in_ok-item.after.now some in
    rw c.in_ok-push_line.ensures.ok (until_more item_at c.reading.proof steps c.reading.rest.now c.in-Some.line c.in_ok-item.after.now (items_at item_at c.args.text.now) lt less some so_far)

pub reading-smaller : goal.reading-smaller
reading-smaller c =
    let some : item_at c.reading.rest.now ≡ Some (Some c.in-Some.line, c.in_ok-item.after.now) = rw (← c.in-Some.is) c.in_ok-item.ensures in
    rest_shorter line_of_piece c.reading.rest.now (Some c.in-Some.line) c.in_ok-item.after.now some
