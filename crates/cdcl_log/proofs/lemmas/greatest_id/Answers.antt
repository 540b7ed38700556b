use Rattle.std.proofs.Common.{rules, ◌≡◌, ◌-◌, Some, length}
use Rattle.std.specs.List.{slice_get}
use Rattle.lrat.specs.declared.line.Line.TheVariants.{Add}
use Rattle.cdcl_log.proofs.Closings.{greatest_last}
use Rattle.cdcl_log.proofs.lemmas.greatest_id.Goals as goal

pub returns-in-Some-Add : goal.returns-in-Some-Add
returns-in-Some-Add c = λ n s t begins added along.
    let last : Some (Add c.in-Some-Add.id c.in-Some-Add.field-0-1 c.in-Some-Add.field-0-2) ≡ slice_get c.args.lines.now (length c.args.lines.now - 1) = search rules in
    greatest_last n c.args.lines.now s t c.in-Some-Add.id c.in-Some-Add.field-0-1 c.in-Some-Add.field-0-2 last along
