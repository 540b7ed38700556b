use Rattle.std.proofs.Common.{sym, subst}
use Rattle.stimulus.proofs.RowLaws.{err_at}
use Rattle.trace.specs.Traces.{HasTraceCause}
use Rattle.trace.proofs.TraceLaws.{no_trace}
use Rattle.trace.proofs.table.put_trace.Goals as goal

pub returns-in_err-property-clause-refused : goal.returns-in_err-property-clause-refused
returns-in_err-property-clause-refused g c =
    let before = g.W.Sink.contents c.args.out.now in
    let none = c.in_err-property.ensures.none in
    let stands = no_trace c.args.file.now c.args.all c.args.stimulus.now before before none.1 in
    err_at c.from_residual.result c.in_err-property.field-0.0 (HasTraceCause c.args.file.now c.args.all c.args.stimulus.now before before) c.from_residual.ensures.1
    (subst (HasTraceCause c.args.file.now c.args.all c.args.stimulus.now before before) (sym none.0) stands)
