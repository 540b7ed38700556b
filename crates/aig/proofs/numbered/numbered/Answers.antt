use Rattle.std.proofs.lemmas.Result.{err_from_is_err_and}
use Rattle.aig.specs.Lines.{numbered_at}
use Rattle.aig.proofs.NumberedLoop.{numbered_more, numbered_fails, numbered_done}
use Rattle.aig.proofs.numbered.numbered.Goals as goal

pub returns-in_err-item : goal.returns-in_err-item
returns-in_err-item g c =
    let p = err_from_is_err_and c.from_residual.result c.from_residual.ensures.1 in
    let one = g.D.DefinitionKind.at c.args.max_var in
    rw (p.1, p.2) (numbered_fails one c.in_err-item.field-0.0 c.loop-i.items.items c.args.first c.args.count c.loop-i.i c.loop-i.rest.now (numbered_at one c.args.first c.args.count c.args.text.now) c.loop-i-test.true c.in_err-item.ensures c.loop-i.invariant)

pub loop-i-preserved : goal.loop-i-preserved
loop-i-preserved g c =
    let one = g.D.DefinitionKind.at c.args.max_var in
    rw c.in_ok-push.ensures.items (numbered_more one c.loop-i.items.items c.args.first c.args.count c.loop-i.i c.loop-i.rest.now c.in_ok-item.item c.in_ok-item.after.now (numbered_at one c.args.first c.args.count c.args.text.now) c.loop-i-test.true c.in_ok-item.ensures c.loop-i.invariant)

pub returns : goal.returns
returns g c =
    let one = g.D.DefinitionKind.at c.args.max_var in
    numbered_done one c.loop-i.items.items c.args.first c.args.count c.loop-i.i c.loop-i.rest.now (numbered_at one c.args.first c.args.count c.args.text.now) c.loop-i-test.false c.loop-i.invariant
