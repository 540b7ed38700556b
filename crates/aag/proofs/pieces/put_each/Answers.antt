use Rattle.std.proofs.Common.{subst}
use Rattle.std.specs.List.{flat_map}
use Rattle.std.specs.Io.KnownBytes.{Appends}
use Rattle.std.proofs.lemmas.List.{take_all}
use Rattle.base.specs.Devices.{PutsBeginning}
use Rattle.base.proofs.Putting.{begins_at, puts_err}
use Rattle.aag.proofs.pieces.put_each.Goals as goal

pub returns-in_err-put-clause-puts : goal.returns-in_err-put-clause-puts
returns-in_err-put-clause-puts g c =
    let text = g.P.Piece.text in
    let before = g.W.Sink.contents c.args.out.now in
    let between = g.W.Sink.contents c.loop-item.out in
    let after = g.W.Sink.contents c.put.new.out in
    let begun = subst (λ item. PutsBeginning between after (text item)) c.item-item.is c.in_err-put.ensures.puts in
    puts_err c.from_residual.result _ _ _ c.from_residual.ensures.0
    (begins_at text c.args.items.now c.loop-item.item-index c.item-item.result before between after c.loop-item-test.true c.loop-item.invariant.appended begun)

pub returns-clause-puts : goal.returns-clause-puts
returns-clause-puts g c =
    let before = g.W.Sink.contents c.args.out.now in
    let after = g.W.Sink.contents c.loop-item.out in
    subst (λ items. Appends before after (flat_map g.P.Piece.text items)) (take_all _ _ c.loop-item-test.false) c.loop-item.invariant.appended
