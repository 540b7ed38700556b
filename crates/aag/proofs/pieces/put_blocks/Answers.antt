use Rattle.std.proofs.Common.{◌≡◌, ◌∙◌, ◌-◌, ◌++◌, rules, arith, flat_map, length, take, drop, subst}
use Rattle.std.specs.Io.KnownBytes.{Appends}
use Rattle.std.proofs.lemmas.List.{length-drop, take_all}
use Rattle.base.specs.Devices.{PutsBeginning}
use Rattle.base.proofs.Putting.{puts_err}
use Rattle.aag.proofs.PieceLaws.{block_fails, block_next}
use Rattle.aag.proofs.pieces.put_blocks.Goals as goal

pub returns-in_err-put_all-clause-puts : goal.returns-in_err-put_all-clause-puts
returns-in_err-put_all-clause-puts g c =
    let text = g.P.ShortPiece.text in
    let before = g.W.Sink.contents c.args.out.now in
    let between = g.W.Sink.contents c.putting.out in
    let after = g.W.Sink.contents c.put_all.new.out in
    let (done, whole, appended) = c.putting.invariant.1 in
    let some = c.split_at.result.0.now in
    let later = c.split_at.result.1.now in
    let split : some ++ later ≡ c.putting.rest.now = search rules in
    let start = c.write_block-start.result in
    let block = c.write_block-start.new.block in
    let long : length block ≡ 3960 = search rules in
    let whole_block : take (3960 - start) (drop start block) ≡ flat_map text some = take_all (3960 - start) (drop start block) (omega (arith, length-drop start block, long)) ∙ c.write_block-start.ensures.written in
    let begun : PutsBeginning between after (flat_map text some) = subst (PutsBeginning between after) whole_block c.in_err-put_all.ensures.beginning in
    puts_err c.from_residual.result _ _ _ (search rules) (block_fails text done some later c.putting.rest.now c.args.items.now before between after whole split appended begun)

pub putting-preserved : goal.putting-preserved
putting-preserved g c =
    let text = g.P.ShortPiece.text in
    let before = g.W.Sink.contents c.args.out.now in
    let between = g.W.Sink.contents c.putting.out in
    let after = g.W.Sink.contents c.put_all.new.out in
    let (done, whole, appended) = c.putting.invariant.1 in
    let some = c.split_at.result.0.now in
    let later = c.split_at.result.1.now in
    let split : some ++ later ≡ c.putting.rest.now = search rules in
    let start = c.write_block-start.result in
    let block = c.write_block-start.new.block in
    let long : length block ≡ 3960 = search rules in
    let whole_block : take (3960 - start) (drop start block) ≡ flat_map text some = take_all (3960 - start) (drop start block) (omega (arith, length-drop start block, long)) ∙ c.write_block-start.ensures.written in
    let put : Appends between after (flat_map text some) = subst (Appends between after) whole_block c.in_ok-put_all.ensures.whole in
    let next = block_next text done some later c.putting.rest.now c.args.items.now before between after whole split appended put in
    (search rules, (done ++ some, next.0, next.1))
