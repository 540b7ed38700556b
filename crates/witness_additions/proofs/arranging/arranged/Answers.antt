use Rattle.std.proofs.Common.{◌<◌, ◌≤◌, ◌&&◌, ◌∙◌, length, ap, arith}
use Rattle.witness_circuits.specs.Witnesses.{is_true, are_true}
use Rattle.witness_additions.proofs.Spread.{arranged_more, arranged_all}
use Rattle.witness_additions.proofs.arranging.arranged.Goals as goal

pub loop-k-preserved : goal.loop-k-preserved
loop-k-preserved c =
    let inside : c.loop-k.k < length c.args.clauses.now = omega (arith, c.len-k-end.ensures, c.loop-k-test.true) in
    λ w.
    arranged_more w c.args.clauses.now c.loop-k.early c.loop-k.late c.push_to.new.early c.push_to.new.late c.loop-k.k inside (c.loop-k.invariant w)
    (c.in_ok-push_to.ensures w ∙ ap (λ q. (are_true w c.loop-k.early && are_true w c.loop-k.late) && is_true w q) c.list.ensures)

pub returns : goal.returns
returns c =
    let whole : length c.args.clauses.now ≤ c.loop-k.k = omega (arith, c.len-k-end.ensures, c.loop-k-test.false) in
    arranged_all c.args.clauses.now c.loop-k.early c.loop-k.late c.append.new.to c.loop-k.k whole c.loop-k.invariant c.in_ok-append.ensures
