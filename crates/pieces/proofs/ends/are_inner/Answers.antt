use Rattle.std.proofs.Common.{sym, ◌∙◌}
use Rattle.std.proofs.lemmas.Bool.{and_parts}
use Rattle.pieces.proofs.PieceLaws.{goes_more}
use Rattle.pieces.proofs.ends.are_inner.Goals as goal

pub loop-byte-preserved : goal.loop-byte-preserved
loop-byte-preserved c are =
    let both = and_parts c.loop-byte.are c.inner-are.result are in
    goes_more c.args.bytes.now c.loop-byte.byte-index c.loop-byte-test.true (c.loop-byte.invariant both.0) (sym c.inner-are.ensures ∙ both.1)
