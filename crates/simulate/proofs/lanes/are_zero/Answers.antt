use Rattle.std.proofs.Common.{arith}
use Rattle.simulate.proofs.LaneLaws.{word_is_clear}
use Rattle.simulate.proofs.lanes.are_zero.Goals as goal

pub returns-then-word-ne0 : goal.returns-then-word-ne0
returns-then-word-ne0 c =
    let is_zero = word_is_clear c.args.words.now c.loop-word.word-index (omega (arith, c.requires)) (omega (arith, c.type_inv.words c.loop-word.word-index)) in
    (λ told. absurd cc, λ clear. absurd (c.if-word-ne0.true (is_zero clear)))
