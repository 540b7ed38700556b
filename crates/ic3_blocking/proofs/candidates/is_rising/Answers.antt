use Rattle.std.proofs.Common.{arith}
use Rattle.ic3_blocking.proofs.Rising.{rises_more, is_not_rising, is_rising_all}
use Rattle.ic3_blocking.proofs.candidates.is_rising.Goals as goal

pub returns-then-from-next : goal.returns-then-from-next
returns-then-from-next c = is_not_rising c.args.clause.now c.comparing.lit-index c.comparing.next c.from.result _ c.comparing.invariant c.comparing-test.true c.from.ensures c.if-from-next.true

pub comparing-preserved : goal.comparing-preserved
comparing-preserved c =
    rises_more c.args.clause.now c.comparing.lit-index c.comparing.next c.from-next.result _ c.comparing.invariant c.comparing-test.true c.from-next.ensures
    (omega (arith, c.if-from-next.false, c.from.ensures, c.from-next.ensures))

pub returns : goal.returns
returns c = is_rising_all c.args.clause.now c.comparing.lit-index c.comparing.next c.comparing.invariant c.comparing-test.false
