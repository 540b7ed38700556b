use Rattle.std.proofs.Common.{rules}
use Rattle.cdcl_log.proofs.Closings.{closing_opposed}
use Rattle.cdcl_log.proofs.closing.opposed_closing.Goals as goal

pub returns : goal.returns
returns c = λ r.
    rw (c.from_vec.ensures, c.new.ensures, c.in_ok-push-2.ensures.items, c.in_ok-push.ensures.items, c.new-denied.ensures.items)
    (closing_opposed c.args.units.now c.args.literal c.index_of-one.result c.index_of-other.result c.index_of-one.ensures.inside (search rules) c.index_of-other.ensures.inside (search rules) r)
