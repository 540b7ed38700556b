use Rattle.base.proofs.Listing.{lists_push}
use Rattle.base.proofs.lists.Lists.push.Goals as goal

pub returns-clause-ok : goal.returns-clause-ok
returns-clause-ok g c =
    rw (c.in_ok-extend.ensures.items, c.in_default.ensures.items, ← c.self.view_is, c.len.ensures, c.self.inside.items.ok.0) (lists_push c.self.inside.items.items c.args.list.now c.self.inside.spans.items c.self.invariant)
