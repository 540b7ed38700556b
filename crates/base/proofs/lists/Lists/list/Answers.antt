use Rattle.std.proofs.Common.{rules}
use Rattle.base.proofs.Listing.{list_here}
use Rattle.base.proofs.lists.Lists.list.Goals as goal

pub returns : goal.returns
returns g c =
    rw (← c.self.view_is, c.deref.ensures.value) (list_here c.self.inside.items.items c.self.inside.spans.items c.args.index c.index-span.result.now (rw (← c.self.view_is) at c.requires) (search rules))
