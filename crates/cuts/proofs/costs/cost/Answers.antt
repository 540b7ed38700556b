use Rattle.std.proofs.Common.{inl, inr, refl}
use Rattle.cuts.proofs.costs.cost.Goals as goal

pub leaf_cost-requires : goal.leaf_cost-requires
leaf_cost-requires c = c.requires c.args.cut.leaves.0 (inl refl)

pub leaf_cost-requires-2 : goal.leaf_cost-requires-2
leaf_cost-requires-2 c = c.requires c.args.cut.leaves.1 (inr (inl refl))

pub leaf_cost-requires-3 : goal.leaf_cost-requires-3
leaf_cost-requires-3 c = c.requires c.args.cut.leaves.2 (inr (inr (inl refl)))

pub leaf_cost-requires-4 : goal.leaf_cost-requires-4
leaf_cost-requires-4 c = c.requires c.args.cut.leaves.3 (inr (inr (inr refl)))
