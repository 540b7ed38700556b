use Rattle.std.proofs.Common.{inl, inr, refl}
use Rattle.cuts.proofs.Joined.{composed_over}
use Rattle.cuts.proofs.cut.Cut.table_over.Goals as goal

pub table_in-requires : goal.table_in-requires
table_in-requires c = c.requires c.args.self.leaves.0 (inr (inl refl))

pub table_in-requires-2 : goal.table_in-requires-2
table_in-requires-2 c = c.requires c.args.self.leaves.1 (inr (inr (inl refl)))

pub table_in-requires-3 : goal.table_in-requires-3
table_in-requires-3 c = c.requires c.args.self.leaves.2 (inr (inr (inr (inl refl))))

pub table_in-requires-4 : goal.table_in-requires-4
table_in-requires-4 c = c.requires c.args.self.leaves.3 (inr (inr (inr (inr refl))))

pub returns : goal.returns
returns c = λ w constant. composed_over w c.args.leaves c.args.self c.composed.result c.table_in.result c.table_in-2.result c.table_in-3.result c.table_in-4.result c.composed.ensures
    (c.table_in.ensures w constant) (c.table_in-2.ensures w constant) (c.table_in-3.ensures w constant) (c.table_in-4.ensures w constant)
