use Rattle.std.proofs.Common.{inl, inr, refl}
use Rattle.unrolling.proofs.frame.function_of.Goals as goal

pub entry-requires : goal.entry-requires
entry-requires c = c.requires _ (inl refl)

pub entry-requires-2 : goal.entry-requires-2
entry-requires-2 c = c.requires _ (inr (inl refl))

pub entry-requires-3 : goal.entry-requires-3
entry-requires-3 c = c.requires _ (inr (inr (inl refl)))

pub entry-requires-4 : goal.entry-requires-4
entry-requires-4 c = c.requires _ (inr (inr (inr refl)))
