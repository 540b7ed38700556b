use Rattle.std.proofs.Common.{sym, ◌∙◌}
use Rattle.graph.specs.declared.circuit.Property.TheVariants.{Bad}
use Rattle.graph.proofs.model.Model.for_bad.Goals as goal

pub with_bad-requires : goal.with_bad-requires
with_bad-requires c = rw (← c.self.view_is) (Bad c.args.n, sym (rw c.as_slice.ensures at c.nth.ensures) ∙ c.in-Some.is)
