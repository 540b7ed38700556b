use Rattle.std.proofs.Common.{sym, ◌∙◌}
use Rattle.graph.specs.declared.circuit.Property.TheVariants.{Output}
use Rattle.graph.proofs.model.Model.for_output.Goals as goal

pub with_bad-requires : goal.with_bad-requires
with_bad-requires c = rw (← c.self.view_is) (
  Output c.args.n,
  (c.are_outputs_bad.ensures.0 c.if-not-are_outputs_bad.false, sym (rw c.as_slice.ensures at c.nth.ensures) ∙ c.in-Some.is),
)
