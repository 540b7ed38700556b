use Rattle.std.proofs.Common.{◌+◌, subst, sym}
use Rattle.std.proofs.lemmas.List.{length-replicate}
use Rattle.simulate.specs.Wides.{AreDefinedOnly}
use Rattle.simulate.proofs.WideLaws.{blank_in}
use Rattle.simulate.proofs.wide.Wide.new.Goals as goal

pub invariant_of-result : goal.invariant_of-result
invariant_of-result c =
    let m = c.args.circuit.now in (
      rw (c.in_ok-state.ensures) c.requires,
      rw (c.in_ok-values.ensures, c.parts-parts.ensures.parts) (length-replicate (m.max_var + 1) c.all.result),
      subst (AreDefinedOnly m) (sym c.in_ok-values.ensures) (blank_in m c.all.result _ c.all.ensures),
      rw (c.as_slice-2.ensures, c.parts-parts.ensures.parts) at c.in_ok-gates.ensures,
    )
