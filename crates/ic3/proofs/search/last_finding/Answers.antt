use Rattle.std.proofs.Common.{sym, subst}
use Rattle.graph.specs.declared.circuit.Property.TheVariants.{Bad}
use Rattle.engine.specs.Bounds.{IsClear}
use Rattle.ic3.proofs.search.last_finding.Goals as goal

pub returns-in-None : goal.returns-in-None
returns-in-None c = λ after. record {
  so = subst (IsClear c.args.circuit.now (Bad 0)) (sym c.top.ensures) c.requires.deep.clear;
  decided = (c.top.ensures, record { laws = c.requires.laws; apart = c.in_ok-clauses.ensures.none c.in-None.is; many = c.requires.deep.many });
}
