use Rattle.std.proofs.Common.{rules, ◌≡◌, ◌+◌, ◌∙◌, SFits, w32, sym, subst}
use Rattle.std.proofs.lemmas.List.Elements.{All-contains}
use Rattle.graph.specs.WellFormed.{used}
use Rattle.lrat.specs.Literals.{IsLiteral}
use Rattle.lrat.proofs.Fit.{read32}
use Rattle.cnf.specs.Clauses.{literal}
use Rattle.cnf.specs.Formulas.{IsInRange}
use Rattle.cnf.proofs.Formed.{bad_unit_from}
use Rattle.cnf.proofs.units.bad_unit.Goals as goal

pub literal-requires-clause-in_range : goal.literal-requires-clause-in_range
literal-requires-clause-in_range c =
    let m = c.args.circuit.now in
    rw c.first.ensures.max_var (All-contains (IsInRange m.max_var) (used m) c.args.bad c.well_formed-2.ensures.used_in_range c.requires)

pub returns-clause-in_range : goal.returns-clause-in_range
returns-clause-in_range c =
    let f : SFits w32 c.literal.result = search rules in
    let e : c.literal.result ≡ literal c.args.circuit.now.max_var 0 c.args.bad = search rules in
    subst (λ l. IsLiteral (c.args.circuit.now.max_var + 1) l) (sym (read32 _ f ∙ e)) (bad_unit_from c.args.circuit.now c.args.bad c.well_formed-2.ensures c.requires)
