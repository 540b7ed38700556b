use Rattle.std.proofs.Common.{rules, ◌≡◌, ◌+◌, ◌≤◌, sym, subst}
use Rattle.cnf.specs.Clauses.{init_units}
use Rattle.cnf.proofs.CaseLaws.{clause_range}
use Rattle.cnf.proofs.Formed.{IsClauseFrom, init_units_from}
use Rattle.cnf.proofs.units.init_units_into.Goals as goal

pub push_denials-requires-clause-in_range : goal.push_denials-requires-clause-in_range
push_denials-requires-clause-in_range c = rw c.first.ensures.max_var (clause_range c.args.circuit.now c.args.clause.now c.well_formed-2.ensures c.requires)

pub returns-clause-in_range : goal.returns-clause-in_range
returns-clause-in_range c =
    let e : c.push_denials.new.literals.items ≡ init_units c.args.circuit.now c.args.clause.now = search rules in
    subst (λ ls. IsClauseFrom (λ u. u ≤ c.args.circuit.now.max_var + 1) ls) (sym e) (init_units_from c.args.circuit.now c.args.clause.now c.well_formed-2.ensures c.requires)
